-- The model of an offer: what the nodes kept come to, computed, and an answer that is the one they fix.
use mathlib.Core.Option.{Option, none, some}
use mathlib.Core.List.{List, [], ◌∷◌, ◌++◌}
use Prim.Native.Nat.{ℕ, ◌+◌, ◌-◌, ◌*◌, ◌^◌, ◌≤◌, ◌<◌}
use native.Mathlib.Decide.{dec_le, dec_lt}
use native.Mathlib.Omega.{arith}
use lib.ListN.{length, get_or, length-append}
use Rattle.classes.specs.Table.{Table, fresh}
use Rattle.nodes.specs.Layout.{Program, Proper, says, word_of, children, row_of, grown, standing, opened}
use Rattle.nodes.specs.declared.Node.{Node}
use Rattle.nodes.specs.declared.Record.TheVariants.{Offer}
use Rattle.types.specs.Answers.{Below, Answered}
use Rattle.types.specs.Answers.Answered.{over_31, full, no_child, keeps, refuses}
use Rattle.combinators.specs.Entered.{entered}
use Rattle.nodes.specs.Kept.{row_numbers}
use Rattle.types.specs.States.{Standing}
use Rattle.types.specs.declared.Answer.{Answer}
use Rattle.types.specs.declared.Answer.TheVariants.{Kept, Malformed, Full, NoChild, Clashes}
use Rattle.types.proofs.Stood.{Stood, stood, offer_fits, offer_clashes}
use Rattle.cases.proofs.Whatever.{Whatever, and_then, whatever_then}
use Rattle.cases.proofs.Rules.{Joined, Joins, join_all, all_joined}
use Rattle.cases.proofs.Deciding.{each_below}

-- the nodes kept, their program, their rows, and the class table
pub record Held : Type 0 where
  pub nodes : List Node
  pub program : Program
  pub numbers : List ℕ
  pub classes : Table

abbrev pub held : List Node → Program → List ℕ → Table → Held
held ns p ms t = record { nodes = ns; program = p; numbers = ms; classes = t }

-- nothing kept yet, in tables of so many rows
abbrev pub begin : ℕ → Held
begin rows = held [] opened [] (entered (fresh rows) standing)

-- in tables of so many rows, which are enough: the nodes were all kept, and came to this
pub record Good (rows : ℕ) (k : Held) : Type 0 where
  pub small : rows < 2 ^ 16
  pub room : 33 + 8 * length k.nodes ≤ rows
  pub stands : Standing rows k.nodes k.program k.numbers k.classes

-- what is known of them
pub known : {rows : ℕ} {k : Held} → Good rows k → Stood rows k.nodes k.program k.numbers k.classes
known g = stood g.small g.room g.stands

-- at most so many nodes are kept
abbrev pub most : ℕ
most = 1024

-- the checks of an offer, each from what the one after it answers; where the rows do not suffice nothing is answered
module _ (rows fuel : ℕ) (k : Held) (n : Node) where
  abbrev after_joins : Joined → Answer × Held
  after_joins (Joined.all u) = (
    Kept (length k.nodes) (u.links - k.classes.links),
    held (k.nodes ++ (n ∷ [])) (grown k.program n) (k.numbers ++ row_numbers n (row_of k.program n).gives k.classes.entries k.classes.links) u,
  )
  after_joins (Joined.stop i) = (Clashes (get_or (row_of k.program n).needs i (says 0 0 0)).number, k)

  abbrev joins : Option Joined
  joins = join_all fuel (row_of k.program n).needs (entered k.classes (row_of k.program n).entries)

  abbrev after_room : Dec (33 + 8 * (length k.nodes + 1) ≤ rows) → Option (Answer × Held)
  after_room (no few) = none
  after_room (yes room) = and_then joins (λ j. some (after_joins j))

  abbrev after_children : Dec (Below (length k.nodes) n) → Option (Answer × Held)
  after_children (no missing) = some (NoChild, k)
  after_children (yes below) = after_room (dec_le (33 + 8 * (length k.nodes + 1)) rows)

  abbrev after_place : Dec (length k.nodes < most) → Option (Answer × Held)
  after_place (no past) = some (Full, k)
  after_place (yes few) = after_children (each_below (length k.nodes) (children n))

  abbrev after_word : Dec (Proper n) → Option (Answer × Held)
  after_word (no over) = some (Malformed, k)
  after_word (yes proper) = after_place (dec_lt (length k.nodes) most)

  abbrev pub offer : Option (Answer × Held)
  offer = after_word (dec_le (word_of n) 31)

  -- what is answered is what the nodes kept fix, and the nodes kept then come to what is held then
  abbrev pub Offers : Answer × Held → Type 0
  Offers o = Answered most k.nodes (Offer n) o.0 o.1.nodes × Good rows o.1

  module _ (g : Good rows k) where
    module _ (proper : Proper n) (few : length k.nodes < most) (below : Below (length k.nodes) n) where
      joins_offer : 33 + 8 * (length k.nodes + 1) ≤ rows → (j : Joined) →
          Joins (entered k.classes (row_of k.program n).entries) (row_of k.program n).needs j → Offers (after_joins j)
      joins_offer room (Joined.all u) m = (
        keeps proper few below (offer_fits (known g) n proper below room m),
        record {
          small = g.small;
          room = omega (arith, room, length-append k.nodes (n ∷ []));
          stands = Standing.kept n g.stands proper below m;
        },
      )
      joins_offer room (Joined.stop i) m = (refuses proper few below (offer_clashes (known g) n proper below room m.1), g)

      room_offers : (d : Dec (33 + 8 * (length k.nodes + 1) ≤ rows)) → Whatever Offers (after_room d)
      room_offers (no none_left) = tt
      room_offers (yes room) = whatever_then _ Offers (λ j. some (after_joins j)) (joins_offer room) joins (all_joined fuel (row_of k.program n).needs (entered k.classes (row_of k.program n).entries))

    children_offer : Proper n → length k.nodes < most → (d : Dec (Below (length k.nodes) n)) → Whatever Offers (after_children d)
    children_offer proper few (no missing) = (no_child proper few missing, g)
    children_offer proper few (yes below) = room_offers proper few below (dec_le (33 + 8 * (length k.nodes + 1)) rows)

    place_offers : Proper n → (d : Dec (length k.nodes < most)) → Whatever Offers (after_place d)
    place_offers proper (no past) = (full proper (omega (arith, past)), g)
    place_offers proper (yes few) = children_offer proper few (each_below (length k.nodes) (children n))

    word_offers : (d : Dec (Proper n)) → Whatever Offers (after_word d)
    word_offers (no over) = (over_31 over, g)
    word_offers (yes proper) = place_offers proper (dec_lt (length k.nodes) most)

    pub offer_answers : Whatever Offers offer
    offer_answers = word_offers (dec_le (word_of n) 31)
