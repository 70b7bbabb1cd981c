-- The model of a closing: every node's source and target walked in order, and the answer and the listing that the nodes kept fix.
use mathlib.Core.Path.{◌≡◌, refl, sym, ap, ◌∙◌, subst}
use mathlib.Core.Logic.{◌⊎◌, inl, inr}
use mathlib.Core.Option.{Option, some}
use mathlib.Core.List.{List, [], ◌∷◌, ◌++◌, append-nil}
use Prim.Native.Nat.{ℕ, suc, ◌-◌, ◌*◌, ◌^◌, ◌<◌}
use native.Mathlib.Omega.{arith}
use lib.ListN.{length, drop, replicate}
use lib.Seq.{drop-nil}
use Rattle.classes.specs.Forced.{Rule}
use Rattle.classes.specs.Table.{Table, bounds}
use Rattle.classes.specs.Made.{Stands}
use Rattle.typing.specs.Types.{Ty}
use Rattle.typing.specs.Finite.{Finite}
use Rattle.typing.specs.Endless.{Endless}
use Rattle.typing.specs.Listing.{TypeArrow, types_of, listing}
use Rattle.nodes.specs.Kept.{source_at, target_at}
use Rattle.closing.specs.Closings.{from_to, Typed, ClosedBy}
use Rattle.std.specs.Prelude.{Ok, Err}
use Rattle.nodes.specs.Layout.{rules_of}
use Rattle.nodes.specs.declared.Node.{Node}
use Rattle.nodes.specs.declared.Record.TheVariants.{Close}
use Rattle.types.specs.Answers.{Answered}
use Rattle.types.specs.Closings.{no_listing, Lists}
use Rattle.types.specs.States.{state, Standing, Opened}
use Rattle.types.specs.declared.Answer.{Answer}
use Rattle.types.specs.declared.Answer.TheVariants.{Closed, Endless as AnsweredEndless}
use Rattle.types.proofs.Answering.{closing_answered, closing_shown, source_is, target_is}
use Rattle.cases.proofs.Whatever.{Whatever, and_then, whatever_then}
use Rattle.cases.proofs.Offers.{Held, Good, known, most}
use Rattle.cases.proofs.Walking.{Seen, Visits, walk, walk_visits}

-- the types of the nodes, or the first node that has none
pub data Found : Type 0 where
  types : List TypeArrow → Found
  endless : ℕ → Found

-- node i, from what is seen of its target, of its source, and found of the nodes before it
abbrev with_target : ℕ → List TypeArrow → Ty → Seen → Found
with_target i arrows x (Seen.type y) = Found.types (arrows ++ (from_to x y ∷ []))
with_target i arrows x Seen.again = Found.endless i

abbrev with_source : ℕ → List TypeArrow → Option Seen → Seen → Option Found
with_source i arrows target (Seen.type x) = and_then target (λ y. some (with_target i arrows x y))
with_source i arrows target Seen.again = some (Found.endless i)

abbrev one_more : ℕ → Option Seen → Option Seen → Found → Option Found
one_more i source target (Found.types arrows) = and_then source (with_source i arrows target)
one_more i source target (Found.endless j) = some (Found.endless j)

-- the first n nodes
abbrev find : ℕ → Table → List ℕ → ℕ → Option Found
find fuel t rows ℕ.zero = some (Found.types [])
find fuel t rows (ℕ.suc n) = and_then (find fuel t rows n) (one_more n (walk fuel t [] (source_at rows n)) (walk fuel t [] (target_at rows n)))

module _ (t : Table) (rules : List Rule) (rows : List ℕ) where
  abbrev Finds : ℕ → Found → Type 0
  Finds n (Found.types arrows) = Typed (bounds t) rules rows n arrows
  Finds n (Found.endless i) = (i < n)
      × ((arrows : List TypeArrow) × Typed (bounds t) rules rows i arrows)
      × (Endless (bounds t) rules (source_at rows i) ⊎ Endless (bounds t) rules (target_at rows i))

  module _ (i : ℕ) {arrows : List TypeArrow} (before : Typed (bounds t) rules rows i arrows) where
    last : i < suc i
    last = omega arith

    target_found : {x : Ty} → Finite (bounds t) rules (source_at rows i) x → (y : Seen) → Visits t rules (target_at rows i) y → Finds (suc i) (with_target i arrows x y)
    target_found f (Seen.type y) g = Typed.one_more before f g
    target_found f Seen.again e = (last, (arrows, before), inr e)

    source_found : (target : Option Seen) → Whatever (Visits t rules (target_at rows i)) target → (x : Seen) → Visits t rules (source_at rows i) x → Whatever (Finds (suc i)) (with_source i arrows target x)
    source_found target w (Seen.type x) f = whatever_then _ (Finds (suc i)) (λ y. some (with_target i arrows x y)) (target_found f) target w
    source_found target w Seen.again e = (last, (arrows, before), inl e)

  more_found : (i : ℕ) (source target : Option Seen) → Whatever (Visits t rules (source_at rows i)) source → Whatever (Visits t rules (target_at rows i)) target →
      (f : Found) → Finds i f → Whatever (Finds (suc i)) (one_more i source target f)
  more_found i source target v w (Found.types arrows) before = whatever_then _ (Finds (suc i)) (with_source i arrows target) (source_found i before target w) source v
  more_found i source target v w (Found.endless j) e = (omega (arith, e.0), e.1, e.2)

  all_found : Stands t rules → (fuel n : ℕ) → ((i : ℕ) → i < n → (source_at rows i < t.entries) × (target_at rows i < t.entries)) → Whatever (Finds n) (find fuel t rows n)
  all_found s fuel ℕ.zero live = Typed.none
  all_found s fuel (ℕ.suc n) live =
      let at = live n (omega arith) in
      let before = all_found s fuel n (λ i h. live i (omega (arith, h))) in
      whatever_then (Finds n) (Finds (suc n)) (one_more n (walk fuel t [] (source_at rows n)) (walk fuel t [] (target_at rows n)))
      (more_found n (walk fuel t [] (source_at rows n)) (walk fuel t [] (target_at rows n)) (walk_visits fuel s (source_at rows n) at.0) (walk_visits fuel s (target_at rows n) at.1))
      (find fuel t rows n) before

-- the answer and the listing
abbrev shows : Held → Found → Answer × List ℕ
shows k (Found.types arrows) = (Closed (length k.nodes) (length (types_of [] arrows)), listing arrows)
shows k (Found.endless i) = (AnsweredEndless i, no_listing)

abbrev pub close : ℕ → Held → Option (Answer × List ℕ)
close fuel k = and_then (find fuel k.classes k.numbers (length k.nodes)) (λ f. some (shows k f))

-- what a closing answers does not depend on how many nodes there is room for
closes_anyway : {limit limit' : ℕ} {kept kept' : List Node} {a : Answer} → Answered limit kept Close a kept' → Answered limit' kept Close a kept'
closes_anyway (Answered.closes c) = Answered.closes c
closes_anyway (Answered.endless h e lowest) = Answered.endless h e lowest

-- a listing written over nothing is the listing
over_nothing : (l : List ℕ) → l ++ drop (length l) [] ≡ l
over_nothing l = ap (λ (m : List ℕ). l ++ m) (drop-nil (length l)) ∙ append-nil l

module _ {rows : ℕ} {k : Held} (g : Good rows k) where
  -- what is held is a state with room for just these nodes
  abbrev as_state : Opened (length k.nodes) (state k.classes k.numbers (length k.nodes))
  as_state =
      let wide = (known g).limit_is in
      let long = (known g).long in
      let zero : ℕ = 0 in
      let nothing : 0 ≡ 7 * length k.nodes - length k.numbers = omega (arith, long) in
      record {
        limits =
            record {
              node_rows = long;
              entry_rows = omega (arith, wide, g.room);
              numbered = subst (λ (n : ℕ). n < 2 ^ 16) (sym wide) g.small;
            };
        nodes = k.nodes;
        program = k.program;
        numbers = k.numbers;
        standing = subst (λ (n : ℕ). Standing n k.nodes k.program k.numbers k.classes) (sym wide) g.stands;
        counted = refl;
        fits = omega arith;
        written = sym (append-nil k.numbers) ∙ ap (λ (n : ℕ). k.numbers ++ replicate n zero) nothing;
      }

  live : (i : ℕ) → i < length k.nodes → (source_at k.numbers i < k.classes.entries) × (target_at k.numbers i < k.classes.entries)
  live i h =
      let many = (known g).entries_are in
      let arrows = (known g).arrows_are in (
        omega (arith, source_is as_state i h, many, (known g).ranged.sources i (omega (arith, h, arrows))),
        omega (arith, target_is as_state i h, many, (known g).ranged.targets i (omega (arith, h, arrows))),
      )

  -- what is answered and listed is what the nodes kept fix
  abbrev pub Shows : Answer × List ℕ → Type 0
  Shows a = Answered most k.nodes Close a.0 k.nodes × Lists k.nodes Close a.1

  shown : (f : Found) → Finds k.classes (rules_of k.program.rules) k.numbers (length k.nodes) f → Shows (shows k f)
  shown (Found.types arrows) t =
      let found : ClosedBy (bounds k.classes) (rules_of k.program.rules) k.numbers (length k.nodes) [] (Ok (length (types_of [] arrows))) (listing arrows ++ drop (length (listing arrows)) []) = ClosedBy.types t in
      let (l, lists, is) = closing_shown as_state found in
      (closes_anyway (closing_answered as_state found), subst (Lists k.nodes Close) (sym (over_nothing l) ∙ sym is ∙ over_nothing (listing arrows)) lists)
  shown (Found.endless i) e =
      let found : ClosedBy (bounds k.classes) (rules_of k.program.rules) k.numbers (length k.nodes) [] (Err (record { node = i })) [] = ClosedBy.endless e.0 e.1.1 e.2 in
      (closes_anyway (closing_answered as_state found), closing_shown as_state found)

  pub close_answers : (fuel : ℕ) → Whatever Shows (close fuel k)
  close_answers fuel =
      whatever_then _ Shows (λ f. some (shows k f)) shown (find fuel k.classes k.numbers (length k.nodes)) (all_found k.classes (rules_of k.program.rules) k.numbers (known g).stands fuel (length k.nodes) live)
