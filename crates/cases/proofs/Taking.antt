-- The model of a take_back: the nodes still kept are put to the model again, from the first.
use mathlib.Core.Path.{◌≡◌, refl, sym, ap, ◌∙◌, subst}
use mathlib.Core.Option.{Option, none, some}
use mathlib.Core.List.{List, [], ◌∷◌, ◌++◌, append-nil, append_assoc}
use Prim.Native.Nat.{ℕ, ◌+◌, ◌<◌}
use native.Mathlib.Decide.{ℕ_discrete, dec_lt}
use native.Mathlib.Omega.{arith}
use lib.ListN.{length, take}
use Rattle.nodes.specs.declared.Node.{Node}
use Rattle.nodes.specs.declared.Record.TheVariants.{Offer, TakeBack}
use Rattle.types.specs.Answers.{Answered}
use Rattle.types.specs.Answers.Answered.{over_31, full, no_child, keeps, refuses, takes_back, too_far}
use Rattle.types.specs.States.{Standing}
use Rattle.types.specs.declared.Answer.{Answer}
use Rattle.types.specs.declared.Answer.TheVariants.{TakenBack, TooFar}
use Rattle.cases.proofs.Whatever.{Whatever, and_then, whatever_then}
use Rattle.cases.proofs.Offers.{Held, Good, begin, most, offer, Offers, offer_answers}

-- an offer after which one node more is kept has kept that node
grew : {limit : ℕ} {kept kept' : List Node} {n : Node} {a : Answer} → Answered limit kept (Offer n) a kept' → length kept' ≡ length kept + 1 → kept' ≡ kept ++ (n ∷ [])
grew (over_31 over) e = absurd (omega (arith, e))
grew (full proper h) e = absurd (omega (arith, e))
grew (no_child proper few missing) e = absurd (omega (arith, e))
grew (keeps proper few below o) e = refl
grew (refuses proper few below o) e = absurd (omega (arith, e))

module _ (rows fuel : ℕ) where
  -- some nodes put to the model one after the other; nothing is answered unless all are kept
  abbrev if_more : (Held → Option Held) → (k h : Held) → Dec (length h.nodes ≡ length k.nodes + 1) → Option Held
  if_more onward k h (yes more) = onward h
  if_more onward k h (no same) = none

  abbrev again : List Node → Held → Option Held
  again [] k = some k
  again (n ∷ ns) k = and_then (offer rows fuel k n) (λ o. if_more (again ns) k o.1 (ℕ_discrete (length o.1.nodes) (length k.nodes + 1)))

  abbrev Again : List Node → Held → Type 0
  Again ns h = (h.nodes ≡ ns) × Good rows h

  more_again : (onward : Held → Option Held) (k : Held) (n : Node) (ns : List Node) → ((h : Held) → Good rows h → Whatever (Again (h.nodes ++ ns)) (onward h)) →
      (o : Answer × Held) → Offers rows fuel k n o → (d : Dec (length o.1.nodes ≡ length k.nodes + 1)) → Whatever (Again (k.nodes ++ (n ∷ ns))) (if_more onward k o.1 d)
  more_again onward k n ns right o answered (no same) = tt
  more_again onward k n ns right o answered (yes more) =
      let is : o.1.nodes ++ ns ≡ k.nodes ++ (n ∷ ns) = ap (λ (xs : List Node). xs ++ ns) (grew answered.0 more) ∙ append_assoc k.nodes (n ∷ []) ns in
      subst (λ (xs : List Node). Whatever (Again xs) (onward o.1)) is (right o.1 answered.1)

  all_again : (ns : List Node) (k : Held) → Good rows k → Whatever (Again (k.nodes ++ ns)) (again ns k)
  all_again [] k g = (sym (append-nil k.nodes), g)
  all_again (n ∷ ns) k g =
      whatever_then (Offers rows fuel k n) (Again (k.nodes ++ (n ∷ ns))) (λ o. if_more (again ns) k o.1 (ℕ_discrete (length o.1.nodes) (length k.nodes + 1)))
      (λ o answered. more_again (again ns) k n ns (all_again ns) o answered (ℕ_discrete (length o.1.nodes) (length k.nodes + 1)))
      (offer rows fuel k n) (offer_answers rows fuel k n g)

  module _ (k : Held) (j : ℕ) where
    abbrev after_far : Dec (length k.nodes < j) → Option (Answer × Held)
    after_far (yes far) = some (TooFar (length k.nodes), k)
    after_far (no near) = and_then (again (take j k.nodes) (begin rows)) (λ h. some (TakenBack j, h))

    abbrev pub take_back : Option (Answer × Held)
    take_back = after_far (dec_lt (length k.nodes) j)

    abbrev pub TakesBack : Answer × Held → Type 0
    TakesBack o = Answered most k.nodes (TakeBack j) o.0 o.1.nodes × Good rows o.1

    module _ (g : Good rows k) where
      begin_good : Good rows (begin rows)
      begin_good = record { small = g.small; room = omega (arith, g.room); stands = Standing.begun }

      far_takes : (d : Dec (length k.nodes < j)) → Whatever TakesBack (after_far d)
      far_takes (yes far) = (too_far far, g)
      far_takes (no near) =
          whatever_then (Again (take j k.nodes)) TakesBack (λ h. some (TakenBack j, h))
          (λ h is. (subst (Answered most k.nodes (TakeBack j) (TakenBack j)) (sym is.0) (takes_back (omega (arith, near))), is.1))
          (again (take j k.nodes) (begin rows)) (all_again (take j k.nodes) (begin rows) begin_good)

      pub take_back_answers : Whatever TakesBack take_back
      take_back_answers = far_takes (dec_lt (length k.nodes) j)
