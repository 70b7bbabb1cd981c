-- An offer that is well formed, has room and has its children: when it is refused for a clash, by which rule, and how
-- many joins it makes otherwise.
use mathlib.Core.Path.{◌≡◌, refl, ap}
use mathlib.Core.Logic.{◌↔◌}
use mathlib.Core.List.{List}
use Prim.Native.Nat.{ℕ, suc, ◌+◌, ◌≤◌}
use native.Mathlib.Omega.{arith}
use lib.ListN.{length, length-append}
use Rattle.classes.specs.Count.{Counted, Classes}
use Rattle.classes.proofs.Laws.{counted_once}
use Rattle.nodes.specs.Layout.{row_of, built}
use Rattle.nodes.specs.declared.Node.{Node}
use Rattle.nodes.specs.declared.Record.TheVariants.{Offer}
use Rattle.types.specs.Answers.{numbers, numbered, before, offered, needs, Offered, Answered}
use Rattle.types.specs.Answers.Offered.{fits, clashes}
use Rattle.types.specs.Answers.Answered.{over_31, full, no_child, keeps, refuses}
use Rattle.types.specs.declared.Answer.{Answer}
use Rattle.types.specs.declared.Answer.TheVariants.{Kept}
use Rattle.types.proofs.Forcing.{clash_all}
use Rattle.types.proofs.Once.{answered_once}
use Rattle.demands.specs.Words.{Admissible, ForcesClash, FirstToClash, number_of, ClassesOf, ClassesWith}

-- what is kept forces no clash
kept_so_not_forced : {kept : List Node} {n : Node} {a : Answer} → Offered kept n a → (numbers a).code ≡ 0 →
    ForcesClash kept n → ⊥
kept_so_not_forced (fits joins was is none c d e) code = none
kept_so_not_forced (clashes k h none clash) code = absurd (omega (arith, code))

pub clash_iff_forced : {most : ℕ} {kept kept' : List Node} {n : Node} {a : Answer} →
    Admissible most kept n → Answered most kept (Offer n) a kept' → ((numbers a).code ≡ 4) ↔ ForcesClash kept n
clash_iff_forced ok (over_31 u) = absurd (u ok.proper)
clash_iff_forced ok (full p f) = absurd (omega (arith, ok.room))
clash_iff_forced ok (no_child p l b) = absurd (b ok.below)
clash_iff_forced ok (keeps p l b o) =
    (λ code. absurd (omega (arith, code)), λ clash. absurd (kept_so_not_forced o refl clash))
clash_iff_forced {kept = kept} {n = n} ok (refuses p l b (clashes k h none clash)) =
    (λ code. clash_all (before kept n).rules (needs kept n) (suc k) clash, λ c. refl)

-- the rule named is the first whose addition brings one, and that one is named
pub named_first : {most : ℕ} {kept kept' : List Node} {n : Node} {a : Answer} →
    Answered most kept (Offer n) a kept' → (numbers a).code ≡ 4 →
    (k : ℕ) × FirstToClash kept n k × ((numbers a).first ≡ number_of kept n k)
named_first (over_31 u) code = absurd (omega (arith, code))
named_first (full p f) code = absurd (omega (arith, code))
named_first (no_child p l b) code = absurd (omega (arith, code))
named_first (keeps p l b o) code = absurd (omega (arith, code))
named_first (refuses p l b (clashes k h none clash)) code =
    (k, record { there = h; not_before = none; with_it = clash }, refl)

pub first_named : {most : ℕ} {kept kept' : List Node} {n : Node} {a : Answer} {k : ℕ} →
    Admissible most kept n → Answered most kept (Offer n) a kept' → FirstToClash kept n k →
    numbers a ≡ numbered 4 (number_of kept n k) 0
first_named {k = k} ok answered f =
    let so = clashes k f.there f.not_before f.with_it in
    ap numbers (answered_once answered (refuses ok.proper ok.room ok.below so)).0

-- there are no more classes than entries
few_classes : {P : ℕ → Type 0} {n m : ℕ} → Counted P n m → m ≤ n
few_classes Counted.none = omega arith
few_classes (Counted.one_more c p) = omega (arith, few_classes c)
few_classes (Counted.passed c p) = omega (arith, few_classes c)

-- what an offer that is kept says of its joins
module _ (kept : List Node) (n : Node) where
  offered_fall : {a : Answer} → Offered kept n a → (numbers a).code ≡ 0 → (was is : ℕ) → ClassesOf kept was →
      ClassesWith kept n is →
      (numbers a).second + is ≡ was + length (row_of (built kept) n).entries
  unfolding Classes
  offered_fall (fits joins was is none c d e) code was' is' c' d' =
      let more = length-append (built kept).bounds (row_of (built kept) n).entries in
      omega (arith, e, counted_once c c', counted_once d d', more)
  offered_fall (clashes k h none clash) code was is c d = absurd (omega (arith, code))

  offered_few : {a : Answer} → Offered kept n a → (numbers a).code ≡ 0 →
      (numbers a).second ≤ length (offered kept n).bounds
  unfolding Classes
  offered_few (fits joins was is none c d e) code = omega (arith, e, few_classes c)
  offered_few (clashes k h none clash) code = absurd (omega (arith, code))

-- joins are the classes before, plus the new entries, less the classes after
pub fall_in_classes : {most : ℕ} {kept kept' : List Node} {n : Node} {i joins : ℕ} →
    Answered most kept (Offer n) (Kept i joins) kept' →
    (was is : ℕ) → ClassesOf kept was → ClassesWith kept n is →
    joins + is ≡ was + length (row_of (built kept) n).entries
fall_in_classes (keeps p l b o) = offered_fall _ _ o refl

pub few_joins : {most : ℕ} {kept kept' : List Node} {n : Node} {i joins : ℕ} →
    Answered most kept (Offer n) (Kept i joins) kept' → joins ≤ length (offered kept n).bounds
few_joins (keeps p l b o) = offered_few _ _ o refl
