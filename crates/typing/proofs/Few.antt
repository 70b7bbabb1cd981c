-- At most as many types are listed as there are entries.
use mathlib.Core.Path.{◌≡◌, refl, sym, ◌∙◌, subst}
use mathlib.Core.Logic.{by_cases, ite, if_pos, if_neg, ⊎_elim}
use mathlib.Core.List.Memᴰ
use mathlib.Core.List.{List, [], ◌∷◌, Memᴰ}
use Prim.Native.Nat.{ℕ, suc, ◌+◌, ◌≤◌, ◌<◌}
use native.Mathlib.Decide.{ℕ_discrete}
use native.Mathlib.Omega.{arith}
use lib.ListN.{length, length-append}
use Rattle.classes.specs.Bounds.{bound}
use Rattle.classes.specs.Forced.{Rule}
use Rattle.classes.specs.Table.{Table, bounds}
use Rattle.classes.specs.Made.{Stands}
use Rattle.classes.specs.declared.Bound.{Bound}
use Rattle.classes.specs.declared.Bound.TheVariants.{Free, Unit, Sum, Product}
use Rattle.typing.specs.Types.{Ty, Ty-discrete, Closes}
use Rattle.typing.specs.Endless.{Part}
use Rattle.typing.specs.Listing.{with_type, walked, TypeArrow, types_of}
use Rattle.typing.proofs.Respects.{has_form, respects, size, part_is_smaller}
use Rattle.typing.proofs.Solving.{Solved}
use Rattle.typing.proofs.FromTable.{sum_parts_there, product_parts_there, solved}
use Rattle.typing.proofs.Listed.{stands_already, added_at_the_end, with_itself, with_others}

-- whether t is in ts
stands? : (t : Ty) (ts : List Ty) → Dec (Memᴰ t ts)
stands? t [] = no Memᴰ.not-nil
stands? t (x ∷ ts) = by_cases (Ty-discrete t x)
    (λ e. yes (Memᴰ.head e))
    (λ other. by_cases (stands? t ts) (λ m. yes (Memᴰ.tail m)) (λ absent. no (λ m. ⊎_elim other absent (Memᴰ.cases_cons m))))

module _ (v : ℕ → Ty) where
  -- how many of the first n entries have a type that is not in ts
  abbrev missing : List Ty → ℕ → ℕ
  missing ts ℕ.zero = 0
  missing ts (ℕ.suc n) = ite (stands? (v n) ts) (missing ts n) (suc (missing ts n))

  not_missing : (ts : List Ty) (n : ℕ) → Memᴰ (v n) ts → missing ts (suc n) ≡ missing ts n
  not_missing ts n m = if_pos (stands? (v n) ts) m (missing ts n) (suc (missing ts n))

  one_missing : (ts : List Ty) (n : ℕ) → (Memᴰ (v n) ts → ⊥) → missing ts (suc n) ≡ suc (missing ts n)
  one_missing ts n absent = if_neg (stands? (v n) ts) absent (missing ts n) (suc (missing ts n))

  missing_few : (ts : List Ty) (n : ℕ) → missing ts n ≤ n
  missing_few ts ℕ.zero = omega arith
  missing_few ts (ℕ.suc n) = by_cases (stands? (v n) ts)
      (λ m. omega (arith, not_missing ts n m, missing_few ts n))
      (λ absent. omega (arith, one_missing ts n absent, missing_few ts n))

  -- with more types fewer are missing
  module _ (ts us : List Ty) (more : (t : Ty) → Memᴰ t ts → Memᴰ t us) where
    missing_falls : (n : ℕ) → missing us n ≤ missing ts n
    missing_falls ℕ.zero = omega arith
    missing_falls (ℕ.suc n) = by_cases (stands? (v n) us)
        (λ m. by_cases (stands? (v n) ts)
        (λ k. omega (arith, not_missing us n m, not_missing ts n k, missing_falls n))
        (λ absent. omega (arith, not_missing us n m, one_missing ts n absent, missing_falls n)))
        (λ absent. omega (arith, one_missing us n absent, one_missing ts n (λ m. absent (more (v n) m)), missing_falls n))

    missing_one_less : (a : ℕ) → (Memᴰ (v a) ts → ⊥) → Memᴰ (v a) us → (n : ℕ) → a < n → missing us n < missing ts n
    missing_one_less a absent there ℕ.zero h = absurd (omega (arith, h))
    missing_one_less a absent there (ℕ.suc n) h = by_cases (ℕ_discrete a n)
        (λ e.
        let here = not_missing us n (subst (λ (k : ℕ). Memᴰ (v k) us) e there) in
        let gone = one_missing ts n (subst (λ (k : ℕ). Memᴰ (v k) ts → ⊥) e absent) in
        omega (arith, here, gone, missing_falls n))
        (λ other.
        let less = missing_one_less a absent there n (omega (arith, h, other)) in
        by_cases (stands? (v n) us)
        (λ m. by_cases (stands? (v n) ts)
        (λ k. omega (arith, not_missing us n m, not_missing ts n k, less))
        (λ gone. omega (arith, not_missing us n m, one_missing ts n gone, less)))
        (λ gone. omega (arith, one_missing us n gone, one_missing ts n (λ m. gone (more (v n) m)), less)))

  module _ (n : ℕ) where
    -- each type in ts is that of an entry of its own among the first n
    abbrev Few : List Ty → Type 0
    Few ts = length ts + missing ts n ≤ n

    -- t is the type of one of the first n entries
    abbrev pub TypeOf : Ty → Type 0
    TypeOf t = (a : ℕ) × (a < n) × (v a ≡ t)

    -- and so are its parts
    abbrev AllOf : Ty → Type 0
    AllOf Ty.one = TypeOf Ty.one
    AllOf (Ty.sum l r) = AllOf l × AllOf r × TypeOf (Ty.sum l r)
    AllOf (Ty.product l r) = AllOf l × AllOf r × TypeOf (Ty.product l r)

    with_few : (ts : List Ty) (t : Ty) → Few ts → TypeOf t → Few (with_type ts t)
    with_few ts t few (a, h, is) = by_cases (stands? t ts)
        (λ m. rw (stands_already ts t m) few)
        (λ absent.
        let less = missing_one_less ts (with_type ts t) (with_others ts t) a (λ m. absent (Memᴰ.cast (sym is) m)) (Memᴰ.cast is (with_itself ts t)) n h in
        let longer : length (with_type ts t) ≡ length ts + 1 = rw (added_at_the_end ts t absent) (length-append ts (t ∷ [])) in
        omega (arith, less, longer, few))

    walked_few : (ts : List Ty) (t : Ty) → Few ts → AllOf t → Few (walked ts t)
    walked_few ts Ty.one few of = with_few ts Ty.one few of
    walked_few ts (Ty.sum l r) few (left, right, of) =
        with_few (walked (walked ts l) r) (Ty.sum l r) (walked_few (walked ts l) r (walked_few ts l few left) right) of
    walked_few ts (Ty.product l r) few (left, right, of) =
        with_few (walked (walked ts l) r) (Ty.product l r) (walked_few (walked ts l) r (walked_few ts l few left) right) of

module _ {t : Table} {rules : List Rule} (s : Stands t rules) {v : ℕ → Ty} (c : Closes (bounds t) rules v) where
  shapes : Solved (bounds t) rules
  shapes = solved s c.satisfies

  -- in a typing that closes, the parts of an entry's type are types of entries
  parts_of_entries : (k a : ℕ) → size (v a) < k → a < t.entries → (b : Bound) → bound (bounds t) (shapes.shape a) ≡ b → AllOf v t.entries (v a)
  parts_of_entries ℕ.zero a h there b e = absurd (omega (arith, h))
  parts_of_entries (ℕ.suc k) a h there Free e =
      let is = c.plain a (shapes.alone a e) in
      rw is (a, there, is)
  parts_of_entries (ℕ.suc k) a h there Unit e =
      let is = respects c.satisfies (shapes.of_class a) ∙ has_form c.satisfies (shapes.shape a) Unit e in
      rw is (a, there, is)
  parts_of_entries (ℕ.suc k) a h there (Sum l r) e =
      let is = respects c.satisfies (shapes.of_class a) ∙ has_form c.satisfies (shapes.shape a) (Sum l r) e in
      let (left, right) = sum_parts_there s (shapes.shape a) l r e in
      let one = part_is_smaller c.satisfies (Part.sum_left (shapes.of_class a) e) in
      let other = part_is_smaller c.satisfies (Part.sum_right (shapes.of_class a) e) in
      subst (AllOf v t.entries) (sym is) (
        parts_of_entries k l (omega (arith, one, h)) left (bound (bounds t) (shapes.shape l)) refl,
        parts_of_entries k r (omega (arith, other, h)) right (bound (bounds t) (shapes.shape r)) refl,
        (a, there, is),
      )
  parts_of_entries (ℕ.suc k) a h there (Product l r) e =
      let is = respects c.satisfies (shapes.of_class a) ∙ has_form c.satisfies (shapes.shape a) (Product l r) e in
      let (left, right) = product_parts_there s (shapes.shape a) l r e in
      let one = part_is_smaller c.satisfies (Part.product_left (shapes.of_class a) e) in
      let other = part_is_smaller c.satisfies (Part.product_right (shapes.of_class a) e) in
      subst (AllOf v t.entries) (sym is) (
        parts_of_entries k l (omega (arith, one, h)) left (bound (bounds t) (shapes.shape l)) refl,
        parts_of_entries k r (omega (arith, other, h)) right (bound (bounds t) (shapes.shape r)) refl,
        (a, there, is),
      )

  all_of : (x : Ty) → TypeOf v t.entries x → AllOf v t.entries x
  all_of x (a, h, is) = subst (AllOf v t.entries) is (parts_of_entries (suc (size (v a))) a (omega arith) h (bound (bounds t) (shapes.shape a)) refl)

  types_few : (ts : List Ty) (arrows : List TypeArrow) → Few v t.entries ts →
      ((a : TypeArrow) → Memᴰ a arrows → TypeOf v t.entries a.source × TypeOf v t.entries a.target) → Few v t.entries (types_of ts arrows)
  types_few ts [] few each = few
  types_few ts (a ∷ rest) few each =
      let (source, target) = each a (Memᴰ.head refl) in
      types_few (walked (walked ts a.source) a.target) rest
      (walked_few v t.entries (walked ts a.source) a.target (walked_few v t.entries ts a.source few (all_of a.source source)) (all_of a.target target))
      (λ b m. each b (Memᴰ.tail m))

  -- arrows between types of entries list at most as many types as there are entries
  pub no_more_types_than_entries : (arrows : List TypeArrow) →
      ((a : TypeArrow) → Memᴰ a arrows → TypeOf v t.entries a.source × TypeOf v t.entries a.target) → length (types_of [] arrows) ≤ t.entries
  no_more_types_than_entries arrows each = omega (arith, types_few [] arrows (omega (arith, missing_few v [] t.entries)) each)
