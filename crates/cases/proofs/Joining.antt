-- The model of joining: a function that follows `Merges` as long as its fuel lasts, and meets it.
use mathlib.Core.Path.{◌≡◌, refl, sym, ap, ◌∙◌}
use mathlib.Core.Option.{Option, none, some}
use mathlib.Core.List.{List, [], ◌∷◌, ◌++◌}
use Prim.Native.Nat.{ℕ}
use native.Mathlib.Decide.{ℕ_discrete}
use lib.ListN.{length, get_or}
use Rattle.classes.specs.Bounds.{Differ}
use Rattle.classes.specs.Forced.{Rule, equal}
use Rattle.classes.specs.Table.{Table, root, climb, shown_at}
use Rattle.classes.specs.Merging.{Merges, Verdict, meeting, pairs, upper, lower, linked}
use Rattle.classes.specs.Merging.Verdict.{fits, clash}
use Rattle.classes.specs.Merging.Merges.{ends, same, stops, goes}
use Rattle.classes.specs.declared.Bound.{Bound}
use Rattle.classes.specs.declared.Bound.TheVariants.{Free, Unit, Sum, Product}
use Rattle.classes.proofs.Laws.{apart_differ, climb_stays}
use Rattle.cases.proofs.Whatever.{Whatever, whatever_map}

-- the way up, which stops at an entry that is its own parent
abbrev up_from : (List ℕ → ℕ → ℕ) → List ℕ → (a b : ℕ) → Dec (b ≡ a) → ℕ
up_from onward parent a b (yes own) = a
up_from onward parent a b (no moves) = onward parent b

abbrev up : ℕ → List ℕ → ℕ → ℕ
up ℕ.zero parent a = a
up (ℕ.suc n) parent a = up_from (up n) parent a (get_or parent a 0) (ℕ_discrete (get_or parent a 0) a)

abbrev pub top : Table → ℕ → ℕ
top t a = up (length t.parent) t.parent a

up_climbs : (n : ℕ) (parent : List ℕ) (a : ℕ) → up n parent a ≡ climb n parent a
unfolding climb
up_climbs ℕ.zero parent a = refl
up_climbs (ℕ.suc n) parent a = go (ℕ_discrete (get_or parent a 0) a) (up_climbs n parent (get_or parent a 0))
  where
    go : (d : Dec (get_or parent a 0 ≡ a)) → up n parent (get_or parent a 0) ≡ climb n parent (get_or parent a 0) → up_from (up n) parent a (get_or parent a 0) d ≡ climb n parent (get_or parent a 0)
    go (yes own) e = sym (ap (climb n parent) own ∙ climb_stays n parent a own)
    go (no moves) e = e

pub top_is_root : (t : Table) (a : ℕ) → top t a ≡ root t a
top_is_root t a = up_climbs (length t.parent) t.parent a

-- the pairs that two bounds in one class leave to join; nothing for two kinds
abbrev parts : Bound → Bound → Option (List Rule)
parts Free c = some []
parts Unit Free = some []
parts Unit Unit = some []
parts Unit (Sum m s) = none
parts Unit (Product m s) = none
parts (Sum l r) Free = some []
parts (Sum l r) Unit = none
parts (Sum l r) (Sum m s) = some (equal l m ∷ equal r s ∷ [])
parts (Sum l r) (Product m s) = none
parts (Product l r) Free = some []
parts (Product l r) Unit = none
parts (Product l r) (Sum m s) = none
parts (Product l r) (Product m s) = some (equal l m ∷ equal r s ∷ [])

-- bounds with parts to join are not of two kinds
abbrev Alike : Option (List Rule) → Type 0
Alike none = ⊥
Alike (some ps) = Prim.Unit {0}

parts_turned : (b c : Bound) → Alike (parts b c) → Alike (parts c b)
parts_turned Free Free h = tt
parts_turned Free Unit h = tt
parts_turned Free (Sum m s) h = tt
parts_turned Free (Product m s) h = tt
parts_turned Unit Free h = tt
parts_turned Unit Unit h = tt
parts_turned Unit (Sum m s) h = h
parts_turned Unit (Product m s) h = h
parts_turned (Sum l r) Free h = tt
parts_turned (Sum l r) Unit h = h
parts_turned (Sum l r) (Sum m s) h = tt
parts_turned (Sum l r) (Product m s) h = h
parts_turned (Product l r) Free h = tt
parts_turned (Product l r) Unit h = h
parts_turned (Product l r) (Sum m s) h = h
parts_turned (Product l r) (Product m s) h = tt

differ_unlike : {b c : Bound} → Differ b c → Alike (parts b c) → ⊥
differ_unlike Differ.unit_sum h = h
differ_unlike Differ.unit_product h = h
differ_unlike Differ.sum_product h = h
differ_unlike (Differ.turned {b = b} {c = c} d) h = differ_unlike d (parts_turned c b h)

-- what `meeting` says of two bounds; it says of unit and a sum what it says of any two kinds
abbrev Parted : Bound → Bound → Option (List Rule) → Type 0
Parted b c none = meeting b c ≡ meeting Unit (Sum 0 0)
Parted b c (some ps) = (meeting b c ≡ meeting Unit (Sum 0 0) → ⊥) × (pairs (meeting b c) ≡ ps)

parted : (b c : Bound) → Parted b c (parts b c)
parted Free c = (λ e. differ_unlike (apart_differ Free c e) tt, refl)
parted Unit Free = (λ e. differ_unlike (apart_differ Unit Free e) tt, refl)
parted Unit Unit = (λ e. differ_unlike (apart_differ Unit Unit e) tt, refl)
parted Unit (Sum m s) = refl
parted Unit (Product m s) = refl
parted (Sum l r) Free = (λ e. differ_unlike (apart_differ (Sum l r) Free e) tt, refl)
parted (Sum l r) Unit = refl
parted (Sum l r) (Sum m s) = (λ e. differ_unlike (apart_differ (Sum l r) (Sum m s) e) tt, refl)
parted (Sum l r) (Product m s) = refl
parted (Product l r) Free = (λ e. differ_unlike (apart_differ (Product l r) Free e) tt, refl)
parted (Product l r) Unit = refl
parted (Product l r) (Sum m s) = refl
parted (Product l r) (Product m s) = (λ e. differ_unlike (apart_differ (Product l r) (Product m s) e) tt, refl)

-- one turn, and what is to come: two kinds or parts to join; two roots or one; a pair or none
abbrev Onward : Type 0
Onward = Table → List Rule → Option (Verdict × Table)

abbrev by_parts : Onward → Table → List Rule → ℕ → ℕ → Option (List Rule) → Option (Verdict × Table)
by_parts onward t rest stands below none = some (clash, t)
by_parts onward t rest stands below (some ps) = onward (linked t stands below) (ps ++ rest)

abbrev by_roots : Onward → Table → List Rule → (x y : ℕ) → Dec (x ≡ y) → Option (Verdict × Table)
by_roots onward t rest x y (yes e) = onward t rest
by_roots onward t rest x y (no e) =
    by_parts onward t rest (upper t x y) (lower t x y) (parts (shown_at t (upper t x y)) (shown_at t (lower t x y)))

abbrev turn : Onward → Table → List Rule → Option (Verdict × Table)
turn onward t [] = some (fits, t)
turn onward t (r ∷ rest) = by_roots onward t rest (top t r.one) (top t r.other) (ℕ_discrete (top t r.one) (top t r.other))

-- the waiting pairs joined in turn
abbrev pub merge : ℕ → Onward
merge ℕ.zero t waiting = none
merge (ℕ.suc n) t waiting = turn (merge n) t waiting

-- what is answered is what the pairs come to
abbrev Right : Table → List Rule → Option (Verdict × Table) → Type 0
Right t waiting = Whatever (λ m. Merges t waiting m.0 m.1)

module _ (onward : Onward) (right : (t : Table) (waiting : List Rule) → Right t waiting (onward t waiting)) (t : Table) (r : Rule) (rest : List Rule) where
  abbrev x : ℕ
  x = root t r.one

  abbrev y : ℕ
  y = root t r.other

  by_parts_right : (x ≡ y → ⊥) → (o : Option (List Rule)) → Parted (shown_at t (upper t x y)) (shown_at t (lower t x y)) o →
      Right t (r ∷ rest) (by_parts onward t rest (upper t x y) (lower t x y) o)
  by_parts_right two none e = stops two e
  by_parts_right two (some ps) (alike, is) = whatever_map _ _ (λ m k. goes two alike (rw is k)) (onward (linked t (upper t x y) (lower t x y)) (ps ++ rest)) (right _ _)

  by_roots_right : (d : Dec (x ≡ y)) → Right t (r ∷ rest) (by_roots onward t rest x y d)
  by_roots_right (yes e) = whatever_map _ _ (λ m k. same e k) (onward t rest) (right t rest)
  by_roots_right (no two) =
      let one = shown_at t (upper t x y) in
      let other = shown_at t (lower t x y) in
      by_parts_right two (parts one other) (parted one other)

turn_right : (onward : Onward) → ((t : Table) (waiting : List Rule) → Right t waiting (onward t waiting)) → (t : Table) (waiting : List Rule) → Right t waiting (turn onward t waiting)
turn_right onward right t [] = ends
turn_right onward right t (r ∷ rest) = rw (top_is_root t r.one, top_is_root t r.other) (by_roots_right onward right t r rest (ℕ_discrete (root t r.one) (root t r.other)))

pub merge_merges : (n : ℕ) (t : Table) (waiting : List Rule) → Right t waiting (merge n t waiting)
merge_merges ℕ.zero t waiting = tt
merge_merges (ℕ.suc n) t waiting = turn_right (merge n) (merge_merges n) t waiting
