-- Types that satisfy the rules give entries that are equal by force one type, and what is inside an entry a smaller one: so no cycle.
use mathlib.Core.Path.{◌≡◌, refl, sym, ◌∙◌, subst, ap}
use mathlib.Core.List.{List}
use Prim.Native.Nat.{ℕ, suc, ◌+◌, ◌<◌}
use native.Mathlib.Omega.{arith}
use Rattle.classes.specs.Bounds.{bound}
use Rattle.classes.specs.Forced.{Rule, Forced}
use Rattle.classes.specs.declared.Bound.{Bound}
use Rattle.classes.specs.declared.Bound.TheVariants.{Sum, Product}
use Rattle.typing.specs.Types.{Ty, Has, Satisfies}
use Rattle.typing.specs.Endless.{Part, Inside, Cyclic, Endless}

module _ {bounds : List Bound} {rules : List Rule} {v : ℕ → Ty} (s : Satisfies bounds rules v) where
  pub has_form : (a : ℕ) (b : Bound) → bound bounds a ≡ b → Has v b (v a)
  has_form a b e = subst (λ (x : Bound). Has v x (v a)) e (s.form a)

  pub respects : {a b : ℕ} → Forced bounds rules a b → v a ≡ v b
  respects (Forced.by_rule {r = r} m) = s.meets r m
  respects Forced.itself = refl
  respects (Forced.turned f) = sym (respects f)
  respects (Forced.chain f g) = respects f ∙ respects g
  respects (Forced.sum_left {a = a} {b = b} {l = l} {r = r} {m = m} {s = n} f e g) =
      let one = has_form a (Sum l r) e in
      let other = has_form b (Sum m n) g in
      let same = respects f in
      cc
  respects (Forced.sum_right {a = a} {b = b} {l = l} {r = r} {m = m} {s = n} f e g) =
      let one = has_form a (Sum l r) e in
      let other = has_form b (Sum m n) g in
      let same = respects f in
      cc
  respects (Forced.product_left {a = a} {b = b} {l = l} {r = r} {m = m} {s = n} f e g) =
      let one = has_form a (Product l r) e in
      let other = has_form b (Product m n) g in
      let same = respects f in
      cc
  respects (Forced.product_right {a = a} {b = b} {l = l} {r = r} {m = m} {s = n} f e g) =
      let one = has_form a (Product l r) e in
      let other = has_form b (Product m n) g in
      let same = respects f in
      cc

-- how large a type is
abbrev pub size : Ty → ℕ
size Ty.one = 0
size (Ty.sum l r) = suc (size l + size r)
size (Ty.product l r) = suc (size l + size r)

module _ {bounds : List Bound} {rules : List Rule} {v : ℕ → Ty} (s : Satisfies bounds rules v) where
  pub part_is_smaller : {a b : ℕ} → Part bounds rules a b → size (v b) < size (v a)
  part_is_smaller (Part.sum_left {a} {m} {l} {r} f e) =
      let whole : size (v a) ≡ suc (size (v l) + size (v r)) = ap size (respects s f ∙ has_form s m (Sum l r) e) in
      omega (arith, whole)
  part_is_smaller (Part.sum_right {a} {m} {l} {r} f e) =
      let whole : size (v a) ≡ suc (size (v l) + size (v r)) = ap size (respects s f ∙ has_form s m (Sum l r) e) in
      omega (arith, whole)
  part_is_smaller (Part.product_left {a} {m} {l} {r} f e) =
      let whole : size (v a) ≡ suc (size (v l) + size (v r)) = ap size (respects s f ∙ has_form s m (Product l r) e) in
      omega (arith, whole)
  part_is_smaller (Part.product_right {a} {m} {l} {r} f e) =
      let whole : size (v a) ≡ suc (size (v l) + size (v r)) = ap size (respects s f ∙ has_form s m (Product l r) e) in
      omega (arith, whole)

  pub inside_is_smaller : {a b : ℕ} → Inside bounds rules a b → size (v b) < size (v a)
  inside_is_smaller (Inside.near p) = part_is_smaller p
  inside_is_smaller (Inside.deeper {a} {b} {c} p i) = omega (arith, part_is_smaller p, inside_is_smaller i)

  pub no_class_is_cyclic : (a : ℕ) → Cyclic bounds rules a → ⊥
  no_class_is_cyclic a (b, i, f) = omega (arith, inside_is_smaller i, ap size (respects s f))

  -- where some types satisfy the rules, nothing is endless
  pub nothing_is_endless : {a : ℕ} → Endless bounds rules a → ⊥
  nothing_is_endless (Endless.is {a} c) = no_class_is_cyclic a c
  nothing_is_endless (Endless.contains {a} {b} i c) = no_class_is_cyclic b c
