-- No second typing closes, whatever the bounds and the rules.
use mathlib.Core.Path.{◌≡◌, refl, sym, ◌∙◌}
use mathlib.Core.Logic.{by_cases}
use mathlib.Core.List.{List}
use Prim.Native.Nat.{ℕ, suc, ◌<◌}
use native.Mathlib.Omega.{arith}
use Rattle.classes.specs.Bounds.{bound}
use Rattle.classes.specs.Forced.{Rule, Forced}
use Rattle.classes.specs.declared.Bound.{Bound}
use Rattle.classes.specs.declared.Bound.TheVariants.{Free, Unit, Sum, Product}
use Rattle.typing.specs.Types.{Ty, Ty-discrete, Unbound, Closes}
use Rattle.typing.specs.Endless.{Part}
use Rattle.typing.proofs.Respects.{has_form, respects, size, part_is_smaller}

module _ {bounds : List Bound} {rules : List Rule} {v w : ℕ → Ty} (c : Closes bounds rules v) (d : Closes bounds rules w) where
  -- an entry on which they differ, while they agree on its parts, has no bound
  differ_so_free : (a : ℕ) → ((x : ℕ) → size (v x) < size (v a) → v x ≡ w x) → (v a ≡ w a → ⊥) →
      (m : ℕ) → Forced bounds rules a m → (b : Bound) → bound bounds m ≡ b → b ≡ Free
  differ_so_free a parts differ m f Free e = refl
  differ_so_free a parts differ m f Unit e =
      absurd (differ (respects c.satisfies f ∙ has_form c.satisfies m Unit e ∙ sym (respects d.satisfies f ∙ has_form d.satisfies m Unit e)))
  differ_so_free a parts differ m f (Sum l r) e =
      let one = respects c.satisfies f ∙ has_form c.satisfies m (Sum l r) e in
      let other = respects d.satisfies f ∙ has_form d.satisfies m (Sum l r) e in
      let left = parts l (part_is_smaller c.satisfies (Part.sum_left f e)) in
      let right = parts r (part_is_smaller c.satisfies (Part.sum_right f e)) in
      absurd (differ cc)
  differ_so_free a parts differ m f (Product l r) e =
      let one = respects c.satisfies f ∙ has_form c.satisfies m (Product l r) e in
      let other = respects d.satisfies f ∙ has_form d.satisfies m (Product l r) e in
      let left = parts l (part_is_smaller c.satisfies (Part.product_left f e)) in
      let right = parts r (part_is_smaller c.satisfies (Part.product_right f e)) in
      absurd (differ cc)

  -- by size: and what stayed free is unit in both
  agree_below : (n a : ℕ) → size (v a) < n → v a ≡ w a
  agree_below ℕ.zero a h = absurd (omega (arith, h))
  agree_below (ℕ.suc n) a h = by_cases (Ty-discrete (v a) (w a)) (λ same. same)
      (λ differ.
      let free : Unbound bounds rules a = λ m f. differ_so_free a (λ x less. agree_below n x (omega (arith, less, h))) differ m f (bound bounds m) refl in
      c.plain a free ∙ sym (d.plain a free))

  pub closes_one : (a : ℕ) → v a ≡ w a
  closes_one a = agree_below (suc (size (v a))) a (omega arith)
