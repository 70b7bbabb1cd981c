-- No entry has two types, what is inside an entry with a type has a smaller one, and the types of all entries are a closing.
use mathlib.Core.Path.{◌≡◌, refl, sym, ◌∙◌, ap}
use mathlib.Core.List.{List}
use Prim.Native.Nat.{ℕ, suc, ◌<◌}
use native.Mathlib.Omega.{arith}
use Rattle.classes.specs.Bounds.{bound}
use Rattle.classes.specs.Bounds.Differ.{unit_sum, unit_product, sum_product}
use Rattle.classes.specs.Forced.{Rule, Forced, Clash}
use Rattle.classes.specs.declared.Bound.{Bound}
use Rattle.classes.specs.declared.Bound.TheVariants.{Free, Unit, Sum, Product}
use Rattle.typing.specs.Types.{Ty, Has, Unbound, Closes}
use Rattle.typing.specs.Finite.{Finite}
use Rattle.typing.specs.Endless.{Part, Inside, Cyclic, Endless}
use Rattle.typing.proofs.Respects.{has_form, respects, size}
use Rattle.typing.proofs.Solving.{unlike, sum_is_not_free, product_is_not_free}

module _ {bounds : List Bound} {rules : List Rule} where
  -- a type moves to what is equal by force
  pub finite_equal : {a b : ℕ} {x : Ty} → Forced bounds rules a b → Finite bounds rules a x → Finite bounds rules b x
  finite_equal f (Finite.free u) = Finite.free (λ c g. u c (Forced.chain f g))
  finite_equal f (Finite.unit g e) = Finite.unit (Forced.chain (Forced.turned f) g) e
  finite_equal f (Finite.sum g e p q) = Finite.sum (Forced.chain (Forced.turned f) g) e p q
  finite_equal f (Finite.product g e p q) = Finite.product (Forced.chain (Forced.turned f) g) e p q

  -- what stayed free is unit
  finite_free : {a : ℕ} {x : Ty} → Unbound bounds rules a → Finite bounds rules a x → x ≡ Ty.one
  finite_free u (Finite.free w) = refl
  finite_free u (Finite.unit g h) = refl
  finite_free u (Finite.sum {m = m} g h p q) = absurd (sum_is_not_free (sym h ∙ u m g))
  finite_free u (Finite.product {m = m} g h p q) = absurd (product_is_not_free (sym h ∙ u m g))

  -- a typing that closes gives every entry the type that is forced on it
  pub closes_finite : {v : ℕ → Ty} {a : ℕ} {x : Ty} → Closes bounds rules v → Finite bounds rules a x → v a ≡ x
  closes_finite {a = a} c (Finite.free u) = c.plain a u
  closes_finite c (Finite.unit {m = m} f e) = respects c.satisfies f ∙ has_form c.satisfies m Unit e
  closes_finite c (Finite.sum {m = m} {l = l} {r = r} f e p q) =
      let whole = respects c.satisfies f ∙ has_form c.satisfies m (Sum l r) e in
      let left = closes_finite c p in
      let right = closes_finite c q in
      cc
  closes_finite c (Finite.product {m = m} {l = l} {r = r} f e p q) =
      let whole = respects c.satisfies f ∙ has_form c.satisfies m (Product l r) e in
      let left = closes_finite c p in
      let right = closes_finite c q in
      cc

  module _ (sound : Clash bounds rules → ⊥) where
    -- an entry with a type, equal by force to a sum or a product: its type is one too, with the types of the parts
    finite_sum : {a m l r : ℕ} {x : Ty} → Forced bounds rules a m → bound bounds m ≡ Sum l r → Finite bounds rules a x →
        (y : Ty) × (z : Ty) × (x ≡ Ty.sum y z) × Finite bounds rules l y × Finite bounds rules r z
    finite_sum {m = m} f e (Finite.free u) = absurd (sum_is_not_free (sym e ∙ u m f))
    finite_sum f e (Finite.unit g h) = absurd (unlike sound (Forced.chain (Forced.turned g) f) h e unit_sum)
    finite_sum f e (Finite.sum {x = y} {y = z} g h p q) =
        let same = Forced.chain (Forced.turned g) f in
        (y, z, refl, finite_equal (Forced.sum_left same h e) p, finite_equal (Forced.sum_right same h e) q)
    finite_sum f e (Finite.product g h p q) = absurd (unlike sound (Forced.chain (Forced.turned f) g) e h sum_product)

    finite_product : {a m l r : ℕ} {x : Ty} → Forced bounds rules a m → bound bounds m ≡ Product l r → Finite bounds rules a x →
        (y : Ty) × (z : Ty) × (x ≡ Ty.product y z) × Finite bounds rules l y × Finite bounds rules r z
    finite_product {m = m} f e (Finite.free u) = absurd (product_is_not_free (sym e ∙ u m f))
    finite_product f e (Finite.unit g h) = absurd (unlike sound (Forced.chain (Forced.turned g) f) h e unit_product)
    finite_product f e (Finite.sum g h p q) = absurd (unlike sound (Forced.chain (Forced.turned g) f) h e sum_product)
    finite_product f e (Finite.product {x = y} {y = z} g h p q) =
        let same = Forced.chain (Forced.turned g) f in
        (y, z, refl, finite_equal (Forced.product_left same h e) p, finite_equal (Forced.product_right same h e) q)

    finite_unit : {a m : ℕ} {x : Ty} → Forced bounds rules a m → bound bounds m ≡ Unit → Finite bounds rules a x → x ≡ Ty.one
    finite_unit f e (Finite.free u) = refl
    finite_unit f e (Finite.unit g h) = refl
    finite_unit f e (Finite.sum g h p q) = absurd (unlike sound (Forced.chain (Forced.turned f) g) e h unit_sum)
    finite_unit f e (Finite.product g h p q) = absurd (unlike sound (Forced.chain (Forced.turned f) g) e h unit_product)

    finite_once : {a : ℕ} {x y : Ty} → Finite bounds rules a x → Finite bounds rules a y → x ≡ y
    finite_once (Finite.free u) o = sym (finite_free u o)
    finite_once (Finite.unit f e) o = sym (finite_unit f e o)
    finite_once (Finite.sum f e p q) o =
        let (y, z, is, left, right) = finite_sum f e o in
        let one = finite_once p left in
        let other = finite_once q right in
        cc
    finite_once (Finite.product f e p q) o =
        let (y, z, is, left, right) = finite_product f e o in
        let one = finite_once p left in
        let other = finite_once q right in
        cc

    -- no entry has two types, and what is equal by force has one
    pub finite_as : {a b : ℕ} {x y : Ty} → Finite bounds rules a x → Finite bounds rules b y → Forced bounds rules a b → x ≡ y
    finite_as p q f = finite_once (finite_equal f p) q

    -- a part has a type, and a smaller one
    pub finite_part : {a b : ℕ} {x : Ty} → Part bounds rules a b → Finite bounds rules a x → (y : Ty) × Finite bounds rules b y × (size y < size x)
    finite_part (Part.sum_left f e) p =
        let (y, z, is, left, right) = finite_sum f e p in
        (y, left, omega (arith, ap size is))
    finite_part (Part.sum_right f e) p =
        let (y, z, is, left, right) = finite_sum f e p in
        (z, right, omega (arith, ap size is))
    finite_part (Part.product_left f e) p =
        let (y, z, is, left, right) = finite_product f e p in
        (y, left, omega (arith, ap size is))
    finite_part (Part.product_right f e) p =
        let (y, z, is, left, right) = finite_product f e p in
        (z, right, omega (arith, ap size is))

    pub finite_inside : {a b : ℕ} {x : Ty} → Inside bounds rules a b → Finite bounds rules a x → (y : Ty) × Finite bounds rules b y × (size y < size x)
    finite_inside (Inside.near p) q = finite_part p q
    finite_inside (Inside.deeper p i) q =
        let (y, its, less) = finite_part p q in
        let (z, own, lesser) = finite_inside i its in
        (z, own, omega (arith, less, lesser))

    finite_is_not_cyclic : {a : ℕ} {x : Ty} → Finite bounds rules a x → Cyclic bounds rules a → ⊥
    finite_is_not_cyclic p (b, i, f) =
        let (y, its, less) = finite_inside i p in
        omega (arith, less, ap size (finite_as its p f))

    -- an endless entry has no type
    pub finite_is_not_endless : {a : ℕ} {x : Ty} → Finite bounds rules a x → Endless bounds rules a → ⊥
    finite_is_not_endless p (Endless.is c) = finite_is_not_cyclic p c
    finite_is_not_endless p (Endless.contains i c) = finite_is_not_cyclic (finite_inside i p).1 c

    module _ (v : ℕ → Ty) (each : (a : ℕ) → Finite bounds rules a (v a)) where
      has_finite : (a : ℕ) (b : Bound) → bound bounds a ≡ b → Has v b (v a)
      has_finite a Free e = tt
      has_finite a Unit e = finite_once (each a) (Finite.unit Forced.itself e)
      has_finite a (Sum l r) e = finite_once (each a) (Finite.sum Forced.itself e (each l) (each r))
      has_finite a (Product l r) e = finite_once (each a) (Finite.product Forced.itself e (each l) (each r))

      -- where every entry has a type, these types close
      pub all_finite_closes : Closes bounds rules v
      all_finite_closes =
          record {
            satisfies =
                record {
                  form = λ a. has_finite a (bound bounds a) refl;
                  meets = λ r m. finite_as (each r.one) (each r.other) (Forced.by_rule m);
                };
            plain = λ a u. finite_once (each a) (Finite.free u);
          }

-- the standing entries have types
module _ {bounds : List Bound} {rules : List Rule} (many : ℕ)
    (unit : bound bounds 0 ≡ Unit)
    (two : bound bounds 1 ≡ Sum 0 0)
    (square : (k : ℕ) → suc (suc k) < many → bound bounds (suc (suc k)) ≡ Product (suc k) (suc k)) where
  pub standing_finite : (i : ℕ) → i < many → (x : Ty) × Finite bounds rules i x
  standing_finite ℕ.zero h = (Ty.one, Finite.unit Forced.itself unit)
  standing_finite (ℕ.suc ℕ.zero) h =
      let one = Finite.unit Forced.itself unit in
      (Ty.sum Ty.one Ty.one, Finite.sum Forced.itself two one one)
  standing_finite (ℕ.suc (ℕ.suc k)) h =
      let (x, before) = standing_finite (suc k) (omega (arith, h)) in
      (Ty.product x x, Finite.product Forced.itself (square k h) before before)
