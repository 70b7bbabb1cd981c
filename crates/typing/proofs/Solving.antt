-- Where no class lies inside itself and nothing clashes, the bounds that the classes show give the most general types.
use mathlib.Core.Path.{◌≡◌, refl, sym, ◌∙◌, ap, subst}
use mathlib.Core.List.{List}
use Prim.Native.Nat.{ℕ, suc, ◌+◌, ◌<◌}
use native.Mathlib.Omega.{arith}
use Rattle.classes.specs.Bounds.{bound, Differ}
use Rattle.classes.specs.Bounds.Differ.{unit_sum, unit_product, sum_product}
use Rattle.classes.specs.Forced.{Rule, Forced, Clash}
use Rattle.classes.specs.declared.Bound.{Bound}
use Rattle.classes.specs.declared.Bound.TheVariants.{Free, Unit, Sum, Product}
use Rattle.typing.specs.Types.{Ty, Has, Satisfies, Unbound, Closes}
use Rattle.typing.specs.General.{Open, chosen, Principal}
use Rattle.typing.specs.Endless.{Part}
use Rattle.typing.proofs.Respects.{has_form, respects}

-- each class shows the bound of one of its entries, free only if all are; parts are lower than what they are part of
pub record Solved (bounds : List Bound) (rules : List Rule) : Type 0 where
  pub shape : ℕ → ℕ
  pub of_class : (a : ℕ) → Forced bounds rules a (shape a)
  pub same : (a b : ℕ) → Forced bounds rules a b → shape a ≡ shape b
  pub alone : (a : ℕ) → bound bounds (shape a) ≡ Free → Unbound bounds rules a
  pub sound : Clash bounds rules → ⊥
  pub height : ℕ → ℕ
  pub below : (a b : ℕ) → Part bounds rules a b → height b < height a

-- an open type of the form that a bound asks; c names the class where it is free
abbrev pub formed : (ℕ → Open) → ℕ → Bound → Open
formed o c Free = Open.place c
formed o c Unit = Open.one
formed o c (Sum l r) = Open.sum (o l) (o r)
formed o c (Product l r) = Open.product (o l) (o r)

unit_is_not_free : Unit ≡ Free → ⊥
unit_is_not_free e = let z : ◌≡◌ {A = ℕ} 0 1 = cc in absurd (omega arith)

pub sum_is_not_free : {l r : ℕ} → Sum l r ≡ Free → ⊥
sum_is_not_free e = let z : ◌≡◌ {A = ℕ} 0 1 = cc in absurd (omega arith)

pub product_is_not_free : {l r : ℕ} → Product l r ≡ Free → ⊥
product_is_not_free e = let z : ◌≡◌ {A = ℕ} 0 1 = cc in absurd (omega arith)

-- where nothing clashes, entries of two kinds are not equal by force
pub unlike : {bounds : List Bound} {rules : List Rule} → (Clash bounds rules → ⊥) → {a b : ℕ} {c d : Bound} →
    Forced bounds rules a b → bound bounds a ≡ c → bound bounds b ≡ d → Differ c d → ⊥
unlike {bounds} sound {a} {b} {c} f e g h =
    sound (record { one = a; other = b; forced = f; kinds = subst (λ (x : Bound). Differ x (bound bounds b)) (sym e) (subst (λ (x : Bound). Differ c x) (sym g) h) })

module _ {bounds : List Bound} {rules : List Rule} (s : Solved bounds rules) where
  -- the open type of an entry, down to k levels
  abbrev pub open_to : ℕ → ℕ → Open
  open_to ℕ.zero a = Open.place (s.shape a)
  open_to (ℕ.suc k) a = formed (open_to k) (s.shape a) (bound bounds (s.shape a))

  abbrev pub open_type : ℕ → Open
  open_type a = open_to (suc (s.height a)) a

  pub one_class_one_type : (k a b : ℕ) → Forced bounds rules a b → open_to k a ≡ open_to k b
  one_class_one_type ℕ.zero a b f = ap Open.place (s.same a b f)
  one_class_one_type (ℕ.suc k) a b f = ap (λ (c : ℕ). formed (open_to k) c (bound bounds c)) (s.same a b f)

  -- a form depends on the parts alone
  pub formed_alike : (o p : ℕ → Open) (a c : ℕ) (b : Bound) → bound bounds (s.shape a) ≡ b →
      ((x : ℕ) → Part bounds rules a x → o x ≡ p x) → formed o c b ≡ formed p c b
  formed_alike o p a c Free e alike = refl
  formed_alike o p a c Unit e alike = refl
  formed_alike o p a c (Sum l r) e alike =
      let left = alike l (Part.sum_left (s.of_class a) e) in
      let right = alike r (Part.sum_right (s.of_class a) e) in
      cc
  formed_alike o p a c (Product l r) e alike =
      let left = alike l (Part.product_left (s.of_class a) e) in
      let right = alike r (Part.product_right (s.of_class a) e) in
      cc

  -- levels past the height change nothing
  pub deep_enough : (k m a : ℕ) → s.height a < k → s.height a < m → open_to k a ≡ open_to m a
  deep_enough ℕ.zero m a p q = absurd (omega (arith, p))
  deep_enough (ℕ.suc k) ℕ.zero a p q = absurd (omega (arith, q))
  deep_enough (ℕ.suc k) (ℕ.suc m) a p q =
      formed_alike (open_to k) (open_to m) a (s.shape a) (bound bounds (s.shape a)) refl
      (λ x part. deep_enough k m x (omega (arith, s.below a x part, p)) (omega (arith, s.below a x part, q)))

  -- one level down, on open types themselves
  pub unfolds : (a : ℕ) → open_type a ≡ formed open_type (s.shape a) (bound bounds (s.shape a))
  unfolds a =
      formed_alike (open_to (s.height a)) open_type a (s.shape a) (bound bounds (s.shape a)) refl
      (λ x part. deep_enough (s.height a) (suc (s.height x)) x (s.below a x part) (omega arith))

  pub equal_by_force_equal_types : (a b : ℕ) → Forced bounds rules a b → open_type a ≡ open_type b
  equal_by_force_equal_types a b f =
      let k = suc (s.height a + s.height b) in
      deep_enough (suc (s.height a)) k a (omega arith) (omega arith) ∙ one_class_one_type k a b f ∙ deep_enough k (suc (s.height b)) b (omega arith) (omega arith)

  clashing : (a : ℕ) (b c : Bound) → bound bounds a ≡ b → bound bounds (s.shape a) ≡ c → Differ b c → ⊥
  clashing a b c e g d = unlike s.sound (s.of_class a) e g d

  -- the bound that the class of a shows is of the kind of a's own bound, with equal parts
  pub formed_as_given : (a : ℕ) (b c : Bound) → bound bounds a ≡ b → bound bounds (s.shape a) ≡ c →
      (b ≡ Free → ⊥) → formed open_type (s.shape a) c ≡ formed open_type a b
  formed_as_given a Free c e g h = absurd (h refl)
  formed_as_given a Unit Free e g h = absurd (h (sym e ∙ s.alone a g a Forced.itself))
  formed_as_given a (Sum l r) Free e g h = absurd (h (sym e ∙ s.alone a g a Forced.itself))
  formed_as_given a (Product l r) Free e g h = absurd (h (sym e ∙ s.alone a g a Forced.itself))
  formed_as_given a Unit Unit e g h = refl
  formed_as_given a (Sum l r) (Sum m n) e g h =
      let left = equal_by_force_equal_types l m (Forced.sum_left (s.of_class a) e g) in
      let right = equal_by_force_equal_types r n (Forced.sum_right (s.of_class a) e g) in
      cc
  formed_as_given a (Product l r) (Product m n) e g h =
      let left = equal_by_force_equal_types l m (Forced.product_left (s.of_class a) e g) in
      let right = equal_by_force_equal_types r n (Forced.product_right (s.of_class a) e g) in
      cc
  formed_as_given a Unit (Sum m n) e g h = absurd (clashing a Unit (Sum m n) e g unit_sum)
  formed_as_given a Unit (Product m n) e g h = absurd (clashing a Unit (Product m n) e g unit_product)
  formed_as_given a (Sum l r) Unit e g h = absurd (clashing a (Sum l r) Unit e g (Differ.turned unit_sum))
  formed_as_given a (Product l r) Unit e g h = absurd (clashing a (Product l r) Unit e g (Differ.turned unit_product))
  formed_as_given a (Sum l r) (Product m n) e g h = absurd (clashing a (Sum l r) (Product m n) e g sum_product)
  formed_as_given a (Product l r) (Sum m n) e g h = absurd (clashing a (Product l r) (Sum m n) e g (Differ.turned sum_product))

  -- any choice gives types of the forms that the bounds ask
  pub has_chosen : (f : ℕ → Ty) (a : ℕ) (b : Bound) → bound bounds a ≡ b → Has (λ x. chosen f (open_type x)) b (chosen f (open_type a))
  has_chosen f a Free e = tt
  has_chosen f a Unit e = ap (chosen f) (unfolds a ∙ formed_as_given a Unit (bound bounds (s.shape a)) e refl unit_is_not_free)
  has_chosen f a (Sum l r) e = ap (chosen f) (unfolds a ∙ formed_as_given a (Sum l r) (bound bounds (s.shape a)) e refl sum_is_not_free)
  has_chosen f a (Product l r) e = ap (chosen f) (unfolds a ∙ formed_as_given a (Product l r) (bound bounds (s.shape a)) e refl product_is_not_free)

  pub every_choice_satisfies : (f : ℕ → Ty) → Satisfies bounds rules (λ a. chosen f (open_type a))
  every_choice_satisfies f =
      record {
        form = λ a. has_chosen f a (bound bounds a) refl;
        meets = λ r m. ap (chosen f) (equal_by_force_equal_types r.one r.other (Forced.by_rule m));
      }

  chosen_as : {v : ℕ → Ty} → Satisfies bounds rules v → (o : ℕ → Open) → ((x : ℕ) → v x ≡ chosen v (o x)) →
      (c : ℕ) (b : Bound) → bound bounds c ≡ b → v c ≡ chosen v (formed o c b)
  chosen_as t o each c Free e = refl
  chosen_as t o each c Unit e = has_form t c Unit e
  chosen_as t o each c (Sum l r) e =
      let whole = has_form t c (Sum l r) e in
      let left = each l in
      let right = each r in
      cc
  chosen_as t o each c (Product l r) e =
      let whole = has_form t c (Product l r) e in
      let left = each l in
      let right = each r in
      cc

  -- types that satisfy the rules are the choice of themselves
  pub chosen_to : {v : ℕ → Ty} → Satisfies bounds rules v → (k a : ℕ) → v a ≡ chosen v (open_to k a)
  chosen_to t ℕ.zero a = respects t (s.of_class a)
  chosen_to t (ℕ.suc k) a =
      respects t (s.of_class a) ∙ chosen_as t (open_to k) (chosen_to t k) (s.shape a) (bound bounds (s.shape a)) refl

  pub most_general : Principal bounds rules open_type
  most_general = record { every = every_choice_satisfies; only = λ v t. (v, λ a. chosen_to t (suc (s.height a)) a) }

  -- the types that a closing prints: unit for what stayed free
  abbrev pub printed : ℕ → Ty
  printed a = chosen (λ x. Ty.one) (open_type a)

  pub printed_closes : Closes bounds rules printed
  printed_closes =
      record {
        satisfies = every_choice_satisfies (λ x. Ty.one);
        plain = λ a u. ap (chosen (λ x. Ty.one)) (unfolds a ∙ ap (formed open_type (s.shape a)) (u (s.shape a) (s.of_class a)));
      }
