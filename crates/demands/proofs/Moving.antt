-- A free entry that no bound and no rule names can be made equal to another without bringing a clash: put the other
-- in its place, and whatever is equal by force is so without the new rule.
use mathlib.Core.Path.{◌≡◌, sym, ap, ◌∙◌, subst, subst₂}
use mathlib.Core.Logic.{ite, by_cases, if_pos, if_neg, ⊎_elim}
use mathlib.Core.List.Memᴰ
use mathlib.Core.List.{List, [], ◌∷◌, ◌++◌, Memᴰ}
use Prim.Native.Nat.{ℕ}
use native.Mathlib.Decide.{ℕ_discrete}
use native.Mathlib.Omega.{arith}
use Rattle.classes.specs.Bounds.{bound, Differ}
use Rattle.classes.specs.Forced.{Rule, equal, Forced, Clash}
use Rattle.classes.specs.Table.{kind_of}
use Rattle.classes.specs.declared.Bound.{Bound}
use Rattle.classes.specs.declared.Bound.TheVariants.{Free, Unit, Sum, Product}

-- entries put in place of entries, so that bounds stay and rules are forced still: all that is equal by force is so
-- still
module _ {bounds : List Bound} {rules less : List Rule} (put : ℕ → ℕ)
    (ruled : (r : Rule) → Memᴰ r rules → Forced bounds less (put r.one) (put r.other))
    (sums : (a l r : ℕ) → bound bounds a ≡ Sum l r → bound bounds (put a) ≡ Sum (put l) (put r))
    (products : (a l r : ℕ) → bound bounds a ≡ Product l r → bound bounds (put a) ≡ Product (put l) (put r)) where
  forced_still : {a b : ℕ} → Forced bounds rules a b → Forced bounds less (put a) (put b)
  forced_still (Forced.by_rule m) = ruled _ m
  forced_still Forced.itself = Forced.itself
  forced_still (Forced.turned d) = Forced.turned (forced_still d)
  forced_still (Forced.chain d k) = Forced.chain (forced_still d) (forced_still k)
  forced_still (Forced.sum_left d p q) = Forced.sum_left (forced_still d) (sums _ _ _ p) (sums _ _ _ q)
  forced_still (Forced.sum_right d p q) = Forced.sum_right (forced_still d) (sums _ _ _ p) (sums _ _ _ q)
  forced_still (Forced.product_left d p q) = Forced.product_left (forced_still d) (products _ _ _ p) (products _ _ _ q)
  forced_still (Forced.product_right d p q) =
      Forced.product_right (forced_still d) (products _ _ _ p) (products _ _ _ q)

-- a bound names no part d
abbrev pub Without : ℕ → Bound → Type 0
Without d Free = Prim.Unit {0}
Without d Unit = Prim.Unit {0}
Without d (Sum l r) = (l ≡ d → ⊥) × (r ≡ d → ⊥)
Without d (Product l r) = (l ≡ d → ⊥) × (r ≡ d → ⊥)

-- what is of a kind is not free
kinds_not_free : {b c : Bound} → Differ b c → (b ≡ Free → ⊥) × (c ≡ Free → ⊥)
kinds_not_free Differ.unit_sum = (λ e. omega (arith, ap kind_of e), λ e. omega (arith, ap kind_of e))
kinds_not_free Differ.unit_product = (λ e. omega (arith, ap kind_of e), λ e. omega (arith, ap kind_of e))
kinds_not_free Differ.sum_product = (λ e. omega (arith, ap kind_of e), λ e. omega (arith, ap kind_of e))
kinds_not_free (Differ.turned k) = let (b, c) = kinds_not_free k in (c, b)

module _ (bounds : List Bound) (rules : List Rule) (d t : ℕ) (free : bound bounds d ≡ Free)
    (unnamed : (a : ℕ) → Without d (bound bounds a))
    (unruled : (r : Rule) → Memᴰ r rules → (r.one ≡ d → ⊥) × (r.other ≡ d → ⊥)) where
  -- t in the place of d
  abbrev put : ℕ → ℕ
  put a = ite (ℕ_discrete a d) t a

  stays : (a : ℕ) → (a ≡ d → ⊥) → put a ≡ a
  stays a other = if_neg (ℕ_discrete a d) other t a

  t_stays : put t ≡ t
  t_stays = by_cases (ℕ_discrete t d) (λ e. if_pos (ℕ_discrete t d) e t t) (stays t)

  -- an entry that is not free is not d
  not_free : {a : ℕ} → (bound bounds a ≡ Free → ⊥) → a ≡ d → ⊥
  not_free {a} h is = h (ap (bound bounds) is ∙ free)

  sum_stays : (a l r : ℕ) → bound bounds a ≡ Sum l r → bound bounds (put a) ≡ Sum (put l) (put r)
  sum_stays a l r e =
      let (left, right) = subst (Without d) e (unnamed a) in
      rw (stays a (not_free (λ f. omega (arith, ap kind_of (sym e ∙ f)))), stays l left, stays r right) e

  product_stays : (a l r : ℕ) → bound bounds a ≡ Product l r → bound bounds (put a) ≡ Product (put l) (put r)
  product_stays a l r e =
      let (left, right) = subst (Without d) e (unnamed a) in
      rw (stays a (not_free (λ f. omega (arith, ap kind_of (sym e ∙ f)))), stays l left, stays r right) e

  old_rule : (r : Rule) → Memᴰ r rules → Forced bounds rules (put r.one) (put r.other)
  old_rule r m = rw (stays r.one (unruled r m).0, stays r.other (unruled r m).1) (Forced.by_rule m)

  new_rule : (r : Rule) → r ≡ equal d t → Forced bounds rules (put r.one) (put r.other)
  new_rule r is = rw (is, if_pos (ℕ_discrete d d) (λ i. d) t d, t_stays) Forced.itself

  pub new_free_entry_cannot_clash : Clash bounds (rules ++ (equal d t ∷ [])) → Clash bounds rules
  new_free_entry_cannot_clash c =
      let (one, other) = kinds_not_free c.kinds in
      let ruled : (r : Rule) → Memᴰ r (rules ++ (equal d t ∷ [])) →
      Forced bounds rules (put r.one) (put r.other) =
      λ r m. ⊎_elim (old_rule r) (λ n. new_rule r (Memᴰ.eq_of_singleton n)) (Memᴰ.append_cases rules m) in
      record {
        one = c.one;
        other = c.other;
        forced = subst₂ (λ (a b : ℕ). Forced bounds rules a b)
            (stays c.one (not_free one)) (stays c.other (not_free other))
            (forced_still put ruled sum_stays product_stays c.forced);
        kinds = c.kinds;
      }
