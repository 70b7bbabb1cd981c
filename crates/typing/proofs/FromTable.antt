-- What a table that stands for rules says of types: no entry past its own is bound or forced, and if some types satisfy the rules there are most
-- general ones and a closing.
use mathlib.Core.Path.{◌≡◌, refl, sym, ◌∙◌, ap, subst}
use mathlib.Core.Logic.{by_cases, ite, if_pos, if_neg, ◌⊎◌, inl, inr, ⊎_elim}
use mathlib.Core.List.{List}
use Prim.Native.Nat.{ℕ, ◌<◌, ◌≤◌}
use native.Mathlib.Decide.{dec_lt}
use native.Mathlib.Omega.{arith}
use lib.ListN.{get_or}
use Rattle.classes.specs.Bounds.{bound}
use Rattle.classes.specs.Forced.{Rule, Forced}
use Rattle.classes.specs.Table.{Table, root, bounds}
use Rattle.classes.specs.Made.{Within, Stands}
use Rattle.classes.specs.Forest.{Forest}
use Rattle.classes.proofs.Laws.{given_within, bound_given, bound_past, made_good, root_live, settled}
use Rattle.classes.specs.declared.Bound.TheVariants.{Free, Sum, Product}
use Rattle.typing.specs.Types.{Ty, Satisfies, Unbound, Closes}
use Rattle.typing.specs.Finite.{Finite}
use Rattle.typing.specs.General.{Open, chosen, Principal}
use Rattle.typing.proofs.Respects.{size, part_is_smaller}
use Rattle.typing.proofs.ClosedOnce.{closes_one}
use Rattle.typing.proofs.Solving.{Solved, open_type, most_general, printed, printed_closes}

sum_within : {n l r : ℕ} → Within n (Sum l r) → (l < n) × (r < n)
sum_within (Within.sum p q) = (p, q)

product_within : {n l r : ℕ} → Within n (Product l r) → (l < n) × (r < n)
product_within (Within.product p q) = (p, q)

module _ {t : Table} {rules : List Rule} (s : Stands t rules) where
  forest : Forest t
  forest = (made_good s.made).forest

  -- the parts of every bound are entries
  bound_within : (a : ℕ) → Within t.entries (bound (bounds t) a)
  bound_within a = by_cases (dec_lt a t.entries)
      (λ h. rw (bound_given t a h) (given_within forest a h))
      (λ past. rw (bound_past t a (omega (arith, past))) Within.free)

  pub sum_parts_there : (a l r : ℕ) → bound (bounds t) a ≡ Sum l r → (l < t.entries) × (r < t.entries)
  sum_parts_there a l r e = sum_within (subst (Within t.entries) e (bound_within a))

  pub product_parts_there : (a l r : ℕ) → bound (bounds t) a ≡ Product l r → (l < t.entries) × (r < t.entries)
  product_parts_there a l r e = product_within (subst (Within t.entries) e (bound_within a))

  -- only entries are equal by force to others
  pub forced_there : {a b : ℕ} → Forced (bounds t) rules a b → (a ≡ b) ⊎ ((a < t.entries) × (b < t.entries))
  forced_there (Forced.by_rule {r = r} m) = inr (s.named r m)
  forced_there Forced.itself = inl refl
  forced_there (Forced.turned f) = ⊎_elim (λ e. inl (sym e)) (λ h. inr (h.1, h.0)) (forced_there f)
  forced_there (Forced.chain {a = a} {c = c} f g) = ⊎_elim
      (λ e. subst (λ (x : ℕ). (x ≡ c) ⊎ ((x < t.entries) × (c < t.entries))) (sym e) (forced_there g))
      (λ h. ⊎_elim (λ k. subst (λ (x : ℕ). (a ≡ x) ⊎ ((a < t.entries) × (x < t.entries))) k (inr h)) (λ k. inr (h.0, k.1)) (forced_there g))
      (forced_there f)
  forced_there (Forced.sum_left {a = a} {b = b} f e g) = inr ((sum_parts_there a _ _ e).0, (sum_parts_there b _ _ g).0)
  forced_there (Forced.sum_right {a = a} {b = b} f e g) = inr ((sum_parts_there a _ _ e).1, (sum_parts_there b _ _ g).1)
  forced_there (Forced.product_left {a = a} {b = b} f e g) = inr ((product_parts_there a _ _ e).0, (product_parts_there b _ _ g).0)
  forced_there (Forced.product_right {a = a} {b = b} f e g) = inr ((product_parts_there a _ _ e).1, (product_parts_there b _ _ g).1)

  -- a number past the entries is alone and free
  pub outside : (a : ℕ) → t.entries ≤ a → Unbound (bounds t) rules a
  outside a h b f = ⊎_elim
      (λ e. bound_past t b (subst (λ (x : ℕ). t.entries ≤ x) e h))
      (λ both. absurd (omega (arith, both.0, h)))
      (forced_there f)

  -- types for the entries are types for every number: past the entries it is unit
  pub every_type : ((a : ℕ) → a < t.entries → (x : Ty) × Finite (bounds t) rules a x) → (v : ℕ → Ty) × ((a : ℕ) → Finite (bounds t) rules a (v a))
  every_type each = (λ a. (all a).0, λ a. (all a).1)
    where
      all : (a : ℕ) → (x : Ty) × Finite (bounds t) rules a x
      all a = by_cases (dec_lt a t.entries) (each a) (λ past. (Ty.one, Finite.free (outside a (omega (arith, past)))))

  -- the entry whose bound a's class shows; a number that names no entry is alone
  abbrev shows : ℕ → ℕ
  shows a = get_or t.shape (root t a) 0

  abbrev showing : ℕ → ℕ
  showing a = ite (dec_lt a t.entries) (shows a) a

  shows_there : (a : ℕ) → a < t.entries → shows a < t.entries
  shows_there a h = forest.shapes (root t a) (root_live forest a h)

  showing_inside : (a : ℕ) → a < t.entries → showing a ≡ shows a
  showing_inside a h = if_pos (dec_lt a t.entries) h (shows a) a

  showing_outside : (a : ℕ) → (a < t.entries → ⊥) → showing a ≡ a
  showing_outside a past = if_neg (dec_lt a t.entries) past (shows a) a

  showing_of_class : (a : ℕ) → Forced (bounds t) rules a (showing a)
  showing_of_class a = by_cases (dec_lt a t.entries)
      (λ h. subst (Forced (bounds t) rules a) (sym (showing_inside a h))
      ((s.one_root a (shows a) h (shows_there a h)).0 (sym (forest.home (root t a) (root_live forest a h) (settled forest a h)))))
      (λ past. subst (Forced (bounds t) rules a) (sym (showing_outside a past)) Forced.itself)

  showing_same : (a b : ℕ) → Forced (bounds t) rules a b → showing a ≡ showing b
  showing_same a b f = ⊎_elim
      (λ e. ap showing e)
      (λ h. showing_inside a h.0 ∙ ap (λ (r : ℕ). get_or t.shape r 0) ((s.one_root a b h.0 h.1).1 f) ∙ sym (showing_inside b h.1))
      (forced_there f)

  showing_alone : (a : ℕ) → bound (bounds t) (showing a) ≡ Free → Unbound (bounds t) rules a
  showing_alone a e b f = by_cases (dec_lt a t.entries)
      (λ h. s.free a b h (sym (bound_given t (shows a) (shows_there a h)) ∙ subst (λ (x : ℕ). bound (bounds t) x ≡ Free) (showing_inside a h) e) f)
      (λ past. outside a (omega (arith, past)) b f)

  -- some types that satisfy the rules are enough: their sizes are heights
  pub solved : {v : ℕ → Ty} → Satisfies (bounds t) rules v → Solved (bounds t) rules
  solved {v} sat =
      record {
        shape = showing;
        of_class = showing_of_class;
        same = showing_same;
        alone = showing_alone;
        sound = s.no_clash;
        height = λ a. size (v a);
        below = λ a b p. part_is_smaller sat p;
      }

  -- if some types satisfy the rules, there are most general ones
  pub satisfied_has_most_general : {v : ℕ → Ty} → Satisfies (bounds t) rules v → (o : ℕ → Open) × Principal (bounds t) rules o
  satisfied_has_most_general sat = (open_type (solved sat), most_general (solved sat))

  -- and a typing that closes
  pub satisfied_has_closing : {v : ℕ → Ty} → Satisfies (bounds t) rules v → (w : ℕ → Ty) × Closes (bounds t) rules w
  satisfied_has_closing sat = (printed (solved sat), printed_closes (solved sat))

  -- the typing that closes is a most general one, with unit for what stayed free
  pub closing_is_most_general : {v : ℕ → Ty} → Closes (bounds t) rules v → (o : ℕ → Open) × Principal (bounds t) rules o × ((a : ℕ) → v a ≡ chosen (λ x. Ty.one) (o a))
  closing_is_most_general c =
      let s = solved c.satisfies in
      (open_type s, most_general s, closes_one c (printed_closes s))
