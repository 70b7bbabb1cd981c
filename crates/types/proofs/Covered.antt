-- Every entry that a node adds lies in the node's arrow or in a child's: so what holds of all arrows, and passes to equals by force and to
-- parts, holds of every entry that a kept node added.
use mathlib.Core.Path.{◌≡◌, refl, sym, subst}
use mathlib.Core.List.{List, Memᴰ}
use mathlib.Core.Logic.{by_cases}
use Prim.Native.Nat.{ℕ, ◌+◌, ◌<◌, ◌≤◌}
use native.Mathlib.Decide.{ℕ_discrete}
use native.Mathlib.Omega.{arith}
use lib.ListN.{length, get_or}
use Rattle.classes.specs.Bounds.{bound}
use Rattle.classes.specs.Forced.{Rule, Forced}
use Rattle.classes.specs.declared.Bound.{Bound}
use Rattle.classes.specs.declared.Bound.TheVariants.{Free, Sum, Product}
use Rattle.nodes.specs.Layout.{Numbered, adds, children}
use Rattle.nodes.specs.declared.Node.{Node}
use Rattle.nodes.specs.declared.Node.TheVariants.{Iden, Unit, InjL, InjR, Take, Drop, Comp, Case, AssertL, AssertR, Pair, Disconnect, DisconnectHole, Witness, Fail, Word}
use Rattle.nodes.specs.declared.arrow.Arrow.{Arrow}
use Rattle.typing.specs.Endless.{Part}

-- P holds of the numbers below k
abbrev pub Each : (ℕ → Type 0) → ℕ → Type 0
Each P ℕ.zero = Prim.Unit {0}
Each P (ℕ.suc k) = Each P k × P k

pub each_at : (P : ℕ → Type 0) (k : ℕ) → Each P k → (i : ℕ) → i < k → P i
each_at P ℕ.zero all i h = absurd (omega (arith, h))
each_at P (ℕ.suc k) all i h = by_cases (ℕ_discrete i k)
    (λ e. subst P (sym e) all.1)
    (λ n. each_at P k all.0 i (omega (arith, h, n)))

module _ {bounds : List Bound} {rules : List Rule} (Holds : ℕ → Type 0)
    (equals : (x y : ℕ) → Forced bounds rules x y → Holds x → Holds y)
    (parts : (x y : ℕ) → Part bounds rules x y → Holds x → Holds y) where
  sum_parts : (x l r : ℕ) → bound bounds x ≡ Sum l r → Holds x → Holds l × Holds r
  sum_parts x l r e v = (parts x l (Part.sum_left Forced.itself e) v, parts x r (Part.sum_right Forced.itself e) v)

  product_parts : (x l r : ℕ) → bound bounds x ≡ Product l r → Holds x → Holds l × Holds r
  product_parts x l r e v = (parts x l (Part.product_left Forced.itself e) v, parts x r (Part.product_right Forced.itself e) v)

  first : (e : ℕ) → Holds e → Holds (e + 0)
  first e v = subst Holds (omega arith) v

  pub row_covered : (n : Node) (s t : Arrow) (e : ℕ) →
      ((i : ℕ) → i < length (adds n s t e).entries → bound bounds (e + i) ≡ get_or (adds n s t e).entries i Free) →
      ((q : Numbered) → Memᴰ q (adds n s t e).needs → Memᴰ q.rule rules) →
      (1 ≤ length (children n) → Holds s.source × Holds s.target) →
      (2 ≤ length (children n) → Holds t.source × Holds t.target) →
      Holds (adds n s t e).gives.source → Holds (adds n s t e).gives.target →
      Each (λ i. Holds (e + i)) (length (adds n s t e).entries)
  row_covered Iden s t e at ruled one two from to = (tt, first e from)
  row_covered Unit s t e at ruled one two from to = (tt, first e from)
  row_covered (InjL i) s t e at ruled one two from to =
      ((tt, first e (sum_parts (e + 1) s.target e (at 1 (omega arith)) to).1), to)
  row_covered (InjR i) s t e at ruled one two from to =
      ((tt, first e (sum_parts (e + 1) e s.target (at 1 (omega arith)) to).0), to)
  row_covered (Take i) s t e at ruled one two from to =
      ((tt, first e (product_parts (e + 1) s.source e (at 1 (omega arith)) from).1), from)
  row_covered (Drop i) s t e at ruled one two from to =
      ((tt, first e (product_parts (e + 1) e s.source (at 1 (omega arith)) from).0), from)
  row_covered (Comp i j) s t e at ruled one two from to = tt
  row_covered (Case i j) s t e at ruled one two from to =
      let outer = product_parts (e + 5) (e + 4) (e + 2) (at 5 (omega arith)) from in
      let inner = sum_parts (e + 4) e (e + 1) (at 4 (omega arith)) outer.0 in
      let left = equals s.source (e + 6) (Forced.by_rule (ruled _ (Memᴰ.head refl))) (one (omega arith)).0 in
      let right = equals t.source (e + 7) (Forced.by_rule (ruled _ (Memᴰ.tail (Memᴰ.tail (Memᴰ.head refl))))) (two (omega arith)).0 in
      ((((((((tt, first e inner.0), inner.1), outer.1), to), outer.0), from), left), right)
  row_covered (AssertL i) s t e at ruled one two from to =
      let outer = product_parts (e + 5) (e + 4) (e + 2) (at 5 (omega arith)) from in
      let inner = sum_parts (e + 4) e (e + 1) (at 4 (omega arith)) outer.0 in
      let left = equals s.source (e + 6) (Forced.by_rule (ruled _ (Memᴰ.head refl))) (one (omega arith)).0 in
      (((((((tt, first e inner.0), inner.1), outer.1), to), outer.0), from), left)
  row_covered (AssertR i) s t e at ruled one two from to =
      let outer = product_parts (e + 5) (e + 4) (e + 2) (at 5 (omega arith)) from in
      let inner = sum_parts (e + 4) e (e + 1) (at 4 (omega arith)) outer.0 in
      let right = equals s.source (e + 6) (Forced.by_rule (ruled _ (Memᴰ.head refl))) (one (omega arith)).0 in
      (((((((tt, first e inner.0), inner.1), outer.1), to), outer.0), from), right)
  row_covered (Pair i j) s t e at ruled one two from to = (tt, first e to)
  row_covered (Disconnect i j) s t e at ruled one two from to =
      let result = product_parts (e + 4) (e + 1) t.target (at 4 (omega arith)) to in
      let source = equals s.source (e + 2) (Forced.by_rule (ruled _ (Memᴰ.head refl))) (one (omega arith)).0 in
      let target = equals s.target (e + 3) (Forced.by_rule (ruled _ (Memᴰ.tail (Memᴰ.head refl)))) (one (omega arith)).1 in
      (((((tt, first e from), result.0), source), target), to)
  row_covered (DisconnectHole i) s t e at ruled one two from to =
      let result = product_parts (e + 6) (e + 1) (e + 3) (at 6 (omega arith)) to in
      let source = equals s.source (e + 4) (Forced.by_rule (ruled _ (Memᴰ.head refl))) (one (omega arith)).0 in
      let target = equals s.target (e + 5) (Forced.by_rule (ruled _ (Memᴰ.tail (Memᴰ.head refl)))) (one (omega arith)).1 in
      let middle = product_parts (e + 5) (e + 1) (e + 2) (at 5 (omega arith)) target in
      (((((((tt, first e from), result.0), middle.1), result.1), source), target), to)
  row_covered Witness s t e at ruled one two from to = ((tt, first e from), to)
  row_covered Fail s t e at ruled one two from to = ((tt, first e from), to)
  row_covered (Word n) s t e at ruled one two from to = tt
