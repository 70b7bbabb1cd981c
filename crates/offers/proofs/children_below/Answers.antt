-- `offers::children_below` meets its contract: the children stand in the fields, as many as the arity says.
use mathlib.Core.Path.{◌≡◌, sym, ◌∙◌}
use mathlib.Core.Bool.{true, false}
use Prim.Native.Nat.{ℕ, ◌<◌}
use native.Mathlib.Omega.{arith}
use lib.ListN.{length}
use borrow.Author.Tests.{ltb-true, ltb-false}
use Rattle.nodes.specs.Layout.{children}
use Rattle.nodes.specs.Coded.{node_of, first_field}
use Rattle.offers.proofs.Children.{none_below, first_past, both_below, second_past}
use Rattle.offers.proofs.children_below.Goals as goal
use Rattle.offers.proofs.children_below.Goals.{Else-arity-eq0, Else-next-n}

-- a flag that is written out says what holds
yes : {P : Type 0} → P → (true ≡ true → P) × (true ≡ false → P → ⊥)
yes h = (λ e. h, λ e. let z : ◌≡◌ {A = ℕ} 0 1 = cc in omega arith)

no : {P : Type 0} → (P → ⊥) → (false ≡ true → P) × (false ≡ false → P → ⊥)
no h = (λ e. let z : ◌≡◌ {A = ℕ} 0 1 = cc in absurd (omega arith), λ e. h)

-- what the two tests leave: there is a child, and the first is below
some : (c : Else-arity-eq0) → length (children (node_of c.args.n)) ≡ 0 → ⊥
some c none = c.if-arity-eq0.false (c.arity.ensures _ _ ∙ none)

first_there : (c : Else-next-n) → first_field (node_of c.args.n) < c.args.next
first_there c = rw (← c.requires.first) c.if-next-n.false

pub returns-then-arity-eq0 : goal.returns-then-arity-eq0
returns-then-arity-eq0 c = yes (none_below (node_of c.args.n) _ (sym (c.arity.ensures _ _) ∙ c.if-arity-eq0.true))

pub returns-then-next-n : goal.returns-then-next-n
returns-then-next-n c =
    no (first_past (node_of c.args.n) _ (some (goal.at.returns-then-next-n c).Else-arity-eq0) (rw (← c.requires.first) c.if-next-n.true))

pub returns : goal.returns
returns c = (
  λ e. both_below (node_of c.args.n) _ (some (goal.at.returns c).Else-arity-eq0) (first_there (goal.at.returns c).Else-next-n) (rw (← c.requires.second) (ltb-true _ _ e)),
  λ e. second_past (node_of c.args.n) _ (some (goal.at.returns c).Else-arity-eq0) (first_there (goal.at.returns c).Else-next-n) (rw (← c.requires.second) (ltb-false _ _ e)),
)
