-- A node's kind by how many children it has, where a `match` tells only that it is one of several. Of these the check finds most alone
-- today; those that no answer cites stand since docs/PORT.md names them.
use mathlib.Core.Path.{◌≡◌, refl, sym, subst}
use mathlib.Core.List.{List, [], ◌∷◌}
use mathlib.Core.Logic.{◌⊎◌, ⊎_elim}
use Prim.Native.Nat.{ℕ, ◌<◌}
use native.Mathlib.Omega.{arith}
use lib.ListN.{length}
use Rattle.nodes.specs.Layout.{adds, children, Proper}
use Rattle.combinators.specs.Entering.{leaf, unary, binary}
use Rattle.nodes.specs.Coded.{named}
use Rattle.nodes.specs.declared.Node.TheVariants.{Disconnect as DisconnectNode, DisconnectHole as HoleNode, Witness as WitnessNode}
use Rattle.nodes.specs.declared.arrow.Arrow.{Arrow}
use Rattle.nodes.specs.declared.Kind.{Kind}
use Rattle.nodes.specs.declared.Kind.TheVariants.{Iden, Unit, InjL, InjR, Take, Drop, Comp, Case, AssertL, AssertR, Pair, Disconnect, DisconnectHole, Witness, Fail, Word}

-- a kind that is one of a list, and one that is none of it, as an arm of a `match` tells
abbrev pub IsAmong : Kind → Kind → List Kind → Type 0
IsAmong k x [] = k ≡ x
IsAmong k x (y ∷ ys) = (k ≡ x) ⊎ IsAmong k y ys

abbrev pub Differs : Kind → List Kind → Type 0
Differs k [] = Prim.Unit {0}
Differs k (x ∷ xs) = (k ≡ x → ⊥) × Differs k xs

abbrev pub IsLeaf : Kind → Type 0
IsLeaf k = IsAmong k Iden (Unit ∷ Witness ∷ Fail ∷ Word ∷ [])

abbrev pub IsBinary : Kind → Type 0
IsBinary k = IsAmong k Comp (Case ∷ Pair ∷ Disconnect ∷ [])

abbrev pub IsNeither : Kind → Type 0
IsNeither k = Differs k (Iden ∷ Unit ∷ Comp ∷ Case ∷ Pair ∷ Disconnect ∷ Witness ∷ Fail ∷ Word ∷ [])

-- what holds of each of them holds of a kind that is one of them
of_leaf : (P : Kind → Type 0) → P Iden → P Unit → P Witness → P Fail → P Word → (k : Kind) → IsLeaf k → P k
of_leaf P iden unit witness fail word k =
    ⊎_elim (λ e. subst P (sym e) iden)
    (⊎_elim (λ e. subst P (sym e) unit)
    (⊎_elim (λ e. subst P (sym e) witness)
    (⊎_elim (λ e. subst P (sym e) fail) (λ e. subst P (sym e) word))))

of_binary : (P : Kind → Type 0) → P Comp → P Case → P Pair → P Disconnect → (k : Kind) → IsBinary k → P k
of_binary P comp case pair disconnect k =
    ⊎_elim (λ e. subst P (sym e) comp)
    (⊎_elim (λ e. subst P (sym e) case)
    (⊎_elim (λ e. subst P (sym e) pair) (λ e. subst P (sym e) disconnect)))

of_unary : (P : Kind → Type 0) → P InjL → P InjR → P Take → P Drop → P AssertL → P AssertR → P DisconnectHole → (k : Kind) → IsNeither k → P k
of_unary P injl injr take drop assertl assertr hole Iden h = absurd (h.0 refl)
of_unary P injl injr take drop assertl assertr hole Unit h = absurd (h.1.0 refl)
of_unary P injl injr take drop assertl assertr hole InjL h = injl
of_unary P injl injr take drop assertl assertr hole InjR h = injr
of_unary P injl injr take drop assertl assertr hole Take h = take
of_unary P injl injr take drop assertl assertr hole Drop h = drop
of_unary P injl injr take drop assertl assertr hole Comp h = absurd (h.1.1.0 refl)
of_unary P injl injr take drop assertl assertr hole Case h = absurd (h.1.1.1.0 refl)
of_unary P injl injr take drop assertl assertr hole AssertL h = assertl
of_unary P injl injr take drop assertl assertr hole AssertR h = assertr
of_unary P injl injr take drop assertl assertr hole Pair h = absurd (h.1.1.1.1.0 refl)
of_unary P injl injr take drop assertl assertr hole Disconnect h = absurd (h.1.1.1.1.1.0 refl)
of_unary P injl injr take drop assertl assertr hole DisconnectHole h = hole
of_unary P injl injr take drop assertl assertr hole Witness h = absurd (h.1.1.1.1.1.1.0 refl)
of_unary P injl injr take drop assertl assertr hole Fail h = absurd (h.1.1.1.1.1.1.1.0 refl)
of_unary P injl injr take drop assertl assertr hole Word h = absurd (h.1.1.1.1.1.1.1.1.0 refl)

pub leaf_children : (k : Kind) (a b : ℕ) → IsLeaf k → length (children (named k a b)) ≡ 0
leaf_children k a b = of_leaf (λ x. length (children (named x a b)) ≡ 0) refl refl refl refl refl k

pub binary_children : (k : Kind) (a b : ℕ) → IsBinary k → length (children (named k a b)) ≡ 2
binary_children k a b = of_binary (λ x. length (children (named x a b)) ≡ 2) refl refl refl refl k

pub unary_children : (k : Kind) (a b : ℕ) → IsNeither k → length (children (named k a b)) ≡ 1
unary_children k a b = of_unary (λ x. length (children (named x a b)) ≡ 1) refl refl refl refl refl refl refl k

-- what such a node adds does not depend on what it does not have
pub leaf_row : (k : Kind) (a b : ℕ) (s t : Arrow) (e : ℕ) → IsLeaf k → adds (named k a b) s t e ≡ leaf (named k a 0) e
leaf_row k a b s t e = of_leaf (λ x. adds (named x a b) s t e ≡ leaf (named x a 0) e) refl refl refl refl refl k

pub unary_row : (k : Kind) (a b : ℕ) (s t : Arrow) (e : ℕ) → IsNeither k → adds (named k a b) s t e ≡ unary (λ i. named k i 0) s e
unary_row k a b s t e = of_unary (λ x. adds (named x a b) s t e ≡ unary (λ i. named x i 0) s e) refl refl refl refl refl refl refl k

pub binary_row : (k : Kind) (a b : ℕ) (s t : Arrow) (e : ℕ) → IsBinary k → adds (named k a b) s t e ≡ binary (named k) s t e
binary_row k a b s t e = of_binary (λ x. adds (named x a b) s t e ≡ binary (named x) s t e) refl refl refl refl k

pub leaf_proper : (k : Kind) (a b : ℕ) → IsLeaf k → Proper (named k a b) → Proper (named k a 0)
leaf_proper k a b = of_leaf (λ x. Proper (named x a b) → Proper (named x a 0)) (λ p. p) (λ p. p) (λ p. p) (λ p. p) (λ p. p) k

-- of the kinds without a child, those that the first arms of the `match` leave are witness and fail, whose row is one
pub is_witness : (k : Kind) (a b : ℕ) (s t : Arrow) (e : ℕ) → Differs k (Iden ∷ Unit ∷ Word ∷ []) → length (children (named k a b)) ≡ 0 → adds (named k a b) s t e ≡ adds WitnessNode s t e
is_witness Iden a b s t e h none = absurd (h.0 refl)
is_witness Unit a b s t e h none = absurd (h.1.0 refl)
is_witness InjL a b s t e h none = absurd (omega arith)
is_witness InjR a b s t e h none = absurd (omega arith)
is_witness Take a b s t e h none = absurd (omega arith)
is_witness Drop a b s t e h none = absurd (omega arith)
is_witness Comp a b s t e h none = absurd (omega arith)
is_witness Case a b s t e h none = absurd (omega arith)
is_witness AssertL a b s t e h none = absurd (omega arith)
is_witness AssertR a b s t e h none = absurd (omega arith)
is_witness Pair a b s t e h none = absurd (omega arith)
is_witness Disconnect a b s t e h none = absurd (omega arith)
is_witness DisconnectHole a b s t e h none = absurd (omega arith)
is_witness Witness a b s t e h none = refl
is_witness Fail a b s t e h none = refl
is_witness Word a b s t e h none = absurd (h.1.1.0 refl)

-- of those with one child, the last is a disconnect with a hole
pub is_hole : (k : Kind) (a b : ℕ) (s t : Arrow) (e : ℕ) → Differs k (InjL ∷ InjR ∷ Take ∷ Drop ∷ AssertL ∷ AssertR ∷ []) → length (children (named k a b)) ≡ 1 → adds (named k a b) s t e ≡ adds (HoleNode 0) s t e
is_hole Iden a b s t e h one = absurd (omega arith)
is_hole Unit a b s t e h one = absurd (omega arith)
is_hole InjL a b s t e h one = absurd (h.0 refl)
is_hole InjR a b s t e h one = absurd (h.1.0 refl)
is_hole Take a b s t e h one = absurd (h.1.1.0 refl)
is_hole Drop a b s t e h one = absurd (h.1.1.1.0 refl)
is_hole Comp a b s t e h one = absurd (omega arith)
is_hole Case a b s t e h one = absurd (omega arith)
is_hole AssertL a b s t e h one = absurd (h.1.1.1.1.0 refl)
is_hole AssertR a b s t e h one = absurd (h.1.1.1.1.1.0 refl)
is_hole Pair a b s t e h one = absurd (omega arith)
is_hole Disconnect a b s t e h one = absurd (omega arith)
is_hole DisconnectHole a b s t e h one = refl
is_hole Witness a b s t e h one = absurd (omega arith)
is_hole Fail a b s t e h one = absurd (omega arith)
is_hole Word a b s t e h one = absurd (omega arith)

-- of those with two, a disconnect
pub is_disconnect : (k : Kind) (a b : ℕ) (s t : Arrow) (e : ℕ) → Differs k (Comp ∷ Case ∷ Pair ∷ []) → length (children (named k a b)) ≡ 2 → adds (named k a b) s t e ≡ adds (DisconnectNode 0 0) s t e
is_disconnect Iden a b s t e h two = absurd (omega arith)
is_disconnect Unit a b s t e h two = absurd (omega arith)
is_disconnect InjL a b s t e h two = absurd (omega arith)
is_disconnect InjR a b s t e h two = absurd (omega arith)
is_disconnect Take a b s t e h two = absurd (omega arith)
is_disconnect Drop a b s t e h two = absurd (omega arith)
is_disconnect Comp a b s t e h two = absurd (h.0 refl)
is_disconnect Case a b s t e h two = absurd (h.1.0 refl)
is_disconnect AssertL a b s t e h two = absurd (omega arith)
is_disconnect AssertR a b s t e h two = absurd (omega arith)
is_disconnect Pair a b s t e h two = absurd (h.1.1.0 refl)
is_disconnect Disconnect a b s t e h two = refl
is_disconnect DisconnectHole a b s t e h two = absurd (omega arith)
is_disconnect Witness a b s t e h two = absurd (omega arith)
is_disconnect Fail a b s t e h two = absurd (omega arith)
is_disconnect Word a b s t e h two = absurd (omega arith)

-- and of those with a second rule, the one that the first arms leave is again the disconnect with a hole
pub more_rules : (k : Kind) (a b : ℕ) (s t : Arrow) (e i : ℕ) → Differs k (Case ∷ AssertL ∷ AssertR ∷ Disconnect ∷ []) → 0 < i → i < length (adds (named k a b) s t e).needs → adds (named k a b) s t e ≡ adds (HoleNode 0) s t e
more_rules Iden a b s t e i h more less = absurd (omega arith)
more_rules Unit a b s t e i h more less = absurd (omega arith)
more_rules InjL a b s t e i h more less = absurd (omega arith)
more_rules InjR a b s t e i h more less = absurd (omega arith)
more_rules Take a b s t e i h more less = absurd (omega arith)
more_rules Drop a b s t e i h more less = absurd (omega arith)
more_rules Comp a b s t e i h more less = absurd (omega arith)
more_rules Case a b s t e i h more less = absurd (h.0 refl)
more_rules AssertL a b s t e i h more less = absurd (h.1.0 refl)
more_rules AssertR a b s t e i h more less = absurd (h.1.1.0 refl)
more_rules Pair a b s t e i h more less = absurd (omega arith)
more_rules Disconnect a b s t e i h more less = absurd (h.1.1.1.0 refl)
more_rules DisconnectHole a b s t e i h more less = refl
more_rules Witness a b s t e i h more less = absurd (omega arith)
more_rules Fail a b s t e i h more less = absurd (omega arith)
more_rules Word a b s t e i h more less = absurd (omega arith)
