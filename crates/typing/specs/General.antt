-- Most general types: those that give all others by choosing a type for each class that stayed free.
use Rattle.std.specs.Prelude.{◌≡◌, List, ℕ}
use Rattle.classes.specs.Forced.{Rule}
use Rattle.classes.specs.declared.Bound.{Bound}
use Rattle.typing.specs.Types.{Ty, Satisfies}

-- types with places left free, each named by an entry
pub data Open : Type 0 where
  place : ℕ → Open
  one : Open
  sum : Open → Open → Open
  product : Open → Open → Open

-- the type that comes from choosing a type for each place
abbrev pub chosen : (ℕ → Ty) → Open → Ty
chosen f (Open.place c) = f c
chosen f Open.one = Ty.one
chosen f (Open.sum l r) = Ty.sum (chosen f l) (chosen f r)
chosen f (Open.product l r) = Ty.product (chosen f l) (chosen f r)

-- every choice for the places of o satisfies the rules, and all that satisfy the rules come from one choice
pub record Principal (bounds : List Bound) (rules : List Rule) (o : ℕ → Open) : Type 0 where
  pub every : (f : ℕ → Ty) → Satisfies bounds rules (λ a. chosen f (o a))
  pub only : (v : ℕ → Ty) → Satisfies bounds rules v → (f : ℕ → Ty) × ((a : ℕ) → v a ≡ chosen f (o a))
