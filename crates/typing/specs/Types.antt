-- Finite types, and when they satisfy a program's bounds and rules: demand 2.
use Rattle.std.specs.Prelude.{◌≡◌, ℕ}
use mathlib.Core.List.{List, Memᴰ}
use Rattle.classes.specs.Bounds.{bound}
use Rattle.classes.specs.Forced.{Rule, Forced}
use Rattle.classes.specs.declared.Bound.{Bound}
use Rattle.classes.specs.declared.Bound.TheVariants.{Free, Unit, Sum, Product}

-- finite types
pub data Ty : Type 0 where
  one : Ty
  sum : Ty → Ty → Ty
  product : Ty → Ty → Ty
  deriving Discrete as Ty-discrete

-- the type t of an entry has the form that the entry's bound asks
abbrev pub Has : (ℕ → Ty) → Bound → Ty → Type 0
Has v Free t = Prim.Unit {0}
Has v Unit t = t ≡ Ty.one
Has v (Sum l r) t = t ≡ Ty.sum (v l) (v r)
Has v (Product l r) t = t ≡ Ty.product (v l) (v r)

module _ (bounds : List Bound) (rules : List Rule) where
  -- v gives each entry a finite type, and these satisfy every bound and every rule
  pub record Satisfies (v : ℕ → Ty) : Type 0 where
    pub form : (a : ℕ) → Has v (bound bounds a) (v a)
    pub meets : (r : Rule) → Memᴰ r rules → v r.one ≡ v r.other

  -- nothing that is equal to a by force has a bound
  abbrev pub Unbound : ℕ → Type 0
  Unbound a = (b : ℕ) → Forced bounds rules a b → bound bounds b ≡ Free

  -- the typing that a closing prints: it satisfies the rules, and what stayed free is unit
  pub record Closes (v : ℕ → Ty) : Type 0 where
    pub satisfies : Satisfies v
    pub plain : (a : ℕ) → Unbound a → v a ≡ Ty.one
