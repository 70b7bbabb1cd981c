-- The type that bounds and rules force on an entry, unit for what stayed free. An endless entry has none.
use Rattle.std.specs.Prelude.{◌≡◌, List, ℕ}
use Rattle.classes.specs.Bounds.{bound}
use Rattle.classes.specs.Forced.{Rule, Forced}
use Rattle.classes.specs.declared.Bound.{Bound}
use Rattle.classes.specs.declared.Bound.TheVariants.{Unit, Sum, Product}
use Rattle.typing.specs.Types.{Ty, Unbound}

pub data Finite (bounds : List Bound) (rules : List Rule) : ℕ → Ty → Type 0 where
  free : {a : ℕ} → Unbound bounds rules a → Finite bounds rules a Ty.one
  unit : {a m : ℕ} → Forced bounds rules a m → bound bounds m ≡ Unit → Finite bounds rules a Ty.one
  sum : {a m l r : ℕ} {x y : Ty} → Forced bounds rules a m → bound bounds m ≡ Sum l r → Finite bounds rules l x → Finite bounds rules r y →
      Finite bounds rules a (Ty.sum x y)
  product : {a m l r : ℕ} {x y : Ty} → Forced bounds rules a m → bound bounds m ≡ Product l r → Finite bounds rules l x → Finite bounds rules r y →
      Finite bounds rules a (Ty.product x y)
