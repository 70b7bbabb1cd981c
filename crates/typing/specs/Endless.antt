-- Cycles: classes that lie inside themselves. Document 01, "Types, entries and nodes".
use Rattle.std.specs.Prelude.{◌≡◌, List, ℕ}
use Rattle.classes.specs.Bounds.{bound}
use Rattle.classes.specs.Forced.{Rule, Forced}
use Rattle.classes.specs.declared.Bound.{Bound}
use Rattle.classes.specs.declared.Bound.TheVariants.{Sum, Product}

module _ (bounds : List Bound) (rules : List Rule) where
  -- b is a component of an entry that is equal to a by force
  pub data Part : ℕ → ℕ → Type 0 where
    sum_left : {a m l r : ℕ} → Forced bounds rules a m → bound bounds m ≡ Sum l r → Part a l
    sum_right : {a m l r : ℕ} → Forced bounds rules a m → bound bounds m ≡ Sum l r → Part a r
    product_left : {a m l r : ℕ} → Forced bounds rules a m → bound bounds m ≡ Product l r → Part a l
    product_right : {a m l r : ℕ} → Forced bounds rules a m → bound bounds m ≡ Product l r → Part a r

  -- the same through one component or more
  pub data Inside : ℕ → ℕ → Type 0 where
    near : {a b : ℕ} → Part a b → Inside a b
    deeper : {a b c : ℕ} → Part a b → Inside b c → Inside a c

  -- a class that lies inside itself
  abbrev pub Cyclic : ℕ → Type 0
  Cyclic a = (b : ℕ) × Inside a b × Forced bounds rules b a

  -- the entry's class is cyclic or contains a cyclic class
  pub data Endless : ℕ → Type 0 where
    is : {a : ℕ} → Cyclic a → Endless a
    contains : {a b : ℕ} → Inside a b → Cyclic b → Endless a
