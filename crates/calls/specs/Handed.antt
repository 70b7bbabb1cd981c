-- The listing that a closing hands out by value.
use Rattle.std.specs.Prelude.{◌≡◌, List, ◌++◌, ℕ, ◌-◌, ◌≤◌, length, replicate}
use Rattle.types.specs.Closings.{Lists}
use Rattle.nodes.specs.declared.Node.{Node}
use Rattle.nodes.specs.declared.Record.TheVariants.{Close}

-- in an array of `size` numbers: the listing, and 0 past its end
pub record Handed (size : ℕ) (kept : List Node) (numbers : List ℕ) : Type 0 where
  pub listed : List ℕ
  pub lists : Lists kept Close listed
  pub fits : length listed ≤ size
  pub are : numbers ≡ listed ++ replicate (size - length listed) 0
