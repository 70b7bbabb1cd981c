-- `calls::open` meets its contract, which is the core's on the state's own arrays.
use Rattle.types.specs.Limits.{most_entries, most_nodes}
use Rattle.types.proofs.Begun.{opened_first}
use mathlib.Core.Path.{refl}
use native.Mathlib.Omega.{arith}
use Rattle.calls.proofs.open.Goals as goal

pub open-live-requires : goal.open-live-requires
open-live-requires c = (most_entries, omega arith, omega arith, refl, refl)

pub returns : goal.returns
returns c = opened_first most_nodes most_entries (omega arith) (omega arith) c.open-live.ensures.0 c.open-live.ensures.1
