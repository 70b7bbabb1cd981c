-- `types::state::open` meets its contract. The invariant: adding the standing entries that are left from here gives what adding all gives from the start.
use mathlib.Core.Path.{◌≡◌}
use lib.ListN.{length}
use Rattle.nodes.specs.Layout.{standing}
use Rattle.combinators.specs.Entering.{part}
use Rattle.combinators.proofs.EachEntry.{Adding}
use Rattle.types.proofs.state.open.Given as goal

abbrev pub invariant-loop-i : goal.invariant-loop-i
invariant-loop-i l = (length l.parent ≡ length l.initial.parent) × (length l.rows ≡ length l.initial.rows) × Adding (part l.initial.parent l.initial.rows 0 0) standing (part l.parent l.rows l.i 0) l.i
