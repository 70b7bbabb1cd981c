-- `closing::listing::write_arrows` meets its contract. The invariant: the arrows of the first `i` nodes are written.
use mathlib.Core.Path.{◌≡◌}
use lib.ListN.{length}
use Rattle.closing.specs.Writing.{ArrowsWritten}
use Rattle.closing.proofs.listing.write_arrows.Given as goal

abbrev pub invariant-loop-i : goal.invariant-loop-i
invariant-loop-i l =
    (length l.listing ≡ length l.initial.listing) × ArrowsWritten l.parent l.nodes l.work l.initial.listing l.at l.i l.listing
