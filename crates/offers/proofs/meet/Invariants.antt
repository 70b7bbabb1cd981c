-- `offers::meet` meets its contract. The invariant: the rules left to join lead to what all of them lead to from the start, and the next is at hand.
use mathlib.Core.Path.{◌≡◌}
use Prim.Native.Nat.{◌-◌, ◌<◌}
use lib.ListN.{length, get_or}
use Rattle.nodes.specs.Layout.{says}
use Rattle.nodes.specs.Meant.{meant}
use Rattle.types.specs.Lent.{classes_of, SameTables}
use Rattle.offers.proofs.Joining.{Joins}
use Rattle.offers.proofs.meet.Given as goal

abbrev pub invariant-loop-i : goal.invariant-loop-i
invariant-loop-i l =
    SameTables l.initial.state l.state
    × (l.count ≡ length (meant l.row).needs)
    × (l.i < l.count)
    × (says l.r.number l.r.one l.r.other ≡ get_or (meant l.row).needs l.i (says 0 0 0))
    × Joins (classes_of l.initial.state) (meant l.row).needs (classes_of l.state) l.pending l.i
    × (l.state.nodes.now ≡ l.initial.state.nodes.now)
    × (l.state.live.entries ≡ l.initial.state.live.entries)
    × (length l.pending ≡ length l.initial.pending)

abbrev pub decreases-loop-i : goal.decreases-loop-i
decreases-loop-i l = l.count - l.i
