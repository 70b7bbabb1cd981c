-- `classes::context::join` meets its contract. The invariant: what waits leads from the table as it is to what the start leads to. No
-- local holds the number of entries, so the invariant speaks of every number for which the premise held at the start.
use mathlib.Core.Path.{◌≡◌}
use Prim.Native.Nat.{ℕ, ◌+◌, ◌-◌, ◌*◌}
use lib.ListN.{length}
use Rattle.classes.specs.Columns.{laid}
use Rattle.classes.proofs.Joins.{Joinable, Looping}
use Rattle.classes.proofs.context.join.Given as goal

abbrev pub invariant-loop-waiting : goal.invariant-loop-waiting
invariant-loop-waiting l =
    ((length l.parent ≡ length l.initial.parent) × (length l.rank ≡ length l.initial.rank) × (length l.rows ≡ length l.initial.rows) × (length l.trail ≡ length l.initial.trail) × (length l.pending ≡ length l.initial.pending))
    × ((e : ℕ) → Joinable (laid l.initial.parent l.initial.rank l.initial.rows l.initial.trail e l.before) l.initial.pending l.a l.b →
    Looping (laid l.initial.parent l.initial.rank l.initial.rows l.initial.trail e l.before) l.a l.b (laid l.parent l.rank l.rows l.trail e l.links) l.pending l.waiting)

abbrev pub decreases-loop-waiting : goal.decreases-loop-waiting
decreases-loop-waiting l = l.waiting + 2 * (length l.initial.parent - l.links)
