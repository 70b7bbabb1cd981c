-- `classes::undo::undo` meets its contract: links undone, then entries removed, rewind the table. The invariant of each loop: what is
-- left from here gives what was to be given from its start.
use mathlib.Core.Path.{◌≡◌}
use lib.ListN.{length}
use Rattle.classes.specs.Columns.{kinds, lefts, rights, shapes, SameBounds}
use Rattle.classes.proofs.Rewinding.{Unlinking, Removing}
use Rattle.classes.proofs.undo.undo.Given as goal

abbrev pub invariant-loop-link : goal.invariant-loop-link
invariant-loop-link l =
    (length l.rows ≡ length l.initial.rows) × SameBounds l.rows l.initial.rows × Unlinking l.initial.parent l.initial.rank (shapes l.initial.rows) l.initial.trail l.live.links l.to.links l.parent l.rank (shapes l.rows) l.trail l.link

abbrev pub invariant-loop-entry : goal.invariant-loop-entry
invariant-loop-entry l =
    (length l.rows ≡ length l.initial.rows)
    × Removing l.initial.parent l.initial.rank (shapes l.initial.rows) (kinds l.initial.rows) (lefts l.initial.rows) (rights l.initial.rows) l.initial.entry l.entry-start l.parent l.rank (shapes l.rows) (kinds l.rows) (lefts l.rows) (rights l.rows) l.entry
