-- `classes::undo::undo` meets its contract: links undone, then entries removed, rewind the table. The invariant of each loop: what is
-- left from here gives what was to be given from its start.
use mathlib.Core.Path.{refl, ◌∙◌}
use Rattle.classes.specs.Columns.{shape_at, laid}
use Rattle.classes.proofs.Columns.{same_long}
use Rattle.classes.proofs.Rewinding.{unlinking_begins, unlinking_again, unlinking_ends, removing_begins, removing_again, removing_ends}
use Rattle.classes.proofs.Undos.{forest_undoable, forest_removable, marked_forest, marked_links, marked_entries, undone}
use Rattle.classes.proofs.undo.undo.Goals as goal

pub loop-link-init : goal.loop-link-init
loop-link-init c = (refl, (refl, refl, refl), unlinking_begins (forest_undoable (marked_forest c.requires)) (marked_links c.requires))

pub loop-link-preserved : goal.loop-link-preserved
loop-link-preserved c = (
  c.unlink.auto.rows ∙ c.loop-link.invariant.0,
  (c.unlink.ensures.same_bounds.0 ∙ c.loop-link.invariant.1.0, c.unlink.ensures.same_bounds.1 ∙ c.loop-link.invariant.1.1, c.unlink.ensures.same_bounds.2 ∙ c.loop-link.invariant.1.2),
  unlinking_again c.loop-link.invariant.2 c.loop-link-test.true c.unlink.ensures.by_index,
)

pub loop-entry-init : goal.loop-entry-init
loop-entry-init c =
    (refl, removing_begins (forest_removable (marked_forest c.requires) c.loop-link.invariant.2.lengths.0 c.loop-link.invariant.2.lengths.1 (same_long shape_at _ _ c.loop-link.invariant.0) c.loop-link.invariant.1) (marked_entries c.requires))

pub loop-entry-preserved : goal.loop-entry-preserved
loop-entry-preserved c =
    (c.remove.auto.rows ∙ c.loop-entry.invariant.0, removing_again c.loop-entry.invariant.1 c.loop-entry-test.true c.remove.ensures)

pub returns : goal.returns
returns c =
    undone (laid c.args.parent.now c.args.rank.now c.args.rows.now c.args.trail.now c.args.live.entries c.args.live.links) c.args.to
    (unlinking_ends c.loop-link.invariant.2 c.loop-link-test.false) (λ trail n. rw (c.loop-link.invariant.1.0, c.loop-link.invariant.1.1, c.loop-link.invariant.1.2) at (removing_ends c.loop-entry.invariant.1 c.loop-entry-test.false trail n))
