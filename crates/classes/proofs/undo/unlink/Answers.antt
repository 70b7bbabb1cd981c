-- `classes::undo::unlink` meets its contract: the rows that the trail names are there.
use mathlib.Core.Path.{◌≡◌}
use Prim.Native.Nat.{ℕ, ◌+◌, ◌-◌, ◌*◌, ◌<◌}
use native.Mathlib.Omega.{arith}
use lib.ListN.{length, get_or, length-set}
use Rattle.classes.specs.Columns.{kind_at, left_at, right_at, shape_at, height}
use Rattle.classes.proofs.Columns.{length_column, column_set, column_kept}
use Rattle.classes.proofs.undo.unlink.Goals as goal
use Rattle.classes.proofs.undo.unlink.Goals.{Start}

-- the root that went below, and the one above it
abbrev below : Start → ℕ
below c = get_or c.args.trail.now (3 * (c.args.last)) 0

abbrev stands : Start → ℕ
stands c = get_or c.args.parent.now (below c) 0

below_live : (c : Start) → below c < length c.args.parent.now
below_live c = c.requires.belows (c.args.last) (omega arith)

stands_live : (c : Start) → stands c < length c.args.parent.now
stands_live c = c.requires.parents (below c) (below_live c)

stands-row : (c : Start) → stands c < height c.args.rows.now
stands-row c = omega (arith, stands_live c, c.requires.shape_rows, length_column shape_at c.args.rows.now)

pub overflow_cast-b : goal.overflow_cast-b
overflow_cast-b c = omega (arith, below_live (goal.at.overflow_cast-b c).Start)

pub offset_bounds-parent-b : goal.offset_bounds-parent-b
offset_bounds-parent-b c = omega (arith, below_live (goal.at.offset_bounds-parent-b c).Start)

pub bounds-parent-b : goal.bounds-parent-b
bounds-parent-b c = below_live (goal.at.bounds-parent-b c).Start

pub overflow_cast-s : goal.overflow_cast-s
overflow_cast-s c = omega (arith, stands_live (goal.at.overflow_cast-s c).Start)

pub offset_bounds-parent-b-2 : goal.offset_bounds-parent-b-2
offset_bounds-parent-b-2 c = omega (arith, below_live (goal.at.offset_bounds-parent-b-2 c).Start)

pub bounds-parent-b-2 : goal.bounds-parent-b-2
bounds-parent-b-2 c = below_live (goal.at.bounds-parent-b-2 c).Start

pub offset_bounds-rank-s : goal.offset_bounds-rank-s
offset_bounds-rank-s c = omega (arith, stands_live (goal.at.offset_bounds-rank-s c).Start)

pub bounds-rank-s : goal.bounds-rank-s
bounds-rank-s c = omega (arith, stands_live (goal.at.bounds-rank-s c).Start)

pub overflow_mul-rows : goal.overflow_mul-rows
overflow_mul-rows c = omega (arith, stands-row (goal.at.overflow_mul-rows c).Start)

pub overflow_add-rows-2 : goal.overflow_add-rows-2
overflow_add-rows-2 c = omega (arith, stands-row (goal.at.overflow_add-rows-2 c).Start)

pub offset_bounds-rows-s : goal.offset_bounds-rows-s
offset_bounds-rows-s c = omega (arith, stands-row (goal.at.offset_bounds-rows-s c).Start)

pub bounds-rows-s : goal.bounds-rows-s
bounds-rows-s c = omega (arith, stands-row (goal.at.bounds-rows-s c).Start)

pub bounds-trail-note-5 : goal.bounds-trail-note-5
bounds-trail-note-5 c = simp length-set (omega arith)

pub bounds-trail-note-6 : goal.bounds-trail-note-6
bounds-trail-note-6 c = simp length-set (omega arith)

pub returns : goal.returns
returns c =
    let kept = column_kept c.args.rows.now (stands (goal.at.returns c).Start) shape_at (get_or c.args.trail.now (3 * (c.args.last) + 2) 0) (omega arith) in
    let own : c.args.last + 1 - 1 ≡ c.args.last = omega arith in
    record { by_index = (λ k l q e. rw (own, column_set c.args.rows.now (stands (goal.at.returns c).Start) shape_at _ (omega arith))); same_bounds = (kept kind_at (omega arith) (omega arith), kept left_at (omega arith) (omega arith), kept right_at (omega arith) (omega arith)) }
