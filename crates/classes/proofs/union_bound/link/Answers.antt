-- `classes::union_bound::link` meets its contract: the store to a row is a store to the column of shapes.
use native.Mathlib.Omega.{arith}
use Rattle.classes.specs.Columns.{kind_at, left_at, right_at, shape_at}
use Rattle.classes.proofs.Columns.{cell, column_set, column_kept}
use Rattle.classes.proofs.union_bound.link.Goals as goal

pub returns : goal.returns
returns c =
    let kept = column_kept c.args.rows.now c.args.two.stands shape_at c.args.shows (omega arith) in
    λ e n. rw (
      column_set c.args.rows.now c.args.two.stands shape_at c.args.shows (omega arith),
      kept kind_at (omega arith) (omega arith),
      kept left_at (omega arith) (omega arith),
      kept right_at (omega arith) (omega arith),
      cell shape_at c.args.rows.now c.args.two.stands c.requires.2,
    )
