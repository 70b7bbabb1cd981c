-- `classes::undo::remove` meets its contract: the row written anew with 0.
use mathlib.Core.Path.{refl}
use mathlib.Core.List.{[], ◌∷◌}
use mathlib.Core.Path.{◌≡◌}
use Prim.Native.Nat.{◌+◌, ◌-◌, ◌<◌}
use native.Mathlib.Omega.{arith}
use lib.ListN.{length-set}
use Rattle.classes.specs.Columns.{kind_at, left_at, right_at, shape_at, height}
use Rattle.classes.proofs.Columns.{length_column, written, rewritten_column}
use Rattle.classes.proofs.undo.remove.Goals as goal
use Rattle.classes.proofs.undo.remove.Goals.{Start}

there : (c : Start) → c.args.last < height c.args.rows.now
there c = omega (arith, length_column shape_at c.args.rows.now, c.requires.shape_rows)

pub bounds-rows-row : goal.bounds-rows-row
bounds-rows-row c = omega (arith, there c)

pub bounds-rows-row-2 : goal.bounds-rows-row-2
bounds-rows-row-2 c = simp length-set (omega (arith, there c))

pub bounds-rows-row-3 : goal.bounds-rows-row-3
bounds-rows-row-3 c = simp length-set (omega (arith, there c))

pub bounds-rows-row-4 : goal.bounds-rows-row-4
bounds-rows-row-4 c = simp length-set (omega (arith, there c))

pub returns : goal.returns
unfolding written
returns c =
    let blank = rewritten_column c.args.rows.now (c.args.last) (0 ∷ 0 ∷ 0 ∷ 0 ∷ []) refl in
    let own : c.args.last + 1 - 1 ≡ c.args.last = omega arith in
    λ trail n. rw (own, blank kind_at (omega arith), blank left_at (omega arith), blank right_at (omega arith), blank shape_at (omega arith))
