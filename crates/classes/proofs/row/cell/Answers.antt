-- `classes::row::cell` meets its contract: what is read is the number of a column.
use mathlib.Core.Path.{sym}
use Rattle.classes.proofs.Columns.{cell}
use Rattle.classes.proofs.row.cell.Goals as goal

pub returns : goal.returns
returns c = sym (cell c.args.k c.args.rows.now c.args.a c.requires.0)
