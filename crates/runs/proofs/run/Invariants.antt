-- `runs::run` meets its contract. The invariant: the records so far are put, to the tables that were lent.
use Rattle.types.specs.Limits.{most_nodes}
use Rattle.types.specs.States.{Opened}
use Rattle.types.specs.Lent.{held_by, SameTables}
use Rattle.runs.specs.Putting.{Puts}
use Rattle.runs.proofs.run.Given as goal

abbrev pub invariant-loop-i : goal.invariant-loop-i
invariant-loop-i l =
    ((o : Opened most_nodes (held_by l.initial.own)) →
    (o' : Opened most_nodes (held_by l.own))
    × Puts l.bytes l.from (held_by l.initial.own) o l.initial.listed l.initial.answers l.i (held_by l.own) o' l.listed l.answers)
    × SameTables l.initial.own l.own
