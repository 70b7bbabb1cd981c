-- `combinators::entries::add` meets its contract. The invariant: adding the bounds that are left from here gives what adding all gives from the start.
use Rattle.combinators.specs.Entering.{part}
use Rattle.combinators.proofs.EachEntry.{Adding}
use Rattle.combinators.proofs.entries.add.Given as goal

abbrev pub invariant-loop-b : goal.invariant-loop-b
invariant-loop-b g l = Adding (part l.initial.parent l.initial.rows l.initial.entries l.links) l.b-items (part l.parent l.rows l.entries l.links) l.b-index
