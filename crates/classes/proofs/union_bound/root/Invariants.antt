-- `classes::union_bound::root` meets its contract. The invariant: the entry reached has the root of the one that was asked for.
use mathlib.Core.Path.{◌≡◌}
use lib.ListN.{length}
use Rattle.classes.specs.Table.{root_in}
use Rattle.classes.specs.Turning.{Rooted}
use Rattle.classes.proofs.Searching.{distance}
use Rattle.classes.proofs.union_bound.root.Given as goal

abbrev pub invariant-loop-at : goal.invariant-loop-at
invariant-loop-at l = Rooted l.parent l.at × (root_in l.parent l.at ≡ root_in l.parent l.a)

abbrev pub decreases-loop-at : goal.decreases-loop-at
decreases-loop-at l = distance (length l.parent) l.parent l.at
