-- `classes::union_bound::root` meets its contract. The invariant: the entry reached has the root of the one that was asked for.
use mathlib.Core.Path.{sym, ◌∙◌}
use Rattle.classes.proofs.Roots.{root_of_own}
use Rattle.classes.proofs.Searching.{here_live, same_root, parent_rooted, parent_nearer}
use Rattle.classes.proofs.union_bound.root.Goals as goal

pub bounds-parent-at : goal.bounds-parent-at
bounds-parent-at c = here_live c.loop-at.invariant.0

pub loop-at-smaller : goal.loop-at-smaller
loop-at-smaller c = parent_nearer c.loop-at.invariant.0 c.if-up-at.false

pub loop-at-preserved : goal.loop-at-preserved
loop-at-preserved c = (parent_rooted c.loop-at.invariant.0, same_root c.loop-at.invariant.0 ∙ c.loop-at.invariant.1)

pub returns : goal.returns
returns c = sym (root_of_own c.args.parent.now c.loop-at.at c.if-up-at.true) ∙ c.loop-at.invariant.1
