-- `closing::numbering::find` meets its contract. The invariant: what has been passed is not the type, what is left is in its chain.
use Rattle.closing.proofs.Chains.{Searching}
use Rattle.closing.proofs.numbering.find.Given as goal

abbrev pub invariant-loop-at : goal.invariant-loop-at
invariant-loop-at l = Searching l.entries l.work l.listing l.count l.ty.kind l.ty.left l.ty.right l.at

abbrev pub decreases-loop-at : goal.decreases-loop-at
decreases-loop-at l = l.at
