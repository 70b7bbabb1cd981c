-- `classes::context::push_parts` meets its contract.
use Rattle.classes.proofs.Pending.{pushed_parts}
use Rattle.classes.proofs.context.push_parts.Goals as goal

pub returns-in-Parts : goal.returns-in-Parts
returns-in-Parts c =
    pushed_parts c.args.pending.now c.args.waiting c.requires c.in-Parts.is c.push.ensures c.push-in-Parts.ensures
