-- `nodes::records::request` meets its contract: past the list `nodes` the kind decides `other`.
use mathlib.Core.Path.{refl}
use native.Mathlib.Decide.{ℕ_discrete}
use Rattle.nodes.specs.Records.{spare, nodes}
use Rattle.nodes.specs.declared.Record.TheVariants.{Close}
use Rattle.nodes.proofs.records.request.Goals as goal

pub returns-in-65 : goal.returns-in-65
unfolding nodes ℕ_discrete
returns-in-65 c =
    rw c.in-65.is
    (c.unless-in-65-2.ensures (spare c.args.b Close) (c.unless-in-65.ensures Close refl))
