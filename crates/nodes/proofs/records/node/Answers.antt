-- `nodes::records::node` meets its contract: each arm's place in `nodes`.
use Rattle.nodes.specs.Records.{nodes}
use Rattle.nodes.specs.declared.Node.TheVariants.{Unit}
use Rattle.nodes.proofs.records.node.Goals as goal

pub returns-in-2 : goal.returns-in-2
unfolding nodes
returns-in-2 c = rw c.in-2.is (c.plain-in-2.ensures Unit)
