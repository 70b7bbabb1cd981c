-- `nodes::records::node_at` meets its contract: a record that offers has regular numbers.
use mathlib.Core.Path.{◌∙◌}
use Rattle.nodes.proofs.Reading.{kind_is, offered}
use Rattle.nodes.proofs.records.node_at.Goals as goal

pub returns : goal.returns
returns c =
    offered c.args.bytes.now c.args.at c.requires.1 (c.unwrap_or-kind.ensures ∙ kind_is _ _ c.try_from.ensures) c.first-a.ensures c.second-b.ensures
