-- `offers::write_row` meets its contract: seven stores are a row.
use Rattle.nodes.specs.Coded.{node_of}
use Rattle.types.proofs.Written.{row_stored}
use Rattle.offers.proofs.write_row.Goals as goal

pub returns : goal.returns
returns c =
    row_stored c.args.nodes.now c.args.i (node_of c.args.n) c.args.gives c.args.before.entries c.args.before.links c.requires.0 (c.from.ensures _ _) c.requires.1.first c.requires.1.second
