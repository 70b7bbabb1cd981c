-- What a node with its children's arrows and the next entry's number means: a row of the layout.
use Rattle.std.specs.Prelude.{◌+◌, ◌^◌, ◌<◌}
use Rattle.nodes.specs.Layout.{Numbered, says, Row, Proper, adds}
use Rattle.nodes.specs.Coded.{node_of}
use Rattle.nodes.specs.declared.arrow.Rule.{Rule}
use Rattle.nodes.specs.declared.arrow.Adds.{Adds}

abbrev pub meant_rule : Rule → Numbered
meant_rule r = says r.number r.one r.other

abbrev pub meant : Adds → Row
meant a = adds (node_of a.node) a.s a.t a.e

-- the numbers of its entries fit
abbrev pub Countable : Adds → Type 0
Countable a = (a.e + 8 < 2 ^ 16) × Proper (node_of a.node)
