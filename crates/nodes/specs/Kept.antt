-- A kept node's row in the table of nodes.
use Rattle.std.specs.Prelude.{List, [], ◌∷◌, ℕ, ◌+◌, ◌*◌, get_or}
use Rattle.nodes.specs.Coded.{kind_number, first_field, second_field}
use Rattle.nodes.specs.declared.Node.{Node}
use Rattle.nodes.specs.declared.arrow.Arrow.{Arrow}

-- its numbers: kind, a, b, source, target, and the entries and links before it
abbrev pub row_numbers : Node → Arrow → ℕ → ℕ → List ℕ
row_numbers n a entries links =
    kind_number n ∷ first_field n ∷ second_field n ∷ a.source ∷ a.target ∷ entries ∷ links ∷ []

-- how many there are
abbrev pub node_width : ℕ
node_width = 7

-- the source and the target that the row of node i has
abbrev pub source_at : List ℕ → ℕ → ℕ
source_at nodes i = get_or nodes (node_width * i + 3) 0

abbrev pub target_at : List ℕ → ℕ → ℕ
target_at nodes i = get_or nodes (node_width * i + 4) 0
