-- The limits of a state for 1,024 nodes, and how long its tables are, in numbers of 16 bits: document 01, "State and records".
use Rattle.std.specs.Prelude.{ℕ, ◌+◌, ◌*◌}
use Rattle.classes.specs.Columns.{width}
use Rattle.nodes.specs.Kept.{node_width}

-- the most nodes kept
abbrev pub most_nodes : ℕ
most_nodes = 1024

-- the most entries: 33 that stand, and eight for each node. So many numbers have parent and rank
abbrev pub most_entries : ℕ
most_entries = 33 + 8 * most_nodes

abbrev pub rows_long : ℕ
rows_long = width * most_entries

abbrev pub trail_long : ℕ
trail_long = 3 * most_entries

abbrev pub nodes_long : ℕ
nodes_long = node_width * most_nodes

-- working memory: two numbers for each entry to join, four to close
abbrev pub work_long : ℕ
work_long = 4 * most_entries

-- the longest listing: four numbers, three for each type, of which there are no more than entries, and two for each node
abbrev pub longest_listing : ℕ
longest_listing = 4 + 3 * most_entries + 2 * most_nodes
