-- The lent tables stay the slices that were lent, one call after the other.
use mathlib.Core.Path.{refl, ◌∙◌}
use Rattle.types.specs.Lent.{SameTables}
use Rattle.types.specs.declared.state.State.{State}

pub same_tables : {t : State} → SameTables t t
same_tables = record {
  parent = refl;
  rank = refl;
  rows = refl;
  trail = refl;
  nodes = refl;
  parent_long = refl;
  rank_long = refl;
  rows_long = refl;
  trail_long = refl;
  nodes_long = refl;
}

pub same_again : {t u w : State} → SameTables t u → SameTables u w → SameTables t w
same_again a b = record {
  parent = b.parent ∙ a.parent;
  rank = b.rank ∙ a.rank;
  rows = b.rows ∙ a.rows;
  trail = b.trail ∙ a.trail;
  nodes = b.nodes ∙ a.nodes;
  parent_long = b.parent_long ∙ a.parent_long;
  rank_long = b.rank_long ∙ a.rank_long;
  rows_long = b.rows_long ∙ a.rows_long;
  trail_long = b.trail_long ∙ a.trail_long;
  nodes_long = b.nodes_long ∙ a.nodes_long;
}
