-- The state as the code lends it: its tables are the caller's slices.
use Rattle.std.specs.Prelude.{◌≡◌, List, ℕ, length}
use Rattle.classes.specs.Table.{Table}
use Rattle.types.specs.States.{State, held}
use Rattle.types.specs.declared.state.State.{State as Tables}

-- the state that the lent tables hold, but with this rank and this trail
abbrev pub held_with : Tables → List ℕ → List ℕ → State
held_with t rank trail = held t.parent.now rank t.rows.now trail t.nodes.now t.live

-- the state that the lent tables hold
abbrev pub held_by : Tables → State
held_by t = held_with t t.rank.now t.trail.now

-- its class table
abbrev pub classes_of : Tables → Table
classes_of t = (held_by t).classes

-- the tables are the very slices that were lent, as long as they were
pub record SameTables (old new : Tables) : Type 0 where
  pub parent : new.parent.ghost_name ≡ old.parent.ghost_name
  pub rank : new.rank.ghost_name ≡ old.rank.ghost_name
  pub rows : new.rows.ghost_name ≡ old.rows.ghost_name
  pub trail : new.trail.ghost_name ≡ old.trail.ghost_name
  pub nodes : new.nodes.ghost_name ≡ old.nodes.ghost_name
  pub parent_long : length new.parent.now ≡ length old.parent.now
  pub rank_long : length new.rank.now ≡ length old.rank.now
  pub rows_long : length new.rows.now ≡ length old.rows.now
  pub trail_long : length new.trail.now ≡ length old.trail.now
  pub nodes_long : length new.nodes.now ≡ length old.nodes.now
