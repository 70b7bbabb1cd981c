-- The state struct of the record calls, as the state that its arrays hold.
use Rattle.types.specs.States.{held}
use Rattle.types.specs.States
use Rattle.calls.specs.declared.Owned.{Owned}

abbrev pub state_of : Owned → States.State
state_of s = held s.parent s.rank s.rows s.trail s.nodes s.live
