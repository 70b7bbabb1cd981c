-- `types::state::State::take_back` meets its contract: nothing to take, or an undo to the mark in the first row taken, and the rows from it on cleared.
use Prim.Native.Nat.{◌<◌}
use native.Mathlib.Omega.{arith}
use Rattle.types.proofs.Taking.{takes_too_far, takes_none, row_marked, takes_back}
use Rattle.types.proofs.state.State.take_back.Goals as goal
use Rattle.types.proofs.state.State.take_back.Goals.{Else-kept-to-2}

less : (c : Else-kept-to-2) → c.args.to < c.args.self.now.live.kept
less c = omega arith

pub returns-then-kept-to-clause-called : goal.returns-then-kept-to-clause-called
returns-then-kept-to-clause-called c most o = takes_too_far o _ c.if-kept-to.true

pub returns-then-kept-to-2-clause-called : goal.returns-then-kept-to-2-clause-called
returns-then-kept-to-2-clause-called c most o = takes_none o _ c.if-kept-to-2.true

pub undo-requires : goal.undo-requires
undo-requires c = row_marked c.requires.1 c.args.to (less (goal.at.undo-requires c).Else-kept-to-2)

pub returns-clause-called : goal.returns-clause-called
returns-clause-called c most o =
    takes_back o c.args.to (less (goal.at.returns-clause-called c).Else-kept-to-2) c.undo.ensures c.clear_rows.ensures
