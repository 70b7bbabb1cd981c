-- `texts::put` meets its contract: the text fits, or there is no room.
use native.Mathlib.Omega.{arith}
use Rattle.texts.specs.Texts.AtFront.{fits, no_room}
use Rattle.texts.proofs.put.Goals as goal

pub returns-then-out-src : goal.returns-then-out-src
returns-then-out-src c = no_room c.if-out-src.true

pub returns : goal.returns
returns c = rw (c.copy_from_slice.ensures.after) (fits (omega (arith, c.if-out-src.false)))
