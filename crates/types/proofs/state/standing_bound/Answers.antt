-- `types::state::standing_bound` meets its contract: the standing bounds by their numbers.
use Rattle.types.proofs.Squares.{standing_first, standing_second, standing_square}
use Rattle.types.proofs.state.standing_bound.Goals as goal

pub returns-then-i-eq0 : goal.returns-then-i-eq0
returns-then-i-eq0 c = rw c.if-i-eq0.true standing_first

pub returns-then-i-eq1 : goal.returns-then-i-eq1
returns-then-i-eq1 c = rw c.if-i-eq1.true standing_second

pub returns : goal.returns
returns c = standing_square _ c.if-i-eq0.false c.if-i-eq1.false c.requires
