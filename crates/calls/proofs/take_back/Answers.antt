-- `calls::take_back` meets its contract, which is the core's on the state's own arrays.
use Rattle.types.specs.Limits.{most_nodes}
use Rattle.calls.proofs.take_back.Goals as goal

pub returns : goal.returns
returns c = λ o. c.take_back-answer.ensures.called most_nodes o
