-- `by_value::take_back` keeps the premise of the calls: the call that it makes does.
use Rattle.by_value.proofs.take_back.Goals as goal

pub returns : goal.returns
returns g c = (c.take_back-put.ensures c.requires).after
