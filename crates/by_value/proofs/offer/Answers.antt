-- `by_value::offer` keeps the premise of the calls: the call that it makes does.
use Rattle.by_value.proofs.offer.Goals as goal

pub returns : goal.returns
returns g c = (c.offer-put.ensures c.requires).after
