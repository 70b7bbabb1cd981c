-- `by_value::close` keeps the premise of the calls: the call that it makes does.
use Rattle.by_value.proofs.close.Goals as goal

pub returns : goal.returns
returns g c = (c.close-closed.ensures c.requires).0.after
