-- `combinators::each::word` meets its contract: no entry, and no rule.
use mathlib.Core.Path.{refl}
use Rattle.combinators.specs.Entered.{entered}
use Rattle.combinators.specs.Entered.Meets.{done}
use Rattle.combinators.proofs.each.word.Goals as goal

pub returns : goal.returns
unfolding entered
returns c = λ rank trail able. record { is = refl; gives = refl; left = done }
