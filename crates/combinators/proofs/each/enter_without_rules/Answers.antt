-- `combinators::each::enter_without_rules` meets its contract: the entries, and no rule.
use mathlib.Core.Path.{refl}
use Rattle.combinators.specs.Entered.Meets.{done}
use Rattle.combinators.proofs.each.enter_without_rules.Goals as goal

pub returns : goal.returns
returns g c = λ rank trail able. record { is = c.add-entries.ensures rank trail able; gives = refl; left = done }
