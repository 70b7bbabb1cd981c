-- `combinators::each::comp` meets its contract: no entry, and the rule holds already or is left.
use mathlib.Core.Path.{refl}
use Rattle.combinators.specs.Entered.{entered}
use Rattle.combinators.proofs.Added.{rule_rooted, one_left}
use Rattle.combinators.proofs.each.comp.Goals as goal

pub unmet-rules-requires : goal.unmet-rules-requires
unfolding entered
unmet-rules-requires c = rule_rooted c.requires.0.2 refl c.requires.1

pub returns : goal.returns
unfolding entered
returns c = λ rank trail able. record { is = refl; gives = refl; left = one_left _ _ _ _ _ c.unmet-rules.ensures }
