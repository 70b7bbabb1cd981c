-- `combinators::each::pair` meets its contract: its entry, and the rule holds already or is left.
use mathlib.Core.Path.{refl}
use Rattle.combinators.proofs.Added.{rule_rooted, one_left}
use Rattle.combinators.proofs.each.pair.Goals as goal

pub unmet-rules-requires : goal.unmet-rules-requires
unmet-rules-requires c = rule_rooted c.requires.0.2 (c.add-entries.ensures _ _ c.requires.0.2) c.requires.1

pub returns : goal.returns
returns c = λ rank trail able. record { is = c.add-entries.ensures rank trail able; gives = refl; left = one_left _ _ _ _ _ c.unmet-rules.ensures }
