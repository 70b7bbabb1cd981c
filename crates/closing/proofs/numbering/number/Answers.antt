-- `closing::numbering::number` meets its contract.
use Rattle.closing.specs.Numbering.{Numbered}
use Rattle.closing.proofs.Chains.{numbered_new}
use Rattle.closing.proofs.numbering.number.Goals as goal

pub returns-in-Some : goal.returns-in-Some
returns-in-Some c = Numbered.again c.in-Some.t c.in-Some.ensures.0 c.in-Some.ensures.1

pub returns : goal.returns
returns c = numbered_new c.in_default.ensures c.chain_of-chain.ensures.0
