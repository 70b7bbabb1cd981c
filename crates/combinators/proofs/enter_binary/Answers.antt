-- `combinators::enter_binary` meets its contract: each arm is its combinator's row.
use mathlib.Core.Path.{◌≡◌, subst}
use Rattle.nodes.specs.Coded.{named}
use Rattle.nodes.specs.declared.Node.TheVariants.{Disconnect as DisconnectNode}
use Rattle.combinators.specs.Entering.{Ready, binary}
use Rattle.combinators.proofs.Arity.{is_disconnect}
use Rattle.combinators.proofs.enter_binary.Goals as goal
use Rattle.combinators.proofs.enter_binary.Goals.{In_default}

-- the row of the last arm
last_row : (c : In_default) → binary (named c.args.kind) c.args.s c.args.t c.args.e ≡ binary DisconnectNode c.args.s c.args.t c.args.e
last_row c =
    is_disconnect c.args.kind 0 0 c.args.s c.args.t c.args.e (c.in_default.not-Comp, (c.in_default.not-Case, (c.in_default.not-Pair, tt))) c.requires.kind_len

pub comp-requires : goal.comp-requires
comp-requires c = rw c.in-Comp.is at c.requires.ready

pub case-requires : goal.case-requires
case-requires c = rw c.in-Case.is at c.requires.ready

pub pair-requires : goal.pair-requires
pair-requires c = rw c.in-Pair.is at c.requires.ready

pub disconnect-requires : goal.disconnect-requires
disconnect-requires c = subst (Ready _ _) (last_row (goal.at.disconnect-requires c).In_default) c.requires.ready
