-- `combinators::enter_leaf` meets its contract: each arm is its combinator's row.
use mathlib.Core.Path.{◌≡◌, subst}
use Rattle.nodes.specs.Layout.{arrow}
use Rattle.nodes.specs.Coded.{named}
use Rattle.nodes.specs.declared.Node.TheVariants.{Witness as WitnessNode}
use Rattle.combinators.specs.Entering.{Ready, leaf}
use Rattle.combinators.proofs.Arity.{is_witness}
use Rattle.combinators.proofs.enter_leaf.Goals as goal
use Rattle.combinators.proofs.enter_leaf.Goals.{In_default}

-- the row of the last arm
last_row : (c : In_default) → leaf (named c.args.kind c.args.n 0) c.args.e ≡ leaf WitnessNode c.args.e
last_row c =
    is_witness c.args.kind c.args.n 0 (arrow 0 0) (arrow 0 0) c.args.e (c.in_default.not-Iden, (c.in_default.not-Unit, (c.in_default.not-Word, tt))) c.requires.n_len

pub iden-requires : goal.iden-requires
iden-requires c = rw c.in-Iden.is at c.requires.ready.0

pub unit-requires : goal.unit-requires
unit-requires c = rw c.in-Unit.is at c.requires.ready.0

pub witness-requires : goal.witness-requires
witness-requires c = subst (Ready _ _) (last_row (goal.at.witness-requires c).In_default) c.requires.ready.0
