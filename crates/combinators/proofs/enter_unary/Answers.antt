-- `combinators::enter_unary` meets its contract: each arm is its combinator's row.
use mathlib.Core.Path.{◌≡◌, subst}
use Rattle.nodes.specs.Layout.{arrow}
use Rattle.nodes.specs.Coded.{named}
use Rattle.nodes.specs.declared.Node.TheVariants.{DisconnectHole as HoleNode}
use Rattle.combinators.specs.Entering.{Ready, unary}
use Rattle.combinators.proofs.Arity.{is_hole}
use Rattle.combinators.proofs.enter_unary.Goals as goal
use Rattle.combinators.proofs.enter_unary.Goals.{In_default}

-- the row of the last arm
last_row : (c : In_default) → unary (λ i. named c.args.kind i 0) c.args.s c.args.e ≡ unary HoleNode c.args.s c.args.e
last_row c =
    is_hole c.args.kind 0 0 c.args.s (arrow 0 0) c.args.e (c.in_default.not-InjL, (c.in_default.not-InjR, (c.in_default.not-Take, (c.in_default.not-Drop, (c.in_default.not-AssertL, (c.in_default.not-AssertR, tt)))))) c.requires.kind_len

pub injl-requires : goal.injl-requires
injl-requires c = rw c.in-InjL.is at c.requires.ready

pub injr-requires : goal.injr-requires
injr-requires c = rw c.in-InjR.is at c.requires.ready

pub take-requires : goal.take-requires
take-requires c = rw c.in-Take.is at c.requires.ready

pub drop-requires : goal.drop-requires
drop-requires c = rw c.in-Drop.is at c.requires.ready

pub assertl-requires : goal.assertl-requires
assertl-requires c = rw c.in-AssertL.is at c.requires.ready

pub assertr-requires : goal.assertr-requires
assertr-requires c = rw c.in-AssertR.is at c.requires.ready

pub disconnect_hole-requires : goal.disconnect_hole-requires
disconnect_hole-requires c = subst (Ready _ _) (last_row (goal.at.disconnect_hole-requires c).In_default) c.requires.ready
