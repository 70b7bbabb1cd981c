-- `closing::walk::complete` meets its contract.
use native.Mathlib.Omega.{arith}
use Rattle.closing.proofs.Steps.{number_low, completed_new, completed_again}
use Rattle.closing.proofs.walk.complete.Goals as goal

pub overflow_add-work : goal.overflow_add-work
overflow_add-work c = record { fits = omega (arith, number_low c.number-t.ensures, c.requires.steppable.fewer, c.requires.steppable.chains.small) }

pub returns-then-t-at : goal.returns-then-t-at
returns-then-t-at c = completed_new c.number-t.ensures c.if-t-at.true

pub returns-else-t-at : goal.returns-else-t-at
returns-else-t-at c = completed_again c.number-t.ensures c.if-t-at.false
