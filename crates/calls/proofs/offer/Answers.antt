-- `calls::offer` meets its contract, which is the core's on the state's own arrays. A word's n is looked at first.
use Prim.Native.Nat.{◌*◌}
use mathlib.Core.Path.{sym, subst}
use native.Mathlib.Omega.{arith}
use Rattle.types.specs.Limits.{most_entries, most_nodes}
use Rattle.nodes.specs.Layout.{Proper}
use Rattle.types.proofs.Begun.{pending_wide}
use Rattle.types.proofs.Offering.{offer_over_31}
use Rattle.calls.proofs.Handing.{same_offer}
use borrow.Author.Rules.{rules}
use Rattle.calls.proofs.offer.Goals as goal
use Rattle.calls.proofs.offer.Goals.{Else-word_of-gt-LARGEST_WORD}

pub returns-then-word_of-gt-LARGEST_WORD : goal.returns-then-word_of-gt-LARGEST_WORD
returns-then-word_of-gt-LARGEST_WORD c = λ o. offer_over_31 o c.args.n (λ small. omega (arith, small, c.if-word_of-gt-LARGEST_WORD.true, c.word_of.ensures))

-- past the check
proper : (c : Else-word_of-gt-LARGEST_WORD) → Proper c.args.n
proper c = omega (arith, c.if-word_of-gt-LARGEST_WORD.false, c.word_of.ensures)

pub offer-answer-requires : goal.offer-answer-requires
offer-answer-requires c =
    record { by_index = (most_nodes, c.requires); regular = (c.from.ensures.1, subst Proper (sym c.from.ensures.0) (proper (goal.at.offer-answer-requires c).Else-word_of-gt-LARGEST_WORD), pending_wide c.args.s.parent most_entries (2 * most_entries) (search rules) (omega arith)) }

pub returns : goal.returns
returns c = λ o. same_offer c.from.ensures.0 (c.offer-answer.ensures.called most_nodes o)
