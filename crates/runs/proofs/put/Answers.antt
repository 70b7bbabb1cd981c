-- `runs::put` meets its contract: what the core promises, by what the record asks.
use mathlib.Core.Path.{sym, ap, ◌∙◌, subst}
use Rattle.types.specs.Limits.{most_nodes}
use Rattle.nodes.specs.declared.Record.TheVariants.{TakeBack}
use Rattle.nodes.proofs.Asked.{Asked, asked, asked_proper, asked_take_back, asked_close, asked_malformed}
use Rattle.runs.proofs.Putting.{offer_is_no_closing, take_back_is_no_closing, offer_is_not_65, take_back_is_not_65, put_settled, put_closing, put_malformed, closing_room}
use Rattle.runs.proofs.put.Goals as goal

pub offer-requires : goal.offer-requires
offer-requires c =
    record { by_index = (most_nodes, c.requires.opened); regular = (c.node_at.ensures.1, asked_proper (asked c.args.bytes.now c.args.from) _ c.node_at.ensures.0, c.requires.from_in_bounds.1.pairs) }

pub close-answer-requires : goal.close-answer-requires
close-answer-requires c =
    record { by_index = (most_nodes, _, _, c.requires.opened); entries_bound = closing_room c.requires.opened c.requires.from_in_bounds.1 }

pub returns-in-Offer-clause-put : goal.returns-in-Offer-clause-put
returns-in-Offer-clause-put c =
    let other = offer_is_not_65 (subst (Asked _ _ _) c.node_at.ensures.0 (asked c.args.bytes.now c.args.from)) in
    λ o. put_settled o other c.node_at.ensures.0 (offer_is_no_closing _) (c.offer.ensures.called most_nodes o)

pub returns-in-TakeBack-clause-put : goal.returns-in-TakeBack-clause-put
returns-in-TakeBack-clause-put c =
    let is = asked_take_back (asked c.args.bytes.now c.args.from) (sym c.asked.ensures ∙ c.in-TakeBack.is) in
    let other = take_back_is_not_65 (subst (Asked _ _ _) is (asked c.args.bytes.now c.args.from)) in
    λ o. put_settled o other (is ∙ ap TakeBack (sym c.first.ensures)) (take_back_is_no_closing _) (c.take_back.ensures.called most_nodes o)

pub returns-in-Close-clause-put : goal.returns-in-Close-clause-put
returns-in-Close-clause-put c =
    let is = asked_close (asked c.args.bytes.now c.args.from) (sym c.asked.ensures ∙ c.in-Close.is) in
    λ o. (_, put_closing o is (c.close-answer.ensures most_nodes _ _ o), c.settle.ensures)

pub returns-in-Malformed-clause-put : goal.returns-in-Malformed-clause-put
returns-in-Malformed-clause-put c =
    let is = asked_malformed (asked c.args.bytes.now c.args.from) (sym c.asked.ensures ∙ c.in-Malformed.is) in
    λ o. (_, put_malformed o is, c.settle-in-Malformed.ensures)
