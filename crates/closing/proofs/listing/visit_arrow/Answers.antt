-- `closing::listing::visit_arrow` meets its contract.
use Rattle.closing.proofs.Visits.{mark_there, visited_again}
use Rattle.closing.proofs.Arrows.{arrow_visited}
use Rattle.closing.proofs.listing.visit_arrow.Goals as goal

pub is_numbered-requires : goal.is_numbered-requires
is_numbered-requires c =
    mark_there c.requires.by_index.5 c.requires.by_index.6 _ c.requires.source_lt_entries.0

pub returns-then-is_numbered : goal.returns-then-is_numbered
returns-then-is_numbered c =
    λ rank trail links rules ts s q.
    arrow_visited c.args.target (visited_again s q c.args.source c.requires.source_lt_entries.0 (c.is_numbered.ensures.0 c.if-is_numbered.true)) c.visit_unless_numbered.result _ _
    (λ us settled. c.visit_unless_numbered.ensures rank trail links rules us s settled)

pub returns : goal.returns
returns c =
    λ rank trail links rules ts s q.
    arrow_visited c.args.target (c.in_ok-types.ensures rank trail links rules ts s q) c.visit_unless_numbered-2.result _ _
    (λ us settled. c.visit_unless_numbered-2.ensures rank trail links rules us s settled)
