-- `closing::listing::visit_unless_numbered` meets its contract.
use Rattle.closing.proofs.Visits.{mark_there, visited_again}
use Rattle.closing.proofs.listing.visit_unless_numbered.Goals as goal

pub is_numbered-requires : goal.is_numbered-requires
is_numbered-requires c = mark_there c.requires.by_index.5 c.requires.by_index.6 _ c.requires.a_lt_entries

pub returns-then-is_numbered : goal.returns-then-is_numbered
returns-then-is_numbered c = λ rank trail links rules ts s q. visited_again s q _ c.requires.a_lt_entries (c.is_numbered.ensures.0 c.if-is_numbered.true)
