-- `types::state::close` meets its contract.
use Rattle.types.proofs.Handing.{opened_stands, closable, closing_kept}
use Rattle.types.proofs.state.close.Goals as goal

pub close-requires : goal.close-requires
close-requires c =
    record { by_index = (c.requires.by_index.1, c.requires.by_index.2, c.args.live.links, _, opened_stands c.requires.by_index.3); closable = closable c.requires.by_index.3 c.requires.entries_bound.0 c.requires.entries_bound.1 c.requires.entries_bound.2 }

pub returns-in-Ok : goal.returns-in-Ok
returns-in-Ok c = λ most rank trail o. closing_kept o (c.in-Ok.ensures rank trail c.args.live.links _ (opened_stands o))

pub returns-in-Err : goal.returns-in-Err
returns-in-Err c = λ most rank trail o. closing_kept o (c.in-Err.ensures rank trail c.args.live.links _ (opened_stands o))
