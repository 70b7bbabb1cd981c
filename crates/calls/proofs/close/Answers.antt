-- `calls::close` meets its contract, which is the core's on the state's own arrays; the listing begins as zeros.
use Prim.Native.Nat.{ℕ}
use native.Mathlib.Omega.{arith}
use lib.ListN.{length-replicate}
use Rattle.types.specs.Limits.{longest_listing, most_nodes, work_long}
use Rattle.types.proofs.Handing.{closing_called}
use Rattle.calls.proofs.Handing.{array_room, handed_types, handed_none}
use Rattle.calls.proofs.close.Goals as goal

pub close-answer-requires : goal.close-answer-requires
close-answer-requires c =
    record { by_index = (most_nodes, _, _, c.requires); entries_bound = array_room c.requires work_long longest_listing (omega arith) (omega arith) }

pub no_listing-requires : goal.no_listing-requires
no_listing-requires c = rw (length-replicate {A = ℕ} longest_listing 0) (omega arith)

pub returns-in-Endless : goal.returns-in-Endless
returns-in-Endless c = λ o.
    let call = c.close-answer.ensures most_nodes _ _ o in
    (closing_called o call, handed_none o longest_listing (omega arith) call c.in-Endless.is c.no_listing.ensures)

pub returns : goal.returns
returns c = λ o.
    let call = c.close-answer.ensures most_nodes _ _ o in
    (closing_called o call, handed_types o longest_listing (omega arith) call c.in_default.not-Endless)
