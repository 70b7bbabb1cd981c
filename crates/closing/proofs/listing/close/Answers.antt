-- `closing::listing::close` meets its contract.
use mathlib.Core.Path.{◌≡◌, ◌∙◌}
use mathlib.Core.List.{List, [], ◌++◌}
use Prim.Native.Nat.{ℕ, ◌*◌}
use native.Mathlib.Omega.{arith}
use lib.ListN.{drop}
use borrow.Author.Rules.{rules}
use Rattle.std.proofs.lemmas.Result.{err_from_is_err_and}
use Rattle.classes.specs.Columns.{laid}
use Rattle.classes.specs.Forced.{Rule}
use Rattle.closing.specs.Closings.ClosedBy.{endless}
use Rattle.closing.specs.Visiting.{Settled}
use Rattle.closing.specs.Writing.{cleared}
use Rattle.closing.proofs.Beginning.{settled_begins}
use Rattle.closing.proofs.Listings.{numberable, whole_listing, closed_types}
use Rattle.closing.proofs.listing.close.Goals as goal
use Rattle.closing.proofs.listing.close.Goals.{After-fill}

-- the memory cleared
module _ (c : After-fill) where
  clears : c.fill.new.self ++ drop (4 * c.args.entries) c.args.work.now ≡ cleared c.args.work.now c.args.entries
  clears = search rules

  settled : (rank trail : List ℕ) (links : ℕ) (rules : List Rule) →
      Settled (laid c.args.parent.now rank c.args.rows.now trail c.args.entries links) rules (c.fill.new.self ++ drop (4 * c.args.entries) c.args.work.now) c.args.listing.now 0 []
  settled rank trail links rules =
      rw clears
      (settled_begins (laid c.args.parent.now rank c.args.rows.now trail c.args.entries links) rules c.args.work.now c.args.listing.now (omega (arith, c.requires.closable.small)) c.requires.closable.work_room (omega (arith, c.requires.closable.listing_room)))

pub visit_all-requires-clause-by_index : goal.visit_all-requires-clause-by_index
visit_all-requires-clause-by_index c =
    (c.requires.by_index.0, c.requires.by_index.1, c.requires.by_index.2, c.requires.by_index.3, c.requires.by_index.4, settled (goal.at.visit_all-requires-clause-by_index c).After-fill c.requires.by_index.0 c.requires.by_index.1 c.requires.by_index.2 c.requires.by_index.3)

pub returns-in_err-count : goal.returns-in_err-count
returns-in_err-count c =
    let p = err_from_is_err_and c.from_residual.result c.from_residual.ensures.1 in
    rw (p.1, p.2) (λ rank trail links rules s.
    let l = c.in_err-count.ensures rank trail links rules s (settled (goal.at.returns-in_err-count c).After-fill rank trail links rules) in
    endless l.0 l.1.1 l.2)

pub write-requires-clause-by_index : goal.write-requires-clause-by_index
write-requires-clause-by_index c =
    let s = c.requires.by_index.4 in
    let g = c.in_ok-count.ensures c.requires.by_index.0 c.requires.by_index.1 c.requires.by_index.2 c.requires.by_index.3 s (settled (goal.at.write-requires-clause-by_index c).After-fill c.requires.by_index.0 c.requires.by_index.1 c.requires.by_index.2 c.requires.by_index.3) in
    λ i h. (numberable s g.settled _ (c.requires.closable.sources i h) (g.numbered i h).0, numberable s g.settled _ (c.requires.closable.targets i h) (g.numbered i h).1)

pub write-requires-clause-kept_in_bounds : goal.write-requires-clause-kept_in_bounds
write-requires-clause-kept_in_bounds c =
    let g = c.in_ok-count.ensures c.requires.by_index.0 c.requires.by_index.1 c.requires.by_index.2 c.requires.by_index.3 c.requires.by_index.4 (settled (goal.at.write-requires-clause-kept_in_bounds c).After-fill c.requires.by_index.0 c.requires.by_index.1 c.requires.by_index.2 c.requires.by_index.3) in
    (c.requires.closable.rows, omega (arith, g.settled.types.chains.few, c.requires.closable.listing_room, c.visit_all.auto.listing), omega (arith, g.settled.types.chains.few, c.requires.closable.small))

pub returns : goal.returns
returns c =
    λ rank trail links rules s.
    let g = c.in_ok-count.ensures rank trail links rules s (settled (goal.at.returns c).After-fill rank trail links rules) in
    let whole = whole_listing s g c.requires.closable.sources c.requires.closable.targets c.write.ensures (c.write.auto.listing ∙ c.visit_all.auto.listing) (omega (arith, c.requires.closable.listing_room, g.settled.types.chains.few)) in
    closed_types g.typed g.settled.types.counted whole
