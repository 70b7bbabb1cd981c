-- `closing::listing::visit_all` meets its contract. The invariant: the first `i` nodes have types, and these are numbered.
use mathlib.Core.Path.{◌≡◌, refl, sym, ◌∙◌}
use native.Mathlib.Omega.{arith}
use Rattle.closing.proofs.Arrows.{through_none, through_more}
use Rattle.closing.proofs.listing.visit_all.Goals as goal

pub loop-i-init : goal.loop-i-init
loop-i-init c = ((refl, refl), λ rank trail links rules s q. through_none q)

pub visit_arrow-requires-clause-by_index : goal.visit_arrow-requires-clause-by_index
visit_arrow-requires-clause-by_index c =
    let g = c.loop-i.invariant.1 c.requires.by_index.0 c.requires.by_index.1 c.requires.by_index.2 c.requires.by_index.3 c.requires.by_index.4 c.requires.by_index.5 in
    (c.requires.by_index.0, c.requires.by_index.1, c.requires.by_index.2, c.requires.by_index.3, _, c.requires.by_index.4, g.settled)

pub returns-in_default : goal.returns-in_default
returns-in_default c =
    λ rank trail links rules s q.
    let g = c.loop-i.invariant.1 rank trail links rules s q in
    (c.loop-i-test.true, (g.arrows, g.typed), c.in_default.ensures rank trail links rules _ s g.settled)

pub loop-i-preserved : goal.loop-i-preserved
loop-i-preserved c = (
  (c.visit_arrow.auto.work ∙ c.loop-i.invariant.0.0, c.visit_arrow.auto.listing ∙ c.loop-i.invariant.0.1),
  λ rank trail links rules s q.
      let g = c.loop-i.invariant.1 rank trail links rules s q in
      through_more g (c.in-Ok.ensures rank trail links rules _ s g.settled),
)

pub returns : goal.returns
returns c =
    λ rank trail links rules s q.
    let last : c.loop-i.i ≡ c.args.kept = omega (arith, c.loop-i-test.false, c.loop-i.auto.i-end) in
    rw (sym last) (c.loop-i.invariant.1 rank trail links rules s q)
