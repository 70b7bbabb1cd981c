-- `offers::offer` meets its contract: each way out is one of `Offering`'s.
use mathlib.Core.Path.{◌≡◌, refl, ap, ◌∙◌, subst}
use mathlib.Core.List.{List}
use Prim.Native.Nat.{ℕ, ◌*◌, ◌<◌}
use lib.ListN.{length}
use Rattle.classes.specs.Table.{Table}
use Rattle.classes.specs.Columns.{laid}
use Rattle.nodes.specs.Layout.{Row, arrow, row_of}
use Rattle.nodes.specs.Coded.{node_of}
use Rattle.nodes.specs.Meant.{meant}
use Rattle.types.specs.Answers.{Below}
use Rattle.combinators.specs.Entered.{entered}
use Rattle.nodes.specs.Kept.{node_width, row_numbers, source_at, target_at}
use Rattle.std.specs.Prelude.{Result, ⊤}
use Rattle.types.specs.States.{State, Opened}
use Rattle.types.specs.Lent.{classes_of, held_by}
use Rattle.combinators.specs.Entering.{Entering}
use Rattle.types.specs.Applying.{row_written}
use Rattle.offers.specs.declared.Clash.{Clash}
use Rattle.offers.specs.RulesMet.{RulesMet}
use Rattle.nodes.specs.declared.arrow.Adds.{Adds}
use Rattle.nodes.specs.declared.arrow.Arrow.{Arrow}
use Rattle.types.proofs.Applies.{Applicable, meetable, clash_run, clash_marked}
use Rattle.offers.proofs.Children.{second_child}
use Rattle.types.proofs.Offering.{offer_full, offer_no_child, child_row, row_is, entries_fit, applicable, offer_refused, met_row, links_more, offer_kept}
use Rattle.offers.proofs.offer.Goals as goal
use Rattle.offers.proofs.offer.Goals.{After-arrow_at-t, After-enter-entered, After-meet, Else-not-children_below, Start}

-- the state that was lent
abbrev was : Start → State
was c = held_by c.args.state.now

-- what is known past the two checks
module _ (c : Else-not-children_below) where
  opened : Opened c.requires.by_index.0 (was (goal.at.Else-not-children_below c).Start)
  opened = c.requires.by_index.1

  room : node_width * c.args.state.now.live.kept < length c.args.state.now.nodes.now
  room = c.if-state-kept.false

  below : Below c.args.state.now.live.kept (node_of c.args.n)
  below = c.children_below.ensures.0 c.if-not-children_below.false

-- the row that the arrows read make is the node's
module _ (two : After-arrow_at-t) where
  abbrev arrow-read : ℕ → Arrow
  arrow-read i = arrow (source_at two.args.state.now.nodes.now i) (target_at two.args.state.now.nodes.now i)

  -- the node with its children's arrows, as the code puts it together
  abbrev worked : Adds
  worked = record { node = two.args.n; s = two.arrow_at-s.result; t = two.arrow_at-t.result; e = two.args.state.now.live.entries }

  row-eq : {most : ℕ} (o : Opened most (was (goal.at.After-arrow_at-t two).Start)) → meant worked ≡ row_of o.program (node_of two.args.n)
  row-eq o =
      row_is o (room (goal.at.After-arrow_at-t two).Else-not-children_below) (node_of two.args.n) two.requires.regular.1 (below (goal.at.After-arrow_at-t two).Else-not-children_below) two.arrow_at-s.result two.arrow_at-t.result
      (two.arrow_at-s.ensures ∙ ap arrow-read two.first_child.ensures)
      (two.arrow_at-t.ensures ∙ ap arrow-read (two.requires.regular.0.second ∙ second_child (node_of two.args.n)))

  -- so it can be applied
  able : Applicable (was (goal.at.After-arrow_at-t two).Start).classes two.args.pending.now (meant worked)
  able = applicable (opened (goal.at.After-arrow_at-t two).Else-not-children_below) (room (goal.at.After-arrow_at-t two).Else-not-children_below) (node_of two.args.n) two.requires.regular.1 (below (goal.at.After-arrow_at-t two).Else-not-children_below) two.args.pending.now two.requires.regular.2 (meant worked) (row-eq (opened (goal.at.After-arrow_at-t two).Else-not-children_below))

-- its entries are in
module _ (c : After-enter-entered) where
  abbrev entered-table : Table
  entered-table =
      laid c.enter-entered.new.parent c.args.state.now.rank.now c.enter-entered.new.rows c.args.state.now.trail.now c.enter-entered.result.entries c.args.state.now.live.links

  enters : Entering (was (goal.at.After-enter-entered c).Start).classes (meant (worked (goal.at.After-enter-entered c).After-arrow_at-t)) c.enter-entered.result entered-table
  enters = c.enter-entered.ensures c.args.state.now.rank.now c.args.state.now.trail.now (able (goal.at.After-enter-entered c).After-arrow_at-t).enterable

-- what joining its rules leaves, by the answer
module _ (c : After-meet) where
  met : (r : Result ⊤ Clash) → c.meet.result ≡ r → RulesMet (entered (was (goal.at.After-meet c).Start).classes (meant (worked (goal.at.After-meet c).After-arrow_at-t)).entries) (meant (worked (goal.at.After-meet c).After-arrow_at-t)).needs r (classes_of c.meet.new.state)
  met r is =
      subst (λ (x : Result ⊤ Clash). RulesMet (entered (was (goal.at.After-meet c).Start).classes (meant (worked (goal.at.After-meet c).After-arrow_at-t)).entries) (meant (worked (goal.at.After-meet c).After-arrow_at-t)).needs x (classes_of c.meet.new.state)) is
      (subst (λ (x : Table). RulesMet x (meant (worked (goal.at.After-meet c).After-arrow_at-t)).needs c.meet.result (classes_of c.meet.new.state)) (enters (goal.at.After-meet c).After-enter-entered).is c.meet.ensures.met)

pub returns-then-state-kept-clause-called : goal.returns-then-state-kept-clause-called
returns-then-state-kept-clause-called c = λ most o. offer_full o _ c.requires.regular.1 c.if-state-kept.true

pub returns-then-not-children_below-clause-called : goal.returns-then-not-children_below-clause-called
returns-then-not-children_below-clause-called c = λ most o. offer_no_child o c.if-state-kept.false _ c.requires.regular.1 (c.children_below.ensures.1 c.if-not-children_below.true)

pub arrow_at-s-requires : goal.arrow_at-s-requires
arrow_at-s-requires c =
    rw c.first_child.ensures (child_row (opened (goal.at.arrow_at-s-requires c).Else-not-children_below) (room (goal.at.arrow_at-s-requires c).Else-not-children_below) (node_of c.args.n) c.requires.regular.1 (below (goal.at.arrow_at-s-requires c).Else-not-children_below) 0)

pub arrow_at-t-requires : goal.arrow_at-t-requires
arrow_at-t-requires c =
    rw (c.requires.regular.0.second ∙ second_child (node_of c.args.n)) (child_row (opened (goal.at.arrow_at-t-requires c).Else-not-children_below) (room (goal.at.arrow_at-t-requires c).Else-not-children_below) (node_of c.args.n) c.requires.regular.1 (below (goal.at.arrow_at-t-requires c).Else-not-children_below) 1)

pub enter-entered-requires : goal.enter-entered-requires
enter-entered-requires c = (
  ((c.args.state.now.rank.now, c.args.state.now.trail.now, (able (goal.at.enter-entered-requires c).After-arrow_at-t).enterable), (able (goal.at.enter-entered-requires c).After-arrow_at-t).named, entries_fit (opened (goal.at.enter-entered-requires c).Else-not-children_below) (room (goal.at.enter-entered-requires c).Else-not-children_below) (node_of c.args.n) c.requires.regular.1 (below (goal.at.enter-entered-requires c).Else-not-children_below)),
  c.requires.regular.1,
)

pub meet-requires : goal.meet-requires
meet-requires c =
    record { meetable = meetable (able (goal.at.meet-requires c).After-arrow_at-t) (entered-table (goal.at.meet-requires c).After-enter-entered) (enters (goal.at.meet-requires c).After-enter-entered).is; countable = ((entries_fit (opened (goal.at.meet-requires c).Else-not-children_below) (room (goal.at.meet-requires c).Else-not-children_below) (node_of c.args.n) c.requires.regular.1 (below (goal.at.meet-requires c).Else-not-children_below), c.requires.regular.1), (enters (goal.at.meet-requires c).After-enter-entered).left) }

pub undo-requires : goal.undo-requires
undo-requires c = let m = met (goal.at.undo-requires c).After-meet _ c.in-Err.is in clash_marked (able (goal.at.undo-requires c).After-arrow_at-t) m.1

pub overflow_sub-result : goal.overflow_sub-result
overflow_sub-result c =
    links_more (opened (goal.at.overflow_sub-result c).Else-not-children_below) (room (goal.at.overflow_sub-result c).Else-not-children_below) (node_of c.args.n) c.requires.regular.1 (below (goal.at.overflow_sub-result c).Else-not-children_below) (meant (worked (goal.at.overflow_sub-result c).After-arrow_at-t)) (row-eq (goal.at.overflow_sub-result c).After-arrow_at-t (opened (goal.at.overflow_sub-result c).Else-not-children_below)) (met (goal.at.overflow_sub-result c).After-meet _ c.in-Ok.is)

pub returns-in-Err-clause-called : goal.returns-in-Err-clause-called
returns-in-Err-clause-called c =
    let stopped = met (goal.at.returns-in-Err-clause-called c).After-meet _ c.in-Err.is in
    let back = c.undo.ensures.given_back (was (goal.at.returns-in-Err-clause-called c).Start).classes (able (goal.at.returns-in-Err-clause-called c).After-arrow_at-t).enterable.made (clash_run (able (goal.at.returns-in-Err-clause-called c).After-arrow_at-t) stopped.1) refl in
    λ most o. rw c.meet.ensures.stays.0 (offer_refused o (room (goal.at.returns-in-Err-clause-called c).Else-not-children_below) (node_of c.args.n) c.requires.regular.1 (below (goal.at.returns-in-Err-clause-called c).Else-not-children_below) (meant (worked (goal.at.returns-in-Err-clause-called c).After-arrow_at-t)) (row-eq (goal.at.returns-in-Err-clause-called c).After-arrow_at-t o) back stopped.1 stopped.2)

pub returns-in-Ok-clause-called : goal.returns-in-Ok-clause-called
returns-in-Ok-clause-called c =
    let m = met (goal.at.returns-in-Ok-clause-called c).After-meet _ c.in-Ok.is in
    λ most o.
    offer_kept o (room (goal.at.returns-in-Ok-clause-called c).Else-not-children_below) (node_of c.args.n) c.requires.regular.1 (below (goal.at.returns-in-Ok-clause-called c).Else-not-children_below)
    (met_row o (room (goal.at.returns-in-Ok-clause-called c).Else-not-children_below) (node_of c.args.n) c.requires.regular.1 (below (goal.at.returns-in-Ok-clause-called c).Else-not-children_below) (meant (worked (goal.at.returns-in-Ok-clause-called c).After-arrow_at-t)) (row-eq (goal.at.returns-in-Ok-clause-called c).After-arrow_at-t o) m)
    (c.write_row.ensures
    ∙ ap (λ (x : List ℕ). row_written x c.args.state.now.live.kept (row_numbers (node_of c.args.n) c.enter-entered.result.gives c.args.state.now.live.entries c.args.state.now.live.links)) c.meet.ensures.stays.0
    ∙ ap (λ (x : Arrow). row_written c.args.state.now.nodes.now c.args.state.now.live.kept (row_numbers (node_of c.args.n) x c.args.state.now.live.entries c.args.state.now.live.links)) (enters (goal.at.returns-in-Ok-clause-called c).After-enter-entered).gives
    ∙ ap (λ (x : Row). row_written c.args.state.now.nodes.now c.args.state.now.live.kept (row_numbers (node_of c.args.n) x.gives c.args.state.now.live.entries c.args.state.now.live.links)) (row-eq (goal.at.returns-in-Ok-clause-called c).After-arrow_at-t o))
    refl
