-- `classes::context::take_turn` meets its contract: a turn is a step of `Merges`.
use mathlib.Core.Path.{◌≡◌, sym, ◌∙◌, subst, subst₂}
use Prim.Native.Nat.{ℕ, ◌+◌, ◌-◌, ◌*◌}
use native.Mathlib.Omega.{arith}
use lib.ListN.{get_or}
use Rattle.classes.specs.Table.{Table, root_in, shown_at}
use Rattle.classes.specs.Columns.{laid}
use Rattle.classes.specs.Merging.{meeting, linked, upper_in, lower_in}
use Rattle.classes.specs.Turning.{Shows, PartsPushed}
use Rattle.classes.specs.declared.context.Meeting.{Meeting}
use Rattle.classes.proofs.Searching.{rooted}
use Rattle.classes.proofs.Turns.{pair_live, top_room, shows_there, Linkable, rank_fits, in_rank, linked_as, one_root, one_entry, turn_same, linkable, turn_stops, turn_links}
use Rattle.classes.proofs.context.take_turn.Goals as goal
use Rattle.classes.proofs.context.take_turn.Goals.{After-link, After-meet-met, After-top_roots-two, Else-two}

-- the two roots in their order, as the table has them
module _ (c : After-top_roots-two) where
  abbrev lent : ℕ → Table
  lent e =
      laid c.args.parent.now c.args.rank.now c.args.rows.now c.args.trail.now e c.args.links

  abbrev top : ℕ
  top = c.args.waiting - 1

  abbrev one : ℕ
  one = root_in c.args.parent.now (get_or c.args.pending.now (2 * top) 0)

  abbrev other : ℕ
  other = root_in c.args.parent.now (get_or c.args.pending.now (2 * top + 1) 0)

  stands-is : c.top_roots-two.result.stands ≡ upper_in c.args.rank.now one other
  stands-is = c.top_roots-two.ensures.0

  below-is : c.top_roots-two.result.below ≡ lower_in c.args.rank.now one other
  below-is = c.top_roots-two.ensures.1

-- of two classes
module _ (c : Else-two) where
  differ : one (goal.at.Else-two c).After-top_roots-two ≡ other (goal.at.Else-two c).After-top_roots-two → ⊥
  differ e = c.if-two.false (stands-is (goal.at.Else-two c).After-top_roots-two ∙ one_entry c.args.rank.now e ∙ sym (below-is (goal.at.Else-two c).After-top_roots-two))

  ready : Linkable (lent (goal.at.Else-two c).After-top_roots-two c.requires.0) c.top_roots-two.result.stands c.top_roots-two.result.below
  ready = subst₂ (Linkable (lent (goal.at.Else-two c).After-top_roots-two c.requires.0)) (sym (stands-is (goal.at.Else-two c).After-top_roots-two)) (sym (below-is (goal.at.Else-two c).After-top_roots-two)) (linkable c.requires.1 differ)

  rows-there : Shows c.args.rows.now c.top_roots-two.result.stands × Shows c.args.rows.now c.top_roots-two.result.below
  rows-there = (shows_there c.args.rows.now ready.forest _ ready.stands_live, shows_there c.args.rows.now ready.forest _ ready.below_live)

-- the two bounds that met, as the table shows them
meeting-is : (m : After-meet-met) (e : ℕ) → m.meet-met.result ≡ meeting (shown_at (lent (goal.at.After-meet-met m).After-top_roots-two e) (upper_in m.args.rank.now (one (goal.at.After-meet-met m).After-top_roots-two) (other (goal.at.After-meet-met m).After-top_roots-two))) (shown_at (lent (goal.at.After-meet-met m).After-top_roots-two e) (lower_in m.args.rank.now (one (goal.at.After-meet-met m).After-top_roots-two) (other (goal.at.After-meet-met m).After-top_roots-two)))
meeting-is m e =
    subst₂ (λ (x y : ℕ). m.meet-met.result ≡ meeting (shown_at (lent (goal.at.After-meet-met m).After-top_roots-two e) x) (shown_at (lent (goal.at.After-meet-met m).After-top_roots-two e) y)) (stands-is (goal.at.After-meet-met m).After-top_roots-two) (below-is (goal.at.After-meet-met m).After-top_roots-two) m.meet-met.ensures

-- the link, as the table has it
abbrev left_by : After-link → ℕ → Table
left_by l e =
    laid l.link.new.parent l.link.new.rank l.link.new.rows l.link.new.trail e (l.args.links + 1)

linked-is : (l : After-link) (e : ℕ) → left_by l e ≡ linked (lent (goal.at.After-link l).After-top_roots-two e) (upper_in l.args.rank.now (one (goal.at.After-link l).After-top_roots-two) (other (goal.at.After-link l).After-top_roots-two)) (lower_in l.args.rank.now (one (goal.at.After-link l).After-top_roots-two) (other (goal.at.After-link l).After-top_roots-two))
linked-is l e =
    subst₂ (λ (x y : ℕ). left_by l e ≡ linked (lent (goal.at.After-link l).After-top_roots-two e) x y) (stands-is (goal.at.After-link l).After-top_roots-two) (below-is (goal.at.After-link l).After-top_roots-two)
    (linked_as (lent (goal.at.After-link l).After-top_roots-two e) l.top_roots-two.result.stands l.top_roots-two.result.below {u = left_by l e} (l.link.ensures e (l.args.links + 1)) l.raised-higher.ensures l.shows-shape.ensures)

pub top_roots-two-requires : goal.top_roots-two-requires
top_roots-two-requires c =
    record { top_in_bounds = (top_room c.requires.1, omega (arith, c.requires.1.forest.rank_rows)); rooted = (rooted c.requires.1.forest _ (pair_live c.requires.1).0, rooted c.requires.1.forest _ (pair_live c.requires.1).1) }

pub returns-then-two : goal.returns-then-two
returns-then-two c = λ e ready. turn_same ready (one_root c.args.rank.now (sym (stands-is (goal.at.returns-then-two c).After-top_roots-two) ∙ c.if-two.true ∙ below-is (goal.at.returns-then-two c).After-top_roots-two))

pub meet-met-requires : goal.meet-met-requires
meet-met-requires c = ((rows-there c).0, (rows-there c).1)

pub returns-in-Apart : goal.returns-in-Apart
returns-in-Apart c = λ e ready. turn_stops ready (differ (goal.at.returns-in-Apart c).Else-two) (sym (meeting-is (goal.at.returns-in-Apart c).After-meet-met e) ∙ c.in-Apart.is)

pub raised-higher-requires : goal.raised-higher-requires
raised-higher-requires c = let two = ready (goal.at.raised-higher-requires c).Else-two in (in_rank two two.below_live, in_rank two two.stands_live, rank_fits two)

pub shows-shape-requires : goal.shows-shape-requires
shows-shape-requires c = let there = rows-there (goal.at.shows-shape-requires c).Else-two in (there.0, there.1.0)

pub link-requires : goal.link-requires
link-requires c =
    let two = ready (goal.at.link-requires c).Else-two in
    (omega (arith, two.below_live, two.forest.room), in_rank two two.stands_live, (rows-there (goal.at.link-requires c).Else-two).0.0, omega (arith, two.links_few, two.forest.room, two.forest.trail_rows))

pub push_parts-waiting-requires : goal.push_parts-waiting-requires
push_parts-waiting-requires c =
    omega (arith, (ready (goal.at.push_parts-waiting-requires c).Else-two).links_few, c.requires.1.waiting_few, c.requires.1.some, c.requires.1.pending_room)

pub overflow_add-links : goal.overflow_add-links
overflow_add-links c =
    let two = ready (goal.at.overflow_add-links c).Else-two in
    omega (arith, two.links_few, two.forest.room, two.forest.small)

pub returns : goal.returns
returns c =
    λ e ready.
    turn_links ready (differ (goal.at.returns c).Else-two) (left_by (goal.at.returns c).After-link e) c.push_parts-waiting.result c.push_parts-waiting.new.pending
    (λ same. c.in_default.not-Apart (meeting-is (goal.at.returns c).After-meet-met e ∙ same))
    (linked-is (goal.at.returns c).After-link e)
    (subst (λ (x : Meeting). PartsPushed c.args.pending.now (c.args.waiting - 1) x c.push_parts-waiting.result c.push_parts-waiting.new.pending) (meeting-is (goal.at.returns c).After-meet-met e) c.push_parts-waiting.ensures)
