-- `offers::meet` meets its contract. The invariant: the rules left to join lead to what all of them lead to from the start, and the next is at hand.
use mathlib.Core.Path.{◌≡◌, refl, ◌∙◌}
use mathlib.Core.List.{[], ◌∷◌}
use Prim.Native.Nat.{ℕ, ◌+◌, ◌<◌}
use native.Mathlib.Omega.{arith}
use lib.ListN.{length, get_or}
use Rattle.classes.specs.Table.{Table}
use Rattle.classes.specs.Columns.{laid}
use Rattle.classes.specs.Promises.{verdict}
use Rattle.std.specs.Prelude.{Result}
use Rattle.classes.specs.declared.context.Clashed.{Clashed}
use Rattle.classes.specs.Forced.{equal}
use Rattle.classes.specs.Merging.{Merges}
use Rattle.nodes.specs.Layout.{says}
use Rattle.nodes.specs.Meant.{meant}
use Rattle.types.specs.Lent.{classes_of}
use Rattle.types.proofs.Lending.{same_tables, same_again}
use Rattle.offers.proofs.Joining.{Joins, joins_begin, joins_again, joins_stop, joins_end, one_live, other_live, links_fit, merges_as, none_left, some_left}
use Rattle.offers.proofs.meet.Goals as goal
use Rattle.offers.proofs.meet.Goals.{After-links_made-made, At-loop-i, In-Ok}

-- the rule whose turn it is
module _ (head : At-loop-i) where
  joins-now : Joins (classes_of head.args.state.now) (meant head.args.row).needs (classes_of head.loop-i.state) head.loop-i.pending head.loop-i.i
  joins-now = head.loop-i.invariant.4

  more : head.loop-i.i < length (meant head.args.row).needs
  more = omega (arith, head.loop-i.invariant.2, head.loop-i.invariant.1)

  at-hand : says head.loop-i.r.number head.loop-i.r.one head.loop-i.r.other ≡ get_or (meant head.args.row).needs head.loop-i.i (says 0 0 0)
  at-hand = head.loop-i.invariant.3

-- what the join leaves, by its answer
module _ (c : After-links_made-made) where
  abbrev then : Table
  then =
      laid c.join-joined.new.parent c.join-joined.new.rank c.join-joined.new.rows c.join-joined.new.trail c.loop-i.state.live.entries (c.loop-i.state.live.links + c.links_made-made.result)

  merged : (j : Result ℕ Clashed) → c.join-joined.result ≡ j → Merges (classes_of c.loop-i.state) (equal c.loop-i.r.one c.loop-i.r.other ∷ []) (verdict j) then
  merged j is = merges_as (classes_of c.loop-i.state) c.join-joined.new.parent c.join-joined.new.rank c.join-joined.new.rows c.join-joined.new.trail c.join-joined.ensures.merges c.links_made-made.ensures is

-- the rule is joined
module _ (c : In-Ok) where
  goes : Joins (classes_of c.args.state.now) (meant c.args.row).needs (then (goal.at.In-Ok c).After-links_made-made) c.join-joined.new.pending (c.loop-i.i + 1)
  goes = joins_again (joins-now (goal.at.In-Ok c).At-loop-i) (more (goal.at.In-Ok c).At-loop-i) _ _ _ (at-hand (goal.at.In-Ok c).At-loop-i) (merged (goal.at.In-Ok c).After-links_made-made _ c.in-Ok.is) refl c.join-joined.auto.parent c.join-joined.auto.pending

pub returns-then-count-eq0-clause-met : goal.returns-then-count-eq0-clause-met
returns-then-count-eq0-clause-met c = none_left _ _ _ _ c.requires.countable.1 c.if-count-eq0.true

pub loop-i-init : goal.loop-i-init
loop-i-init c =
    let left = some_left _ _ _ _ c.requires.countable.1 c.if-count-eq0.false in
    (same_tables, left.0, omega (arith, c.if-count-eq0.false), left.1, joins_begin c.requires.meetable, refl, refl, refl)

pub join-joined-requires : goal.join-joined-requires
join-joined-requires c =
    record { made = (joins-now (goal.at.join-joined-requires c).At-loop-i).made; a_lt_entries = (one_live (joins-now (goal.at.join-joined-requires c).At-loop-i) (more (goal.at.join-joined-requires c).At-loop-i) _ _ _ (at-hand (goal.at.join-joined-requires c).At-loop-i), other_live (joins-now (goal.at.join-joined-requires c).At-loop-i) (more (goal.at.join-joined-requires c).At-loop-i) _ _ _ (at-hand (goal.at.join-joined-requires c).At-loop-i), (joins-now (goal.at.join-joined-requires c).At-loop-i).pending_room) }

pub overflow_add-state : goal.overflow_add-state
overflow_add-state c = record { fits = links_fit (joins-now (goal.at.overflow_add-state c).At-loop-i) (more (goal.at.overflow_add-state c).At-loop-i) _ _ _ (at-hand (goal.at.overflow_add-state c).At-loop-i) (merged (goal.at.overflow_add-state c).After-links_made-made _ refl) }

pub returns-in_default-clause-met : goal.returns-in_default-clause-met
returns-in_default-clause-met c = joins_stop (joins-now (goal.at.returns-in_default-clause-met c).At-loop-i) (more (goal.at.returns-in_default-clause-met c).At-loop-i) _ _ _ (at-hand (goal.at.returns-in_default-clause-met c).At-loop-i) (merged (goal.at.returns-in_default-clause-met c).After-links_made-made _ c.in_default.is)

pub overflow_add-i : goal.overflow_add-i
overflow_add-i c = omega (arith, c.loop-i.invariant.2, c.ranges.count)

pub returns-then-count-i-clause-met : goal.returns-then-count-i-clause-met
returns-then-count-i-clause-met c = joins_end (goes (goal.at.returns-then-count-i-clause-met c).In-Ok) (omega (arith, c.if-count-i.true, c.loop-i.invariant.1))

pub rule_at-r-requires : goal.rule_at-r-requires
rule_at-r-requires c = (c.requires.countable.0, omega arith, omega (arith, c.if-count-i.false, c.loop-i.invariant.1))

pub loop-i-smaller : goal.loop-i-smaller
loop-i-smaller c = omega (arith, c.loop-i.invariant.2)

pub loop-i-preserved : goal.loop-i-preserved
loop-i-preserved c = (
  same_again c.loop-i.invariant.0 (record {
    parent = refl;
    rank = refl;
    rows = refl;
    trail = refl;
    nodes = refl;
    parent_long = c.join-joined.auto.parent;
    rank_long = c.join-joined.auto.rank;
    rows_long = c.join-joined.auto.rows;
    trail_long = c.join-joined.auto.trail;
    nodes_long = refl;
  }),
  c.loop-i.invariant.1,
  c.if-count-i.false,
  c.rule_at-r.ensures,
  goes (goal.at.loop-i-preserved c).In-Ok,
  c.loop-i.invariant.5,
  c.loop-i.invariant.6,
  c.join-joined.auto.pending ∙ c.loop-i.invariant.7,
)
