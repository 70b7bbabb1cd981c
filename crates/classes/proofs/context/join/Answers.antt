-- `classes::context::join` meets its contract. The invariant: what waits leads from the table as it is to what the start leads to. No
-- local holds the number of entries, so the invariant speaks of every number for which the premise held at the start.
use mathlib.Core.Path.{◌≡◌, refl, ◌∙◌, subst}
use mathlib.Core.List.{List}
use Prim.Native.Nat.{ℕ}
use native.Mathlib.Omega.{arith}
use lib.ListN.{length}
use Rattle.classes.specs.Table.{Table}
use Rattle.classes.specs.Columns.{laid}
use Rattle.classes.specs.Turning.{waiting_in, Turned, links_then, waiting_then}
use Rattle.std.specs.Prelude.{Option, None}
use Rattle.classes.specs.declared.context.Going.{Going}
use Rattle.classes.proofs.Joins.{Joinable, Looping, some_row, looping_pushed, turnable, looping_again, falls, join_ends, join_stops}
use Rattle.classes.proofs.context.join.Goals as goal
use Rattle.classes.proofs.context.join.Goals.{After-push-arg-1, After-take_turn, At-loop-waiting}

asked : (c : After-push-arg-1) →
    Joinable (laid c.args.parent.now c.args.rank.now c.args.rows.now c.args.trail.now c.args.live.entries c.args.live.links) c.args.pending.now c.args.a c.args.b
asked c = record { made = c.requires.made; one = c.requires.a_lt_entries.0; other = c.requires.a_lt_entries.1; pending_room = c.requires.a_lt_entries.2 }

-- the table at the start and at the loop's head, with e entries
module _ (c : At-loop-waiting) where
  abbrev given-table : ℕ → Table
  given-table e =
      laid c.args.parent.now c.args.rank.now c.args.rows.now c.args.trail.now e c.args.live.links

  abbrev table-now : ℕ → Table
  table-now e = laid c.loop-waiting.parent c.loop-waiting.rank c.loop-waiting.rows c.loop-waiting.trail e c.loop-waiting.links

  asked-then : Joinable (given-table c.args.live.entries) c.push.new.pending c.args.a c.args.b
  asked-then =
      let j = asked (goal.at.At-loop-waiting c).After-push-arg-1 in
      record { made = j.made; one = j.one; other = j.other; pending_room = omega (arith, j.pending_room, c.push.auto.pending) }

  looping : Looping (given-table c.args.live.entries) c.args.a c.args.b (table-now c.args.live.entries) c.loop-waiting.pending c.loop-waiting.waiting
  looping = c.loop-waiting.invariant.1 c.args.live.entries asked-then

-- what the call leaves, by its answer
module _ (c : After-take_turn) where
  abbrev pending-then : List ℕ
  pending-then = c.take_turn.new.pending

  abbrev left-with : ℕ → Option Going → Table
  left-with e r =
      laid c.take_turn.new.parent c.take_turn.new.rank c.take_turn.new.rows c.take_turn.new.trail e (links_then c.loop-waiting.links r)

  abbrev Left : ℕ → Option Going → Type 0
  Left e r = Turned (table-now (goal.at.After-take_turn c).At-loop-waiting e) (waiting_in c.loop-waiting.pending c.loop-waiting.waiting) c.loop-waiting.waiting r (left-with e r) (waiting_in pending-then (waiting_then r))

  turned : {e : ℕ} → Looping (given-table (goal.at.After-take_turn c).At-loop-waiting e) c.args.a c.args.b (table-now (goal.at.After-take_turn c).At-loop-waiting e) c.loop-waiting.pending c.loop-waiting.waiting →
      (r : Option Going) → c.take_turn.result ≡ r → Left e r
  turned {e} l r is = subst (Left e) is (c.take_turn.ensures e (turnable l (omega (arith, c.loop-waiting-test.true))))

pub push-requires : goal.push-requires
push-requires c = some_row (asked c)

pub loop-waiting-init : goal.loop-waiting-init
loop-waiting-init c = ((refl, refl, refl, refl, refl), λ e j. looping_pushed c.args.pending.now c.push.ensures j)

pub overflow_sub-result : goal.overflow_sub-result
overflow_sub-result c = omega (arith, (looping (goal.at.overflow_sub-result c).At-loop-waiting).more)

pub shape_of-parent : goal.shape_of-parent
shape_of-parent c = c.loop-waiting.invariant.0.0

pub shape_of-rank : goal.shape_of-rank
shape_of-rank c = c.loop-waiting.invariant.0.1

pub shape_of-rows : goal.shape_of-rows
shape_of-rows c = c.loop-waiting.invariant.0.2

pub shape_of-trail : goal.shape_of-trail
shape_of-trail c = c.loop-waiting.invariant.0.3

pub shape_of-pending : goal.shape_of-pending
shape_of-pending c = c.loop-waiting.invariant.0.4 ∙ c.push.auto.pending

pub returns : goal.returns
returns c = join_ends (asked-then (goal.at.returns c).At-loop-waiting) (looping (goal.at.returns c).At-loop-waiting) (omega (arith, c.loop-waiting-test.false))

pub take_turn-requires : goal.take_turn-requires
take_turn-requires c =
    (c.args.live.entries, turnable (looping (goal.at.take_turn-requires c).At-loop-waiting) (omega (arith, c.loop-waiting-test.true)))

pub shape_of-parent-in_default : goal.shape_of-parent-in_default
shape_of-parent-in_default c = c.take_turn.auto.parent ∙ c.loop-waiting.invariant.0.0

pub shape_of-rank-in_default : goal.shape_of-rank-in_default
shape_of-rank-in_default c = c.take_turn.auto.rank ∙ c.loop-waiting.invariant.0.1

pub shape_of-rows-in_default : goal.shape_of-rows-in_default
shape_of-rows-in_default c = c.take_turn.auto.rows ∙ c.loop-waiting.invariant.0.2

pub shape_of-trail-in_default : goal.shape_of-trail-in_default
shape_of-trail-in_default c = c.take_turn.auto.trail ∙ c.loop-waiting.invariant.0.3

pub shape_of-pending-in_default : goal.shape_of-pending-in_default
shape_of-pending-in_default c = c.take_turn.auto.pending ∙ c.loop-waiting.invariant.0.4 ∙ c.push.auto.pending

pub returns-in_default : goal.returns-in_default
returns-in_default c = join_stops (asked-then (goal.at.returns-in_default c).At-loop-waiting) (looping (goal.at.returns-in_default c).At-loop-waiting) refl (turned (goal.at.returns-in_default c).After-take_turn (looping (goal.at.returns-in_default c).At-loop-waiting) None c.in_default.is)

pub loop-waiting-smaller : goal.loop-waiting-smaller
loop-waiting-smaller c =
    let t = turned (goal.at.loop-waiting-smaller c).After-take_turn (looping (goal.at.loop-waiting-smaller c).At-loop-waiting) _ c.in-Some.is in
    falls (length c.args.parent.now) _ c.loop-waiting.waiting (looping (goal.at.loop-waiting-smaller c).At-loop-waiting).forest t.1 c.loop-waiting.invariant.0.0 (c.take_turn.auto.parent ∙ c.loop-waiting.invariant.0.0) t.5

pub loop-waiting-preserved : goal.loop-waiting-preserved
loop-waiting-preserved c = (
  (c.take_turn.auto.parent ∙ c.loop-waiting.invariant.0.0, c.take_turn.auto.rank ∙ c.loop-waiting.invariant.0.1, c.take_turn.auto.rows ∙ c.loop-waiting.invariant.0.2, c.take_turn.auto.trail ∙ c.loop-waiting.invariant.0.3, c.take_turn.auto.pending ∙ c.loop-waiting.invariant.0.4),
  λ e j.
      let l = c.loop-waiting.invariant.1 e j in
      looping_again l _ _ (turned (goal.at.loop-waiting-preserved c).After-take_turn l _ c.in-Some.is) refl refl c.take_turn.auto.pending,
)
