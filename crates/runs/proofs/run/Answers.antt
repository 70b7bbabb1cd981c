-- `runs::run` meets its contract. The invariant: the records so far are put, to the tables that were lent.
use Rattle.std.proofs.Common.{rules}
use mathlib.Core.Path.{◌≡◌, subst}
use mathlib.Core.List.{List}
use Prim.Native.Nat.{ℕ, ◌+◌, ◌*◌}
use native.Mathlib.Nat.{le_antisymm}
use native.Mathlib.Numerals.{add-one}
use native.Mathlib.Omega.{arith}
use Rattle.types.specs.Limits.{most_nodes}
use Rattle.types.specs.States.{State, held, Opened}
use Rattle.types.specs.Lent.{held_by}
use Rattle.types.specs.declared.state.State.{State as Lending}
use Rattle.types.proofs.Lending.{same_tables, same_again}
use Rattle.runs.specs.Putting.{Recorded, Puts}
use Rattle.runs.proofs.run.Goals as goal

module _ {bytes listed answers listed₁ answers₁ : List ℕ} {from : ℕ} {s s₁ : State} {o : Opened most_nodes s} {o₁ : Opened most_nodes s₁} {n : ℕ} (puts : Puts bytes from s o listed answers n s₁ o₁ listed₁ answers₁) where
  -- the loop counts with a sum
  one_more : {s₂ : State} {listed₂ answers₂ : List ℕ} (x : Recorded s₁ o₁ bytes (from + 8 * n) listed₁ answers₁ (8 * n) s₂ listed₂ answers₂) →
      Puts bytes from s o listed answers (n + 1) s₂ x.called.after listed₂ answers₂
  one_more x = rw (add-one n) (Puts.more puts x)

  all-put : {count : ℕ} → n ≡ count → Puts bytes from s o listed answers count s₁ o₁ listed₁ answers₁
  all-put all = subst (λ (k : ℕ). Puts bytes from s o listed answers k s₁ o₁ listed₁ answers₁) all puts

pub loop-i-init : goal.loop-i-init
loop-i-init c = (λ o. (o, Puts.none), same_tables)

pub put_bytes-requires : goal.put_bytes-requires
put_bytes-requires c =
    let same = c.loop-i.invariant.1 in
    record {
      opened = (c.loop-i.invariant.0 c.requires.opened).0;
      room = record {
        pairs = omega (arith, c.requires.room.pairs, same.parent_long, c.loop-i.auto.work);
        marks = omega (arith, c.requires.room.marks, c.loop-i.auto.work);
        numbers = omega (arith, c.requires.room.numbers, c.loop-i.auto.listed);
      };
      from_in_bounds = (omega (arith, c.loop-i-test.true, c.requires.count_in_bounds.0), omega (arith, c.loop-i-test.true, c.requires.count_in_bounds.1, c.loop-i.auto.answers));
    }

pub loop-i-preserved : goal.loop-i-preserved
loop-i-preserved c = (
  λ o.
      let (o₁, puts) = c.loop-i.invariant.0 o in
      let x = c.put_bytes.ensures.recorded o₁ in
      (x.called.after, one_more puts x),
  same_again c.loop-i.invariant.1 c.put_bytes.ensures.same_tables,
)

-- the lent struct's tables end as the loop's own
as_left : (t : Lending) {p r q tr n bytes listed answers listed' answers' : List ℕ} {from k : ℕ} {s : State} {o : Opened most_nodes s} →
    p ≡ t.parent.now → r ≡ t.rank.now → q ≡ t.rows.now → tr ≡ t.trail.now → n ≡ t.nodes.now →
    ((o' : Opened most_nodes (held_by t)) × Puts bytes from s o listed answers k (held_by t) o' listed' answers') →
    (o' : Opened most_nodes (held p r q tr n t.live)) × Puts bytes from s o listed answers k (held p r q tr n t.live) o' listed' answers'
as_left t a b c d e puts = rw (a, b, c, d, e) puts

pub returns-clause-puts : goal.returns-clause-puts
returns-clause-puts c =
    λ o.
    let (o', puts) = c.loop-i.invariant.0 o in
    as_left c.loop-i.own (search rules) (search rules) (search rules) (search rules) (search rules) (o', all-put puts (le_antisymm c.loop-i.auto.i-end c.loop-i-test.false))
