-- Each kind of record call means the calls of `types`.
use mathlib.Core.Path.{◌≡◌, refl, sym, ap, ◌∙◌, subst}
use mathlib.Core.Logic.{ite, by_cases, if_pos, if_neg}
use mathlib.Core.List.{List, [], ◌++◌, map}
use Prim.Native.Nat.{ℕ, ◌-◌}
use native.Mathlib.Decide.{ℕ_discrete}
use native.Mathlib.Omega.{arith}
use lib.ListN.{length, get_or, take, drop, replicate, get_or-append}
use lib.Seq.{take_at}
use Rattle.classes.specs.Table.{limit}
use Rattle.nodes.specs.declared.Node.{Node}
use Rattle.nodes.specs.declared.Record.{Record}
use Rattle.nodes.specs.declared.Record.TheVariants.{Offer, TakeBack, Close, Malformed as Misshapen}
use Rattle.types.specs.Limits.{most_nodes, most_entries, longest_listing}
use Rattle.types.specs.Answers.{Answered}
use Rattle.types.specs.Closings.{Lists}
use Rattle.types.specs.Calls.{Closing}
use Rattle.types.specs.Runs.{Runs}
use Rattle.types.specs.States.{State, Opened}
use Rattle.types.specs.declared.Answer.{Answer}
use Rattle.types.specs.declared.Answer.TheVariants.{Closed, Endless}
use Rattle.types.proofs.Handing.{closing_called}
use Rattle.formats.specs.Bytes.{answer_bytes}
use Rattle.formats.specs.Shown.{end_of}
use Rattle.runs.specs.Leaving.{or_none}
use Rattle.runs.specs.Putting.{Leaves}
use Rattle.runs.proofs.Leaving.{Whole, closing_whole, shown_whole}
use Rattle.calls.specs.Values.{state_of}
use Rattle.calls.specs.declared.Owned.{Owned as Value}
use Rattle.tsarovima_c.specs.Lent.{Tables, Sized, OpenedBy, RecordedBy}
use Rattle.tsarovima_c.specs.Lent as Lent
use Rattle.tsarovima_c.proofs.Once.{same_tables}
use Rattle.demands.specs.Chains.{Chain, Demand3}
use Rattle.demands.specs.Kinds.{Said, said, NoneKept, told, FreshLent, LentCall, tables_of, Arrays, FreshValue}
use Rattle.demands.specs.Kinds.{ValueCall, FreshTables, Read, read, HostCall, asked}
use Rattle.demands.proofs.Chained.{Means, RecordCalls, chains_meet_demand_3}

-- a listing at the front is read to the end that it tells
read_whole : (l rest : List ℕ) → Whole l → take (end_of (l ++ rest)) (l ++ rest) ≡ l
read_whole l rest (long, ends) =
    let first = get_or-append l rest 0 0 (omega (arith, long)) in
    let fourth = get_or-append l rest 0 3 (omega (arith, long)) in
    take_at l rest (end_of (l ++ rest)) (omega (arith, first, fourth, ends))

-- ON LENT TABLES
types_are_no_cycle : {n m i : ℕ} → Closed n m ≡ Endless i → ⊥
types_are_no_cycle e = let z : ◌≡◌ {A = ℕ} 0 1 = cc in omega arith

told_is_listed : {most : ℕ} {kept kept' : List Node} {a : Answer} {lent left : List ℕ} →
    Answered most kept Close a kept' → Closing most kept lent a left → Lists kept Close (told a left)
told_is_listed {kept = kept} {lent = lent} (Answered.closes d) c =
    let l = c.listed in
    let front = c.written (λ i e. types_are_no_cycle e) in
    let whole = read_whole l (drop (length l) lent) (closing_whole c.lists) in
    let is = ap (λ (x : List ℕ). take (end_of x) x) front ∙ whole in
    subst (Lists kept Close) (sym is) c.lists
told_is_listed (Answered.endless {i = i} h e lowest) c = Lists.endless i h e

lent_means : {most : ℕ} {s s' : State} {r : Record} {x : Said} → LentCall most s r x s' → (o : Opened most s) →
    Means most s o r (λ (y : Said). y) x s'
lent_means (LentCall.offer f) o = record { says = _; shown = refl; called = f o; lists = Lists.offers }
lent_means (LentCall.take_back f) o = record { says = _; shown = refl; called = f o; lists = Lists.takes_back }
lent_means (LentCall.close f) o =
    record { says = _; shown = refl; called = closing_called o (f o); lists = told_is_listed (f o).answered (f o) }
lent_means LentCall.malformed o =
    record {
      says = _;
      shown = refl;
      called = record { after = o; answered = Answered.malformed; same_rows = refl };
      lists = Lists.malformed;
    }

-- a chain of them is a run, from the nodes kept at its start to those at its end
pub lent_runs : {most : ℕ} {s s' : State} {rs : List Record} {xs : List Said} (o : Opened most s) →
    Chain (LentCall most) s rs xs s' →
    (o' : Opened most s') × Runs most o.nodes rs (map (λ x. x.answer) xs) (map (λ x. x.listing) xs) o'.nodes
lent_runs o Chain.ends = (o, Runs.ends)
lent_runs {most} o (Chain.goes {i = r} a f) =
    let m = lent_means a o in
    let (last, runs) = lent_runs m.called.after f in
    let is = sym m.shown in (
      last,
      Runs.goes
          (subst (λ (x : Said). Answered most o.nodes r x.answer m.called.after.nodes) is m.called.answered)
          (subst (λ (x : Said). Lists o.nodes r x.listing) is m.lists)
          runs,
    )

pub lent_calls : (most rows : ℕ) →
    RecordCalls most rows (λ s. limit s.classes ≡ rows) (λ s. s) (LentCall most) (λ r. r)
lent_calls most rows = record {
  long = λ w. w;
  fixed = λ w w' e. e;
  shows = λ r x. x;
  stays = λ w o a. (lent_means a o).called.same_rows ∙ w;
  means = lent_means;
}

-- ON THE STATE BY VALUE
pub same_value : {v w : Value} → Arrays v → Arrays w → state_of v ≡ state_of w → v ≡ w
same_value {v} {w} long also same =
    let e = same_tables (tables_of v) (tables_of w) same long also in
    λ i. record {
      parent = (e i).parent;
      rank = (e i).rank;
      rows = (e i).rows;
      trail = (e i).trail;
      nodes = (e i).nodes;
      live = record { entries = (same i).classes.entries; links = (same i).classes.links; kept = (same i).kept };
    }

-- a listing by value, with 0 past its end
abbrev handed : Record → Said → Said
handed (Offer n) x = x
handed (TakeBack k) x = x
handed Close x = said x.answer (x.listing ++ replicate (longest_listing - length x.listing) 0)
handed Misshapen x = x

value_means : {v v' : Value} {r : Record} {x : Said} → ValueCall v r x v' → (o : Opened most_nodes (state_of v)) →
    Means most_nodes (state_of v) o r (handed r) x (state_of v')
value_means (ValueCall.offer long f) o = record { says = _; shown = refl; called = f o; lists = Lists.offers }
value_means (ValueCall.take_back long f) o = record { says = _; shown = refl; called = f o; lists = Lists.takes_back }
value_means (ValueCall.close {r = r} long f h) o =
    let says = said r.answer (h o).listed in
    record { says = says; shown = ap (said r.answer) (h o).are; called = f o; lists = (h o).lists }

value_stays : {v v' : Value} {r : Record} {x : Said} → ValueCall v r x v' → Arrays v'
value_stays (ValueCall.offer long f) = long
value_stays (ValueCall.take_back long f) = long
value_stays (ValueCall.close long f h) = long

pub value_calls : RecordCalls most_nodes most_entries Arrays state_of ValueCall (λ r. r)
value_calls = record {
  long = λ w. w.parents;
  fixed = same_value;
  shows = handed;
  stays = λ w o a. value_stays a;
  means = value_means;
}

-- FOR HOSTS IN OTHER LANGUAGES
abbrev host_reads : List ℕ → Said → Read
host_reads bytes x = record {
  answer = answer_bytes x.answer;
  listing = ite (ℕ_discrete (get_or bytes 0 0) 65) (or_none x.listing) [];
}

-- what stands at the front of the listing's buffer after a record of kind 65 is its listing
listing_read : {kept : List Node} {r : Record} {kind : ℕ} {a : Answer} {before after : List ℕ}
    (l : Leaves kept r kind a before after) →
    ite (ℕ_discrete kind 65) (take (end_of after) after) [] ≡ ite (ℕ_discrete kind 65) (or_none l.listed) []
listing_read {kind = kind} {after = after} l = by_cases (ℕ_discrete kind 65)
    (λ e.
    let (rest, front) = l.front e in
    if_pos (ℕ_discrete kind 65) e _ _ ∙ ap (λ (x : List ℕ). take (end_of x) x) front
    ∙ read_whole (or_none l.listed) rest (shown_whole l.lists) ∙ sym (if_pos (ℕ_discrete kind 65) e _ _))
    (λ e. if_neg (ℕ_discrete kind 65) e _ _ ∙ sym (if_neg (ℕ_discrete kind 65) e _ _))

host_means : {x y : Tables} {bytes : List ℕ} {out : Read} → HostCall x bytes out y →
    (o : Opened most_nodes (Lent.state_of x)) →
    Means most_nodes (Lent.state_of x) o (asked bytes) (host_reads bytes) out (Lent.state_of y)
host_means (HostCall.put {is = is} {bytes = bytes} (RecordedBy.done long sized f)) o =
    let p = f o in
    let bytes_read =
    ap (λ (bs : List ℕ). (read bytes (Lent.lent is.tables is.work is.listing bs)).answer) p.written in
    let numbers_read = listing_read p.leaves in
    record {
      says = said p.answer p.leaves.listed;
      shown = λ i. record { answer = bytes_read i; listing = numbers_read i };
      called = p.called;
      lists = p.leaves.lists;
    }

host_stays : {x y : Tables} {bytes : List ℕ} {out : Read} → HostCall x bytes out y → Sized y
host_stays (HostCall.put (RecordedBy.done long sized f)) = sized

pub host_calls : RecordCalls most_nodes most_entries Sized Lent.state_of HostCall asked
host_calls = record {
  long = λ w. w.parents;
  fixed = λ {x} {y} w w' e. same_tables x y e w w';
  shows = host_reads;
  stays = λ w o a. host_stays a;
  means = host_means;
}

-- what opening gives
host_fresh : (x : Tables) → FreshTables x → Sized x × NoneKept most_nodes (Lent.state_of x)
host_fresh x (was, OpenedBy.done sized long o none) = (long, (o, none))

pub demand_3_lent : (most rows : ℕ) → Demand3 most (FreshLent most rows) (LentCall most) (λ r. r)
demand_3_lent most rows = chains_meet_demand_3 (lent_calls most rows) (FreshLent most rows) (λ x f. f)

pub demand_3_by_value : Demand3 most_nodes FreshValue ValueCall (λ r. r)
demand_3_by_value = chains_meet_demand_3 value_calls FreshValue (λ x f. f)

pub demand_3_for_hosts : Demand3 most_nodes FreshTables HostCall asked
demand_3_for_hosts = chains_meet_demand_3 host_calls FreshTables host_fresh
