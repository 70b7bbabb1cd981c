-- The three demands, sentence by sentence: what MISSION.md says of them, and what holds. What is cited here is proved
-- in the other files.
use mathlib.Core.Path.{◌≡◌}
use mathlib.Core.Logic.{◌↔◌}
use mathlib.Core.List.{List, ◌++◌, map}
use Prim.Native.Nat.{ℕ, ◌+◌, ◌*◌, ◌^◌, ◌≤◌, ◌<◌}
use lib.ListN.{length, get_or, replicate}
use Rattle.classes.specs.Table.{fresh}
use Rattle.nodes.specs.Kept.{node_width}
use Rattle.nodes.specs.Layout.{Proper, standing, row_of, built}
use Rattle.nodes.specs.declared.Node.{Node}
use Rattle.nodes.specs.declared.Record.{Record}
use Rattle.nodes.specs.declared.Record.TheVariants.{Offer, Close}
use Rattle.combinators.specs.Entered.{entered}
use Rattle.types.specs.Limits.{most_nodes}
use Rattle.types.specs.Answers.{numbers, numbered, offered, Answered}
use Rattle.types.specs.Calls.{Called}
use Rattle.types.specs.Closings.{Lists}
use Rattle.types.specs.Runs.{Runs, offers}
use Rattle.types.specs.States.{State, state, Opened}
use Rattle.types.specs.declared.Answer.{Answer}
use Rattle.types.specs.declared.Answer.TheVariants.{Kept}
use Rattle.types.proofs.Demand3.{kept_nodes_are_kept_again as kept_again}
use Rattle.types.proofs.Once.{answered_once}
use Rattle.std.specs.Prelude.{Ok}
use Rattle.headers.specs.Header.{count, Outcome}
use Rattle.runs.specs.Leaving.{over}
use Rattle.jobs.specs.Jobs.{records, Job}
use Rattle.calls.specs.Values.{state_of}
use Rattle.calls.specs.declared.Owned.{Owned as Value}
use Rattle.tsarovima_c.specs.Lent.{RunBy, Lent, OpenedIfLong, RecordedBy}
use Rattle.demands.specs.Words.{Refused, Admissible, ForcesClash, FirstToClash, number_of, ClassesOf}
use Rattle.demands.specs.Words.{ClassesWith, Satisfiable, ShowsMostGeneral, answers_from, ClosesLast}
use Rattle.demands.specs.Chains.{Chain, StillKept, Demand3}
use Rattle.demands.specs.Kinds.{Said, FreshLent, LentCall, Arrays, FreshValue, ValueCall, FreshTables, HostCall}
use Rattle.demands.specs.Kinds.{asked}
use Rattle.demands.proofs.Refusals.{refused_job, refused_run, refused_state, refused_value, refused_tables}
use Rattle.demands.proofs.Refusals.{wrong_length}
use Rattle.demands.proofs.Clashes.{clash_iff_forced, named_first, first_named, fall_in_classes, few_joins}
use Rattle.demands.proofs.Targets.{named_1_to_7}
use Rattle.demands.proofs.Closings.{closed_iff_satisfiable, cycle_iff_not_satisfiable, shows_most_general}
use Rattle.demands.proofs.Meanings.{lent_runs, demand_3_lent, demand_3_by_value, demand_3_for_hosts}
use Rattle.demands.proofs.Rooms.{opened_fresh, full_iff_most_kept}
use Rattle.demands.proofs.JobAnswers.{later_bytes, later_listing}

-- DEMAND 1. "Any bytes may come as a job, and any numbers in a record. Nothing traps or runs on": the contracts of
-- `jobs::job`, which has no premise, and that every function is proved

-- "A refused job writes nothing to the lent buffers"
pub a_refused_job_writes_nothing : {job answers listing answers' listing' : List ℕ} {r : Outcome} →
    Job job answers listing r answers' listing' → (r ≡ Ok tt → ⊥) → (answers' ≡ answers) × (listing' ≡ listing)
a_refused_job_writes_nothing = refused_job

pub a_hosts_refused_job_writes_nothing : {job answers listing answers' listing' : List ℕ} {r : ℕ} →
    RunBy job answers listing r answers' listing' → (r ≡ 0 → ⊥) → (answers' ≡ answers) × (listing' ≡ listing)
a_hosts_refused_job_writes_nothing = refused_run

-- "A refused record gets the answer document 01 fixes"
pub a_record_has_one_answer : {most : ℕ} {kept kept₁ kept₂ : List Node} {r : Record} {a₁ a₂ : Answer} →
    Answered most kept r a₁ kept₁ → Answered most kept r a₂ kept₂ → (a₁ ≡ a₂) × (kept₁ ≡ kept₂)
a_record_has_one_answer = answered_once

-- "and the state is what it was": on lent tables,
pub a_refusal_leaves_the_state : {most : ℕ} {s s' : State} {o : Opened most s} {r : Record} {a : Answer} →
    Called most s o r a s' → Refused a → s' ≡ s
a_refusal_leaves_the_state = refused_state

-- by value, every number of every array,
pub a_refusal_leaves_the_value : {v v' : Value} {r : Record} {x : Said} →
    Arrays v → Opened most_nodes (state_of v) → ValueCall v r x v' → Refused x.answer → v' ≡ v
a_refusal_leaves_the_value = refused_value

-- and what a host lends, whose answer has the code in its first byte; a wrong length leaves all
pub a_refusal_leaves_the_tables : {was is : Lent} {bytes : List ℕ} {r : ℕ} →
    OpenedIfLong was bytes → RecordedBy was bytes r is → (get_or is.answer 0 0 ≡ 0 → ⊥) → is.tables ≡ was.tables
a_refusal_leaves_the_tables = refused_tables

pub a_wrong_length_leaves_all : {was is : Lent} {bytes : List ℕ} → RecordedBy was bytes 1 is → is ≡ was
a_wrong_length_leaves_all = wrong_length

-- DEMAND 2. "Verdict, failing rule and types equal the Rust's": not proved, shown by runs

-- "A well-formed node, with room left, is refused for a clash exactly when the rules so far, its own included, force
-- two different kinds to be equal"
pub clash_exactly_when_forced : {most : ℕ} {kept kept' : List Node} {n : Node} {a : Answer} →
    Admissible most kept n → Answered most kept (Offer n) a kept' → ((numbers a).code ≡ 4) ↔ ForcesClash kept n
clash_exactly_when_forced = clash_iff_forced

-- "a clash that names the very rule an author must mend": the first whose addition brings one, and that one is named
pub first_rule_that_clashes_is_named : {most : ℕ} {kept kept' : List Node} {n : Node} {a : Answer} {k : ℕ} →
    Admissible most kept n → Answered most kept (Offer n) a kept' → FirstToClash kept n k →
    numbers a ≡ numbered 4 (number_of kept n k) 0
first_rule_that_clashes_is_named = first_named

pub a_clash_names_the_first_rule : {most : ℕ} {kept kept' : List Node} {n : Node} {a : Answer} →
    Answered most kept (Offer n) a kept' → (numbers a).code ≡ 4 →
    (k : ℕ) × FirstToClash kept n k × ((numbers a).first ≡ number_of kept n k)
a_clash_names_the_first_rule = named_first

-- which is one of the seven: D = target s, numbered 0, cannot clash
pub a_clash_names_a_rule_of_the_table : {most : ℕ} {s : State} (o : Opened most s) {r : Record} {a : Answer}
    {kept' : List Node} →
    Answered most o.nodes r a kept' → (numbers a).code ≡ 4 → (1 ≤ (numbers a).first) × ((numbers a).first ≤ 7)
a_clash_names_a_rule_of_the_table = named_1_to_7

-- "Joins are the classes before, plus the new entries, less the classes after" (document 01), "bounded by the entries"
pub joins_are_the_fall_in_classes : {most : ℕ} {kept kept' : List Node} {n : Node} {i joins : ℕ} →
    Answered most kept (Offer n) (Kept i joins) kept' →
    (was is : ℕ) → ClassesOf kept was → ClassesWith kept n is →
    joins + is ≡ was + length (row_of (built kept) n).entries
joins_are_the_fall_in_classes = fall_in_classes

pub joins_are_at_most_the_entries : {most : ℕ} {kept kept' : List Node} {n : Node} {i joins : ℕ} →
    Answered most kept (Offer n) (Kept i joins) kept' → joins ≤ length (offered kept n).bounds
joins_are_at_most_the_entries = few_joins

-- "A list kept without a clash closes exactly when some finite types satisfy every rule"
pub closes_exactly_when_satisfiable : {most : ℕ} {kept kept' : List Node} {a : Answer} →
    Answered most kept Close a kept' → ((numbers a).code ≡ 0) ↔ Satisfiable kept
closes_exactly_when_satisfiable = closed_iff_satisfiable

pub a_cycle_exactly_when_not_satisfiable : {most : ℕ} {kept kept' : List Node} {a : Answer} →
    Answered most kept Close a kept' → ((numbers a).code ≡ 5) ↔ (Satisfiable kept → ⊥)
a_cycle_exactly_when_not_satisfiable = cycle_iff_not_satisfiable

-- "and any such types come from ours by choosing types for what stayed free. We print those as unit"
pub printed_types_are_most_general : {most : ℕ} {s : State} {l : List ℕ} (o : Opened most s) →
    Satisfiable o.nodes → Lists o.nodes Close l → ShowsMostGeneral o.nodes l
printed_types_are_most_general = shows_most_general

-- DEMAND 3. "Take a state that opening gave and only our calls changed"
pub opening_is_fresh : (most rows : ℕ) → 33 + 8 * most ≤ rows → rows < 2 ^ 16 →
    FreshLent most rows (state (entered (fresh rows) standing) (replicate (node_width * most) 0) 0)
opening_is_fresh = opened_fresh

pub a_chain_is_a_run : {most : ℕ} {s s' : State} {rs : List Record} {xs : List Said} (o : Opened most s) →
    Chain (LentCall most) s rs xs s' →
    (o' : Opened most s') × Runs most o.nodes rs (map (λ x. x.answer) xs) (map (λ x. x.listing) xs) o'.nodes
a_chain_is_a_run = lent_runs

pub kept_nodes_are_kept_again : {most : ℕ} {rs : List Record} {kept : List Node} → StillKept most rs kept →
    StillKept most (offers kept) kept
kept_nodes_are_kept_again still = kept_again still.2

-- "After any run of offers, refusals, closings and take-backs to an earlier count, every later answer and listing
-- equals, number for number, that of a fresh state offered only the nodes still kept, in their order": on lent
-- tables, by value, for hosts,
pub lent_tables_answer_as_fresh : (most rows : ℕ) → Demand3 most (FreshLent most rows) (LentCall most) (λ r. r)
lent_tables_answer_as_fresh = demand_3_lent

pub values_answer_as_fresh : Demand3 most_nodes FreshValue ValueCall (λ r. r)
values_answer_as_fresh = demand_3_by_value

pub host_tables_answer_as_fresh : Demand3 most_nodes FreshTables HostCall asked
host_tables_answer_as_fresh = demand_3_for_hosts

-- and in a job: the later records are answered, byte for byte, and the last is listed, number for number, as in a job
-- that first offers the nodes still kept
module _ {job answers listing answers₁ listing₁ job' answers' listing' answers₂ listing₂ : List ℕ}
    (rs later : List Record) (kept : List Node)
    (one : Job job answers listing (Ok tt) answers₁ listing₁) (of_one : records job (count job) ≡ rs ++ later)
    (still : StillKept most_nodes rs kept)
    (two : Job job' answers' listing' (Ok tt) answers₂ listing₂)
    (of_two : records job' (count job') ≡ offers kept ++ later) where
  pub a_jobs_later_answers_are_as_fresh :
      answers_from (length rs) (length later) answers₁ ≡ answers_from (length (offers kept)) (length later) answers₂
  a_jobs_later_answers_are_as_fresh = later_bytes rs later kept one of_one still two of_two

  pub a_jobs_listing_is_as_fresh : 0 < length later → ClosesLast job → ClosesLast job' →
      (l : List ℕ) × (listing₁ ≡ over l listing) × (listing₂ ≡ over l listing')
  a_jobs_listing_is_as_fresh = later_listing rs later kept one of_one still two of_two

-- "Room taken back is room again"
pub room_is_by_the_nodes_still_kept : {most : ℕ} {kept kept' : List Node} {n : Node} {a : Answer} →
    Proper n → Answered most kept (Offer n) a kept' → ((numbers a).code ≡ 3) ↔ (most ≤ length kept)
room_is_by_the_nodes_still_kept = full_iff_most_kept
