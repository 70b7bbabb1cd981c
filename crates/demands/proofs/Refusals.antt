-- What a refusal leaves: a job the buffers, a record the very state, for each kind of record call.
use mathlib.Core.Path.{◌≡◌, refl, ap, ◌∙◌}
use mathlib.Core.List.{List}
use Prim.Native.Nat.{ℕ, ◌%◌}
use lib.ListN.{get_or}
use Rattle.nodes.specs.declared.Node.{Node}
use Rattle.nodes.specs.declared.Record.{Record}
use Rattle.types.specs.Limits.{most_nodes}
use Rattle.types.specs.Answers.{Answered}
use Rattle.types.specs.Answers.Answered.{malformed, over_31, full, no_child, keeps, refuses, takes_back, too_far}
use Rattle.types.specs.Answers.Answered.{closes, endless}
use Rattle.types.specs.Calls.{Called}
use Rattle.types.specs.States.{State, Opened}
use Rattle.types.specs.declared.Answer.{Answer}
use Rattle.types.proofs.Fixed.{same_nodes_leave_the_state}
use Rattle.calls.specs.Values.{state_of}
use Rattle.calls.specs.declared.Owned.{Owned as Value}
use Rattle.std.specs.Prelude.{Ok}
use Rattle.headers.specs.Header.{Outcome, code_of}
use Rattle.jobs.specs.Jobs.{Job}
use Rattle.tsarovima_c.specs.Lent.{RunBy, Lent, OpenedIfLong, RecordedBy}
use Rattle.tsarovima_c.proofs.Once.{same_tables}
use Rattle.demands.specs.Words.{Refused}
use Rattle.demands.specs.Kinds.{Said, Arrays, ValueCall}
use Rattle.demands.proofs.Meanings.{same_value}

-- a job
pub refused_job : {job answers listing answers' listing' : List ℕ} {r : Outcome} →
    Job job answers listing r answers' listing' → (r ≡ Ok tt → ⊥) →
    (answers' ≡ answers) × (listing' ≡ listing)
refused_job (Job.refused is not) other = (refl, refl)
refused_job (Job.done is runs) other = absurd (other refl)

pub refused_run : {job answers listing answers' listing' : List ℕ} {r : ℕ} →
    RunBy job answers listing r answers' listing' → (r ≡ 0 → ⊥) → (answers' ≡ answers) × (listing' ≡ listing)
refused_run (outcome, code, j) other = refused_job j (λ done. other (code ∙ ap code_of done))

-- a record: the nodes kept are the same, and they fix the state
refused_so_same_nodes : {most : ℕ} {kept kept' : List Node} {r : Record} {a : Answer} → Answered most kept r a kept' →
    Refused a → kept' ≡ kept
refused_so_same_nodes malformed not = refl
refused_so_same_nodes (over_31 u) not = refl
refused_so_same_nodes (full p f) not = refl
refused_so_same_nodes (no_child p l b) not = refl
refused_so_same_nodes (keeps p l b o) not = absurd (not refl)
refused_so_same_nodes (refuses p l b o) not = refl
refused_so_same_nodes (takes_back h) not = absurd (not refl)
refused_so_same_nodes (too_far f) not = refl
refused_so_same_nodes (closes c) not = refl
refused_so_same_nodes (endless h e lowest) not = refl

pub refused_state : {most : ℕ} {s s' : State} {o : Opened most s} {r : Record} {a : Answer} → Called most s o r a s' →
    Refused a → s' ≡ s
refused_state c not = same_nodes_leave_the_state c (refused_so_same_nodes c.answered not)

pub refused_value : {v v' : Value} {r : Record} {x : Said} → Arrays v → Opened most_nodes (state_of v) →
    ValueCall v r x v' → Refused x.answer → v' ≡ v
refused_value long o (ValueCall.offer also f) not = same_value also long (refused_state (f o) not)
refused_value long o (ValueCall.take_back also f) not = same_value also long (refused_state (f o) not)
refused_value long o (ValueCall.close also f h) not = same_value also long (refused_state (f o) not)

-- an answer's first byte is its code's, and a wrong length leaves all that was lent
pub refused_tables : {was is : Lent} {bytes : List ℕ} {r : ℕ} → OpenedIfLong was bytes → RecordedBy was bytes r is →
    (get_or is.answer 0 0 ≡ 0 → ⊥) →
    is.tables ≡ was.tables
refused_tables premise (RecordedBy.done long sized f) not =
    let p = f (premise long) in
    let first = ap (λ (l : List ℕ). get_or l 0 0) p.written in
    let code : Refused p.answer = λ e. not (first ∙ ap (λ (n : ℕ). n % 256) e) in
    same_tables _ _ (refused_state p.called code) sized long.0
refused_tables premise (RecordedBy.wrong_length not_long) not = refl

pub wrong_length : {was is : Lent} {bytes : List ℕ} → RecordedBy was bytes 1 is → is ≡ was
wrong_length (RecordedBy.wrong_length not_long) = refl
