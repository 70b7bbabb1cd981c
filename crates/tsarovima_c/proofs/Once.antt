-- No second outcome: what each call returns and leaves is fixed by what was lent. Not fixed is working memory: `work`, and the numbers
-- of a listing's buffer after code 5.
use mathlib.Core.Path.{◌≡◌, refl, sym, ap, ◌∙◌}
use mathlib.Core.List.{List, [], ◌∷◌, ◌++◌}
use Prim.Native.Nat.{ℕ, ◌<◌}
use native.Mathlib.Omega.{arith}
use lib.ListN.{length, get_or, take, drop}
use Rattle.classes.specs.Columns.{column}
use Rattle.classes.proofs.Laws.{same_columns}
use Rattle.types.specs.Limits.{most_nodes, most_entries}
use Rattle.types.specs.States.{State, Opened}
use Rattle.types.specs.declared.Answer.{Answer}
use Rattle.types.specs.declared.Answer.TheVariants.{Endless}
use Rattle.types.proofs.Fixed.{same_nodes_same_state}
use Rattle.headers.specs.Header.{code_of}
use Rattle.formats.specs.Bytes.{answer_bytes}
use Rattle.runs.specs.Putting.{Recorded}
use Rattle.runs.proofs.Once as runs
use Rattle.jobs.proofs.Once as jobs
use Rattle.tsarovima_c.specs.Lent.{RunBy, Tables, state_of, Sized, OpenedBy, Lent, OpenedIfLong, RecordedBy, TextBy}

pub job_once : {job answers listing answers₁ listing₁ answers₂ listing₂ : List ℕ} {r₁ r₂ : ℕ} →
    RunBy job answers listing r₁ answers₁ listing₁ → RunBy job answers listing r₂ answers₂ listing₂ →
    (r₁ ≡ r₂) × (answers₁ ≡ answers₂) × (listing₁ ≡ listing₂)
job_once (o₁, c₁, j₁) (o₂, c₂, j₂) =
    let (same, answers, listing) = jobs.job_once j₁ j₂ in
    (c₁ ∙ ap code_of same ∙ sym c₂, answers, listing)

-- three numbers are the three that can be read
all_three : (v : List ℕ) → length v ≡ 3 → v ≡ get_or v 0 0 ∷ get_or v 1 0 ∷ get_or v 2 0 ∷ []
all_three (a ∷ b ∷ c ∷ []) h = refl
all_three [] h = absurd (omega (arith, h))
all_three (a ∷ []) h = absurd (omega (arith, h))
all_three (a ∷ b ∷ []) h = absurd (omega (arith, h))
all_three (a ∷ b ∷ c ∷ d ∷ v) h = absurd (omega (arith, h))

-- tables of the right lengths that hold one state hold the same numbers
module _ (x y : Tables) (same : state_of x ≡ state_of y) where
  columns : (k : ℕ) → k < 4 → column k x.rows ≡ column k y.rows
  columns ℕ.zero h = ap (λ (s : State). s.classes.kind) same
  columns (ℕ.suc ℕ.zero) h = ap (λ (s : State). s.classes.left) same
  columns (ℕ.suc (ℕ.suc ℕ.zero)) h = ap (λ (s : State). s.classes.right) same
  columns (ℕ.suc (ℕ.suc (ℕ.suc ℕ.zero))) h = ap (λ (s : State). s.classes.shape) same
  columns (ℕ.suc (ℕ.suc (ℕ.suc (ℕ.suc k)))) h = absurd (omega (arith, h))

  counts : length x.live ≡ 3 → length y.live ≡ 3 → x.live ≡ y.live
  counts long also =
      let entries : get_or x.live 0 0 ≡ get_or y.live 0 0 = ap (λ (s : State). s.classes.entries) same in
      let links : get_or x.live 1 0 ≡ get_or y.live 1 0 = ap (λ (s : State). s.classes.links) same in
      let kept : get_or x.live 2 0 ≡ get_or y.live 2 0 = ap (λ (s : State). s.kept) same in
      all_three x.live long ∙ (λ i. entries i ∷ links i ∷ kept i ∷ []) ∙ sym (all_three y.live also)

  pub same_tables : Sized x → Sized y → x ≡ y
  same_tables long also =
      let rows : x.rows ≡ y.rows = same_columns most_entries x.rows y.rows long.four_an_entry also.four_an_entry columns in
      let live : x.live ≡ y.live = counts long.counts also.counts in
      λ i. record {
        parent = (same i).classes.parent;
        rank = (same i).classes.rank;
        rows = rows i;
        trail = (same i).classes.trail;
        nodes = (same i).nodes;
        live = live i;
      }

pub opened_once : {was is₁ is₂ : Tables} {r₁ r₂ : ℕ} → OpenedBy was r₁ is₁ → OpenedBy was r₂ is₂ → (r₁ ≡ r₂) × (is₁ ≡ is₂)
opened_once (OpenedBy.done sized long o none) (OpenedBy.done sized' also o' none') =
    (refl, same_tables _ _ (same_nodes_same_state o o' (none ∙ sym none') (long.parents ∙ sym also.parents)) long also)
opened_once (OpenedBy.done sized long o none) (OpenedBy.wrong_length not) = absurd (not sized)
opened_once (OpenedBy.wrong_length not) (OpenedBy.done sized long o none) = absurd (not sized)
opened_once (OpenedBy.wrong_length not) (OpenedBy.wrong_length not') = (refl, refl)

-- an answer whose first byte is not 5 is no cycle
no_cycle : {s s' : State} {o : Opened most_nodes s} {bytes listed answer listed' answer' : List ℕ} (x : Recorded s o bytes 0 listed answer 0 s' listed' answer') →
    (get_or answer' 0 0 ≡ 5 → ⊥) → (i : ℕ) → x.answer ≡ Endless i → ⊥
no_cycle {answer = answer} x not i e =
    not (ap (λ (l : List ℕ). get_or l 0 0) x.written ∙ ap (λ (a : Answer). get_or (take 0 answer ++ answer_bytes a ++ drop 8 answer) 0 0) e)

-- for a record put and, with the eight bytes of a closing, for a closing
pub recorded_once : {was is₁ is₂ : Lent} {bytes : List ℕ} {r₁ r₂ : ℕ} → OpenedIfLong was bytes → RecordedBy was bytes r₁ is₁ → RecordedBy was bytes r₂ is₂ →
    (r₁ ≡ r₂) × (is₁.tables ≡ is₂.tables) × (is₁.answer ≡ is₂.answer) × ((get_or is₁.answer 0 0 ≡ 5 → ⊥) → is₁.listing ≡ is₂.listing)
recorded_once premise (RecordedBy.done long sized puts) (RecordedBy.done long' sized' puts') =
    let o = premise long in
    let (state, answer, listing) = runs.recorded_once (puts o) (puts' o) in
    (refl, same_tables _ _ state sized sized', answer, λ not. listing (no_cycle (puts o) not))
recorded_once premise (RecordedBy.done long sized puts) (RecordedBy.wrong_length not) = absurd (not long)
recorded_once premise (RecordedBy.wrong_length not) (RecordedBy.done long sized puts) = absurd (not long)
recorded_once premise (RecordedBy.wrong_length not) (RecordedBy.wrong_length not') = (refl, refl, refl, λ e. refl)

pub text_once : (rule : ℕ) (lent : List ℕ) {lent₁ lent₂ : List ℕ} {r₁ r₂ : ℕ} → TextBy rule lent r₁ lent₁ → TextBy rule lent r₂ lent₂ →
    (r₁ ≡ r₂) × (lent₁ ≡ lent₂)
text_once rule lent (long, front) (also, same) = (long ∙ sym also, front ∙ sym same)
