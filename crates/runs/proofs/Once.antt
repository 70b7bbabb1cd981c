-- No second outcome: what records put one after the other leave, and every byte of their answers, are fixed by what was lent.
use mathlib.Core.Path.{◌≡◌, refl, sym, ap, ◌∙◌, subst}
use mathlib.Core.List.{List, ◌++◌}
use Prim.Native.Nat.{ℕ, ◌+◌, ◌*◌}
use lib.ListN.{get_or, take, drop}
use mathlib.Core.Logic.{by_cases}
use native.Mathlib.Decide.{ℕ_discrete}
use Rattle.classes.specs.Table.{limit}
use Rattle.nodes.specs.Records.{record_at}
use Rattle.nodes.specs.declared.Node.{Node}
use Rattle.types.specs.Limits.{most_nodes}
use Rattle.types.specs.Answers.{Answered}
use Rattle.types.specs.Closings.{Lists}
use Rattle.types.specs.States.{State, Opened}
use Rattle.types.specs.declared.Answer.{Answer}
use Rattle.types.specs.declared.Answer.TheVariants.{Endless}
use Rattle.types.proofs.Fixed.{same_nodes_same_state}
use Rattle.types.proofs.Once.{answered_once, lists_once, called_once}
use Rattle.formats.specs.Bytes.{answer_bytes}
use Rattle.runs.specs.Leaving.{or_none, over}
use Rattle.runs.specs.Putting.{Recorded, Puts}

-- one record put from its bytes: past the end of a listing refused for a cycle there is working memory
pub recorded_once : {s s₁ s₂ : State} {o : Opened most_nodes s} {bytes listed answers listed₁ listed₂ answers₁ answers₂ : List ℕ} {from to : ℕ}
    (x : Recorded s o bytes from listed answers to s₁ listed₁ answers₁) (y : Recorded s o bytes from listed answers to s₂ listed₂ answers₂) →
    (s₁ ≡ s₂) × (answers₁ ≡ answers₂) × (((i : ℕ) → x.answer ≡ Endless i → ⊥) → listed₁ ≡ listed₂)
recorded_once {bytes = bytes} {listed = listed} {answers = answers} {from = from} {to = to} x y =
    let (same, state) = called_once x.called y.called in
    let lists = lists_once x.leaves.lists y.leaves.lists in (
      state,
      x.written ∙ ap (λ (a : Answer). take to answers ++ answer_bytes a ++ drop (to + 8) answers) same ∙ sym y.written,
      λ ne. by_cases (ℕ_discrete (get_or bytes from 0) 65)
          (λ e. x.leaves.written e ne ∙ ap (λ (l : List ℕ). over (or_none l) listed) lists ∙ sym (y.leaves.written e (λ i is. ne i (same ∙ is))))
          (λ e. x.leaves.stays e ∙ sym (y.leaves.stays e)),
    )

-- no record of them was answered with a cycle
abbrev pub NoCycle : {bytes : List ℕ} {from : ℕ} {s : State} {o : Opened most_nodes s} {listed answers : List ℕ} {n : ℕ} {s' : State} {o' : Opened most_nodes s'} {listed' answers' : List ℕ} →
    Puts bytes from s o listed answers n s' o' listed' answers' → Type 0
NoCycle Puts.none = Unit
NoCycle (Puts.more p x) = NoCycle p × ((i : ℕ) → x.answer ≡ Endless i → ⊥)

-- several, put one after the other
pub puts_once : {bytes : List ℕ} {from : ℕ} {s : State} {o : Opened most_nodes s} {listed answers : List ℕ} {n : ℕ} {s₁ s₂ : State} {o₁ : Opened most_nodes s₁} {o₂ : Opened most_nodes s₂} {listed₁ listed₂ answers₁ answers₂ : List ℕ}
    (p : Puts bytes from s o listed answers n s₁ o₁ listed₁ answers₁) (q : Puts bytes from s o listed answers n s₂ o₂ listed₂ answers₂) →
    (o₁.nodes ≡ o₂.nodes) × (s₁ ≡ s₂) × (answers₁ ≡ answers₂) × (NoCycle p → listed₁ ≡ listed₂)
puts_once Puts.none Puts.none = (refl, refl, refl, λ h. refl)
puts_once {bytes = bytes} {from = from} (Puts.more {n = n} p x) (Puts.more q y) =
    let (nodes, state, answers, listed) = puts_once p q in
    let (same, then) = answered_once x.called.answered (subst (λ (kept : List Node). Answered most_nodes kept (record_at bytes (from + 8 * n)) y.answer y.called.after.nodes) (sym nodes) y.called.answered) in
    let lists = lists_once x.leaves.lists (subst (λ (kept : List Node). Lists kept (record_at bytes (from + 8 * n)) y.leaves.listed) (sym nodes) y.leaves.lists) in (
      then,
      same_nodes_same_state x.called.after y.called.after then (x.called.same_rows ∙ ap (λ (s : State). limit s.classes) state ∙ sym y.called.same_rows),
      x.written ∙ (λ i. take (8 * n) (answers i) ++ answer_bytes (same i) ++ drop (8 * n + 8) (answers i)) ∙ sym y.written,
      λ h. by_cases (ℕ_discrete (get_or bytes (from + 8 * n) 0) 65)
          (λ e. x.leaves.written e h.1 ∙ (λ i. over (or_none (lists i)) (listed h.0 i)) ∙ sym (y.leaves.written e (λ i is. h.1 i (same ∙ is))))
          (λ e. x.leaves.stays e ∙ listed h.0 ∙ sym (y.leaves.stays e)),
    )
