-- Opening is fresh, and room is by the nodes kept alone.
use mathlib.Core.Path.{◌≡◌, refl, ◌∙◌}
use mathlib.Core.Logic.{◌↔◌}
use mathlib.Core.List.{List}
use Prim.Native.Nat.{ℕ, ◌+◌, ◌*◌, ◌^◌, ◌≤◌, ◌<◌}
use native.Mathlib.Omega.{arith}
use lib.ListN.{length, replicate, length-replicate}
use Rattle.classes.specs.Table.{fresh}
use Rattle.nodes.specs.Kept.{node_width}
use Rattle.nodes.specs.Layout.{Proper, standing}
use Rattle.nodes.specs.declared.Node.{Node}
use Rattle.nodes.specs.declared.Record.TheVariants.{Offer}
use Rattle.combinators.specs.Entered.{entered}
use Rattle.combinators.proofs.Counted.{entered_limit}
use Rattle.types.specs.Answers.{numbers, Answered}
use Rattle.types.specs.Answers.Answered.{over_31, full, no_child, keeps, refuses}
use Rattle.types.specs.States.{state}
use Rattle.types.specs.declared.Answer.{Answer}
use Rattle.types.proofs.Begun.{opened_first}
use Rattle.demands.specs.Kinds.{FreshLent}

pub opened_fresh : (most rows : ℕ) → 33 + 8 * most ≤ rows → rows < 2 ^ 16 →
    FreshLent most rows (state (entered (fresh rows) standing) (replicate (node_width * most) 0) 0)
opened_fresh most rows wide small =
    (entered_limit (fresh rows) standing ∙ length-replicate rows 0, opened_first most rows wide small refl refl)

pub full_iff_most_kept : {most : ℕ} {kept kept' : List Node} {n : Node} {a : Answer} → Proper n →
    Answered most kept (Offer n) a kept' → ((numbers a).code ≡ 3) ↔ (most ≤ length kept)
full_iff_most_kept proper (over_31 u) = absurd (u proper)
full_iff_most_kept proper (full p f) = (λ code. f, λ h. refl)
full_iff_most_kept proper (no_child p l b) = (λ code. absurd (omega (arith, code)), λ h. absurd (omega (arith, h, l)))
full_iff_most_kept proper (keeps p l b o) = (λ code. absurd (omega (arith, code)), λ h. absurd (omega (arith, h, l)))
full_iff_most_kept proper (refuses p l b o) = (λ code. absurd (omega (arith, code)), λ h. absurd (omega (arith, h, l)))
