-- A closing: 0 exactly where some finite types satisfy every rule, and then the listing shows most general ones.
use mathlib.Core.Path.{◌≡◌, ap, fun_ext}
use mathlib.Core.Logic.{◌↔◌}
use mathlib.Core.List.{List}
use Prim.Native.Nat.{ℕ}
use Rattle.typing.specs.Types.{Ty}
use Rattle.typing.specs.Listing.{listing}
use Rattle.nodes.specs.Layout.{built}
use Rattle.nodes.specs.declared.Node.{Node}
use Rattle.nodes.specs.declared.Record.TheVariants.{Close}
use Rattle.types.specs.Closings.{typed, Lists}
use Rattle.types.specs.Answers.{numbers, Answered}
use Rattle.types.specs.States.{State, Opened}
use Rattle.types.specs.declared.Answer.{Answer}
use Rattle.types.proofs.Satisfied.{closed_so_satisfied, satisfied_so_closed, endless_so_not_satisfied}
use Rattle.types.proofs.Satisfied.{not_satisfied_so_endless, satisfied_so_not_endless, printed_types_are_most_general}
use Rattle.demands.specs.Words.{Satisfiable, ShowsMostGeneral}

pub closed_iff_satisfiable : {most : ℕ} {kept kept' : List Node} {a : Answer} → Answered most kept Close a kept' →
    ((numbers a).code ≡ 0) ↔ Satisfiable kept
closed_iff_satisfiable h = (closed_so_satisfied h, λ types. satisfied_so_closed h types.0 types.1)

pub cycle_iff_not_satisfiable : {most : ℕ} {kept kept' : List Node} {a : Answer} → Answered most kept Close a kept' →
    ((numbers a).code ≡ 5) ↔ (Satisfiable kept → ⊥)
cycle_iff_not_satisfiable h = (
  λ code types. endless_so_not_satisfied h code types.0 types.1,
  λ none. not_satisfied_so_endless h (λ v s. none (v, s)),
)

general_shown : {most : ℕ} {s : State} (o : Opened most s) {l : List ℕ} → Satisfiable o.nodes →
    Lists o.nodes Close l → ShowsMostGeneral o.nodes l
general_shown o types (Lists.closed {v = v} c) =
    let (most_general, general, plain) = printed_types_are_most_general o c in
    record {
      types = most_general;
      general = general;
      shown = ap (λ (w : ℕ → Ty). listing (typed w (built o.nodes).arrows)) (fun_ext plain);
    }
general_shown o types (Lists.endless i h e) = absurd (satisfied_so_not_endless o.nodes i types.1 e)

pub shows_most_general : {most : ℕ} {s : State} {l : List ℕ} (o : Opened most s) → Satisfiable o.nodes →
    Lists o.nodes Close l → ShowsMostGeneral o.nodes l
shows_most_general o types lists = general_shown o types lists
