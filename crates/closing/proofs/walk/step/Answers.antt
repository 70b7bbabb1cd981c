-- `closing::walk::step` meets its contract.
use mathlib.Core.Path.{◌≡◌, sym, ◌∙◌, subst}
use mathlib.Core.List.{List}
use Prim.Native.Nat.{ℕ}
use Rattle.classes.specs.declared.Bound.{Bound}
use Rattle.closing.specs.Walking.{seen_in, top_of, PartsBelow, Stepped}
use Rattle.closing.specs.declared.walk.Cycle.{Cycle}
use Rattle.closing.specs.declared.walk.Reached.{Reached}
use Rattle.std.specs.Prelude.{Result}
use Rattle.closing.proofs.walk.step.Goals as goal
use Rattle.closing.proofs.walk.step.Goals.{After-look}

-- what the class at the top shows, as it was looked at
module _ (c : After-look) where
  abbrev Left : Bound → Result Reached Cycle → List ℕ → List ℕ → Type 0
  Left b =
      Stepped c.args.entries c.args.work.now c.args.listing.now c.args.at.depth c.args.at.types (top_of c.args.work.now c.args.at.depth) b

  abbrev looked : Bound
  looked =
      seen_in c.args.parent.now c.args.rows.now (top_of c.args.work.now c.args.at.depth)

  stepped : {b : Bound} (x : Result Reached Cycle) (w l : List ℕ) → c.look.result ≡ b → Left b x w l → Left looked x w l
  stepped x w l e s = subst (λ (b : Bound). Left b x w l) (sym e ∙ c.look.ensures) s

  parts_below : {b : Bound} → c.look.result ≡ b → PartsBelow c.args.entries b
  parts_below e = subst (PartsBelow c.args.entries) (sym c.look.ensures ∙ e) (c).requires.fact.1

pub returns-in-Free : goal.returns-in-Free
returns-in-Free c = stepped (goal.at.returns-in-Free c).After-look _ _ _ c.in-Free.is c.complete.ensures

pub returns-in-Unit : goal.returns-in-Unit
returns-in-Unit c = stepped (goal.at.returns-in-Unit c).After-look _ _ _ c.in-Unit.is c.complete-in-Unit.ensures

pub returns-in-Sum : goal.returns-in-Sum
returns-in-Sum c = stepped (goal.at.returns-in-Sum c).After-look _ _ _ c.in-Sum.is c.part.ensures

pub returns-in-Product : goal.returns-in-Product
returns-in-Product c = stepped (goal.at.returns-in-Product c).After-look _ _ _ c.in-Product.is c.part-in-Product.ensures
