-- `closing::walk::part` meets its contract. That the left part is not open, past its test, is left to the search, so that another test
-- is refused for what is then not known, and not for a name.
use mathlib.Core.Path.{sym, subst₂}
use mathlib.Core.List.{List}
use Prim.Native.Nat.{ℕ}
use Rattle.std.specs.Prelude.{Ok}
use Rattle.closing.specs.declared.walk.Reached.{Reached}
use Rattle.closing.specs.Walking.{Parted}
use Rattle.closing.proofs.Steps.{numbered_mark}
use Rattle.closing.specs.Walking.Parted.{left_opened, left_open, right_opened, right_open, both}
use borrow.Author.Rules.{rules}
use Rattle.closing.proofs.walk.part.Goals as goal

pub returns-then-one-eq-UNSEEN : goal.returns-then-one-eq-UNSEEN
returns-then-one-eq-UNSEEN c = subst₂ (λ (x : Reached) (w : List ℕ). Parted c.args.entries c.args.work.now c.args.listing.now c.args.at.depth c.args.at.types c.args.top c.args.ty.kind c.args.ty.left c.args.ty.right (Ok x) w c.args.listing.now) (sym c.open.ensures.1) (sym c.open.ensures.0) (left_opened c.if-one-eq-UNSEEN.true)

pub returns-then-one-eq-OPEN : goal.returns-then-one-eq-OPEN
returns-then-one-eq-OPEN c = left_open c.if-one-eq-OPEN.true

pub returns-then-other-eq-UNSEEN : goal.returns-then-other-eq-UNSEEN
returns-then-other-eq-UNSEEN c = subst₂ (λ (x : Reached) (w : List ℕ). Parted c.args.entries c.args.work.now c.args.listing.now c.args.at.depth c.args.at.types c.args.top c.args.ty.kind c.args.ty.left c.args.ty.right (Ok x) w c.args.listing.now) (sym c.open-then-other-eq-UNSEEN.ensures.1) (sym c.open-then-other-eq-UNSEEN.ensures.0) (right_opened (numbered_mark c.if-one-eq-UNSEEN.false (search rules)) c.if-other-eq-UNSEEN.true)

pub returns-then-other-eq-OPEN : goal.returns-then-other-eq-OPEN
returns-then-other-eq-OPEN c = right_open (numbered_mark c.if-one-eq-UNSEEN.false (search rules)) c.if-other-eq-OPEN.true

pub returns : goal.returns
returns c = both (numbered_mark c.if-one-eq-UNSEEN.false (search rules)) (numbered_mark c.if-other-eq-UNSEEN.false c.if-other-eq-OPEN.false) c.complete.ensures
