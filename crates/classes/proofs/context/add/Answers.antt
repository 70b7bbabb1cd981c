-- `classes::context::add` meets its contract: the entry's row is a store to each column, and its rank is 0 as it stands.
use mathlib.Core.Path.{◌≡◌, refl, subst}
use mathlib.Core.List.{List, [], ◌∷◌}
use Prim.Native.Nat.{ℕ, ◌+◌, ◌<◌}
use native.Mathlib.Omega.{arith}
use Rattle.std.specs.Prelude.{Some}
use lib.ListN.{length, set, length-set}
use Rattle.classes.specs.Table.{kind_of, left_of, right_of}
use Rattle.classes.specs.Columns.{kind_at, left_at, right_at, shape_at, height, laid}
use Rattle.classes.specs.Made.{Made}
use Rattle.classes.specs.Promises.{AddedBy}
use Rattle.classes.specs.Promises.AddedBy.{entry, full}
use Rattle.classes.specs.declared.Bound.{Bound}
use Rattle.classes.proofs.Closure.{made_good}
use Rattle.classes.proofs.Columns.{length_column, written, rewritten, rewritten_column}
use Rattle.classes.proofs.TakenBack.{put_same}
use Rattle.classes.proofs.context.add.Goals as goal
use Rattle.classes.proofs.context.add.Goals.{After-from-given}

-- the entry's row is there
there : (c : After-from-given) → c.args.live.entries < height c.args.rows.now
there c =
    omega (arith, c.if-parent-e.false, (made_good c.requires.2).forest.kind_rows, length_column kind_at c.args.rows.now)

-- a table with the entry's numbers as the code has them
module _ (p r rows trail : List ℕ) (e n : ℕ) (b : Bound) {k l q : ℕ} (room : e < length p) (ek : k ≡ kind_of b) (el : l ≡ left_of b) (eq : q ≡ right_of b)
    (made : Made (laid p r rows trail e n)) where
  abbrev row : List ℕ
  row = k ∷ l ∷ q ∷ e ∷ []

  added-as : AddedBy (laid p r rows trail e n) b (Some e) (laid (set p e e) r (rewritten rows e row) trail (e + 1) n)
  added-as =
      let stored = rewritten_column rows e row refl in
      let blank = put_same r e 0 ((made_good made).forest.rank_blank e (omega arith)) in
      subst (λ (ranks : List ℕ). AddedBy (laid p r rows trail e n) b (Some e) (laid (set p e e) ranks (rewritten rows e row) trail (e + 1) n)) blank
      (rw (stored kind_at (omega arith), stored left_at (omega arith), stored right_at (omega arith), stored shape_at (omega arith), ek, el, eq) (entry room))

pub returns-then-parent-e : goal.returns-then-parent-e
returns-then-parent-e c = λ rank trail made. full c.if-parent-e.true

pub bounds-rows-row : goal.bounds-rows-row
bounds-rows-row c = omega (arith, there c)

pub bounds-rows-row-2 : goal.bounds-rows-row-2
bounds-rows-row-2 c = simp length-set (omega (arith, there c))

pub bounds-rows-row-3 : goal.bounds-rows-row-3
bounds-rows-row-3 c = simp length-set (omega (arith, there c))

pub bounds-rows-row-4 : goal.bounds-rows-row-4
bounds-rows-row-4 c = simp length-set (omega (arith, there c))

pub returns : goal.returns
unfolding written
returns c =
    λ rank trail made. added-as _ rank _ trail _ _ _ c.if-parent-e.false c.from-given.ensures.0 c.from-given.ensures.1 c.from-given.ensures.2 made
