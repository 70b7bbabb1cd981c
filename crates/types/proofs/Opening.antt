-- The loop that adds the standing entries to fresh tables, as it begins and as it ends.
use mathlib.Core.Path.{◌≡◌, ap, ◌∙◌}
use mathlib.Core.List.{List}
use Prim.Native.Nat.{ℕ, ◌*◌, ◌^◌, ◌≤◌, ◌<◌}
use native.Mathlib.Omega.{arith}
use lib.ListN.{length, replicate, length-replicate}
use Rattle.classes.specs.Table.{fresh}
use Rattle.classes.specs.Columns.{width, kind_at, left_at, right_at, shape_at, column}
use Rattle.classes.proofs.Laws.{column_blank}
use Rattle.classes.specs.Made.{Made}
use Rattle.nodes.specs.Layout.{standing}
use Rattle.combinators.specs.Entered.{entered}
use Rattle.combinators.specs.Entering.{Enterable, part}
use Rattle.types.proofs.Stood.{standing_fitting, standing_length}
use Rattle.combinators.proofs.EachEntry.{Adding, adding_begins, adding_ends}

fresh_enterable : (rows : ℕ) → 33 ≤ rows → rows < 2 ^ 16 → Enterable (fresh rows) standing
fresh_enterable rows h small = record { made = Made.begun rows small; fitting = standing_fitting; room = rw length-replicate (omega (arith, standing_length)) }

module _ {n : ℕ} {p rows : List ℕ} (h : 33 ≤ n) (small : n < 2 ^ 16) (ep : p ≡ replicate n 0) (blank : rows ≡ replicate (width * n) 0) where
  long : length p ≡ n
  long = ap length ep ∙ length-replicate n 0

  column_is : (k : ℕ) → k < width → column k rows ≡ replicate n 0
  column_is k l = ap (column k) blank ∙ column_blank k n l

  -- the tables that were lent, with those that were not
  fresh_is : part p rows 0 0 (replicate (length p) 0) (replicate (3 * length p) 0) ≡ fresh (length p)
  fresh_is = rw (long, ep, column_is kind_at (omega arith), column_is left_at (omega arith), column_is right_at (omega arith), column_is shape_at (omega arith))

  able : Enterable (part p rows 0 0 (replicate (length p) 0) (replicate (3 * length p) 0)) standing
  able = rw fresh_is (fresh_enterable (length p) (omega (arith, long)) (omega (arith, long)))

  pub opening_begins : Adding (part p rows 0 0) standing (part p rows 0 0) 0
  opening_begins = adding_begins (replicate (length p) 0, replicate (3 * length p) 0, able)

  pub opening_ends : (p' rows' : List ℕ) {i : ℕ} → Adding (part p rows 0 0) standing (part p' rows' i 0) i → 33 ≤ i →
      part p' rows' 33 0 (replicate (length p) 0) (replicate (3 * length p) 0) ≡ entered (fresh (length p)) standing
  opening_ends p' rows' {i} inv all =
      let last : i ≡ 33 = omega (arith, inv.passed, standing_length) in
      rw last at (rw fresh_is at (adding_ends inv (omega (arith, standing_length)) (replicate (length p) 0) (replicate (3 * length p) 0) able))
