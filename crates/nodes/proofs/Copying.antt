-- A loop that copies one number a turn: the first i are those of the source, the others as lent.
use mathlib.Core.Path.{◌≡◌}
use mathlib.Core.List.{List, ◌++◌}
use Prim.Native.Nat.{ℕ, ◌+◌, ◌<◌}
use native.Mathlib.Nat.{zero-add}
use native.Mathlib.Numerals.{add-one}
use native.Mathlib.Omega.{arith}
use lib.ListN.{length, get_or, set, take, drop}
use lib.Seq.{paste-suc, take-length}

pub copied_more : (source lent : List ℕ) {out : List ℕ} (i : ℕ) → out ≡ take i source ++ drop i lent → i < length source → i < length lent →
    set out i (get_or source i 0) ≡ take (i + 1) source ++ drop (i + 1) lent
copied_more source lent i so_far more room = rw (so_far, add-one) (simp zero-add at (paste-suc lent 0 source i 0 (omega (arith, room)) more))

pub copied_all : (source lent : List ℕ) {out : List ℕ} {i end : ℕ} → out ≡ take i source ++ drop i lent → i ≡ end → out ≡ take end source ++ drop end lent
copied_all source lent so_far all = rw (← all) so_far

pub copied_whole : (source lent : List ℕ) {out : List ℕ} {i : ℕ} → out ≡ take i source ++ drop i lent → i ≡ length source → out ≡ source ++ drop (length source) lent
copied_whole source lent so_far all = rw (so_far, all, take-length)
