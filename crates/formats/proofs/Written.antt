-- Stores one after the other are what the definitions write.
use mathlib.Core.Path.{◌≡◌, sym, ap, ◌∙◌}
use mathlib.Core.Bool.{Bool, true, false, cond}
use mathlib.Core.Logic.{if_pos, if_neg}
use mathlib.Core.List.{List, ◌++◌}
use Prim.Native.Nat.{ℕ, ◌+◌, ◌/◌, ◌%◌, ◌^◌, ◌≤◌, ◌<◌}
use native.Mathlib.Numerals.{add-one, add-two, add-three, add-four, add_five, add_six, add_seven}
use native.Mathlib.Nat.{add_assoc}
use native.Mathlib.Decide.{ℕ_discrete}
use native.Mathlib.Omega.{arith}
use lib.ListN.{length, set, take, drop}
use lib.Seq.{sets-eq}
use Rattle.types.specs.Answers.{numbers}
use Rattle.types.specs.Closings.{no_listing}
use Rattle.types.specs.declared.Answer.{Answer}
use Rattle.formats.specs.Bytes.{two, answer_bytes}
use Rattle.formats.specs.Shown.{found_types, settled}

-- an answer's eight stores: code, first, and second with its upper two bytes
pub answer_stored : (bytes : List ℕ) (at : ℕ) (a : Answer) {x y z : ℕ} {b₁ b₂ b₃ b₄ : List ℕ} → at + 8 ≤ length bytes → z < 2 ^ 16 →
    x ≡ (numbers a).code → y ≡ (numbers a).first → z ≡ (numbers a).second →
    b₁ ≡ set (set bytes at (x % 256)) (at + 1) (x / 256 % 256) →
    b₂ ≡ set (set b₁ (at + 2) (y % 256)) (at + 2 + 1) (y / 256 % 256) →
    b₃ ≡ set (set b₂ (at + 4) (z % 256)) (at + 4 + 1) (z / 256 % 256) →
    b₄ ≡ set (set b₃ (at + 6) (0 % 256)) (at + 6 + 1) (0 / 256 % 256) →
    b₄ ≡ take at bytes ++ answer_bytes a ++ drop (at + 8) bytes
answer_stored bytes at a room small ex ey ez e₁ e₂ e₃ e₄ =
    let n = numbers a in
    let upper : 0 ≡ n.second / 65536 = omega (arith, small, ez) in
    rw (e₄, e₃, e₂, e₁, ex, ey, ez, add_assoc at 2 1, add_assoc at 4 1, add_assoc at 6 1, add-one at, add-two at, add-three at, add-four at, add_five at, add_six at, add_seven at)
    (sets-eq (two n.code ++ two n.first ++ two n.second ++ two 0) bytes at room)
    ∙ ap (λ (u : ℕ). take at bytes ++ (two n.code ++ two n.first ++ two n.second ++ two u) ++ drop (at + 8) bytes) upper

-- what a record leaves of the listing, by its kind and its answer
module _ (kind : ℕ) (a : Answer) (listed : List ℕ) where
  pub settled_other : (kind ≡ 65 → ⊥) → listed ≡ settled kind a listed
  settled_other other = sym (if_neg (ℕ_discrete kind 65) other _ _)

  pub settled_found : kind ≡ 65 → found_types a ≡ true → listed ≡ settled kind a listed
  settled_found closing found = sym (if_pos (ℕ_discrete kind 65) closing _ _ ∙ ap (λ (b : Bool). cond b listed (no_listing ++ drop 4 listed)) found)

  pub settled_none : kind ≡ 65 → found_types a ≡ false → no_listing ++ drop 4 listed ≡ settled kind a listed
  settled_none closing none = sym (if_pos (ℕ_discrete kind 65) closing _ _ ∙ ap (λ (b : Bool). cond b listed (no_listing ++ drop 4 listed)) none)
