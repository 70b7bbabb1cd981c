-- The rules' texts: no second answer to `text::write`, which numbers have no text, and how long a text can be.
use mathlib.Core.Path.{◌≡◌, refl}
use mathlib.Core.List.{List, []}
use Prim.Native.Nat.{ℕ, ◌≤◌, zero-le}
use native.Mathlib.Omega.{arith}
use lib.Dec.{lit≤}
use lib.ListN.{length}
use Rattle.texts.specs.Texts.{text, longest, AtFront, Written}
use Rattle.texts.specs.Texts.AtFront.{fits, no_room}
use Rattle.texts.specs.Texts.Written.{written, no_rule}
use Rattle.std.specs.Prelude.{Result}
use Rattle.texts.specs.declared.Unwritten.{Unwritten}

at_front_once : {words out out₁ out₂ : List ℕ} {r₁ r₂ : Result ℕ Unwritten} → AtFront words out r₁ out₁ → AtFront words out r₂ out₂ →
    (r₁ ≡ r₂) × (out₁ ≡ out₂)
at_front_once (fits room) (fits also) = (refl, refl)
at_front_once (fits room) (no_room none) = absurd (omega (arith, room, none))
at_front_once (no_room none) (fits room) = absurd (omega (arith, room, none))
at_front_once (no_room none) (no_room also) = (refl, refl)

pub one_text : {rule : ℕ} {out out₁ out₂ : List ℕ} {r₁ r₂ : Result ℕ Unwritten} → Written rule out r₁ out₁ → Written rule out r₂ out₂ →
    (r₁ ≡ r₂) × (out₁ ≡ out₂)
one_text (written from to front) (written from' to' front') = at_front_once front front'
one_text (written from to front) (no_rule none) = absurd (none from to)
one_text (no_rule none) (written from to front) = absurd (none from to)
one_text (no_rule none) (no_rule also) = (refl, refl)

-- a number that names no rule has no bytes
pub no_text : (rule : ℕ) → (1 ≤ rule → rule ≤ 7 → ⊥) → text rule ≡ []
no_text ℕ.zero none = refl
no_text (ℕ.suc ℕ.zero) none = absurd (none (lit≤ tt) (lit≤ tt))
no_text (ℕ.suc (ℕ.suc ℕ.zero)) none = absurd (none (lit≤ tt) (lit≤ tt))
no_text (ℕ.suc (ℕ.suc (ℕ.suc ℕ.zero))) none = absurd (none (lit≤ tt) (lit≤ tt))
no_text (ℕ.suc (ℕ.suc (ℕ.suc (ℕ.suc ℕ.zero)))) none = absurd (none (lit≤ tt) (lit≤ tt))
no_text (ℕ.suc (ℕ.suc (ℕ.suc (ℕ.suc (ℕ.suc ℕ.zero))))) none = absurd (none (lit≤ tt) (lit≤ tt))
no_text (ℕ.suc (ℕ.suc (ℕ.suc (ℕ.suc (ℕ.suc (ℕ.suc ℕ.zero)))))) none = absurd (none (lit≤ tt) (lit≤ tt))
no_text (ℕ.suc (ℕ.suc (ℕ.suc (ℕ.suc (ℕ.suc (ℕ.suc (ℕ.suc ℕ.zero))))))) none = absurd (none (lit≤ tt) (lit≤ tt))
no_text (ℕ.suc (ℕ.suc (ℕ.suc (ℕ.suc (ℕ.suc (ℕ.suc (ℕ.suc (ℕ.suc k)))))))) none = refl

pub no_text_is_longer : (rule : ℕ) → length (text rule) ≤ longest
no_text_is_longer ℕ.zero = zero-le
no_text_is_longer (ℕ.suc ℕ.zero) = lit≤ tt
no_text_is_longer (ℕ.suc (ℕ.suc ℕ.zero)) = lit≤ tt
no_text_is_longer (ℕ.suc (ℕ.suc (ℕ.suc ℕ.zero))) = lit≤ tt
no_text_is_longer (ℕ.suc (ℕ.suc (ℕ.suc (ℕ.suc ℕ.zero)))) = lit≤ tt
no_text_is_longer (ℕ.suc (ℕ.suc (ℕ.suc (ℕ.suc (ℕ.suc ℕ.zero))))) = lit≤ tt
no_text_is_longer (ℕ.suc (ℕ.suc (ℕ.suc (ℕ.suc (ℕ.suc (ℕ.suc ℕ.zero)))))) = lit≤ tt
no_text_is_longer (ℕ.suc (ℕ.suc (ℕ.suc (ℕ.suc (ℕ.suc (ℕ.suc (ℕ.suc ℕ.zero))))))) = lit≤ tt
no_text_is_longer (ℕ.suc (ℕ.suc (ℕ.suc (ℕ.suc (ℕ.suc (ℕ.suc (ℕ.suc (ℕ.suc k)))))))) = zero-le
