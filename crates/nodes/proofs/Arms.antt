-- What the last arm of a `match` on a number is left with, where the arms above it take numbers in a row.
use mathlib.Core.Path.{◌≡◌}
use Prim.Native.Nat.{ℕ, ◌+◌, ◌≤◌, ◌<◌}
use native.Mathlib.Omega.{arith}

-- n is none of the k numbers from `first` on, as a last arm has it
abbrev pub NoneOf : ℕ → ℕ → ℕ → Type 0
NoneOf first ℕ.zero n = Prim.Unit {0}
NoneOf first (ℕ.suc k) n = NoneOf first k n × (n ≡ first + k → ⊥)

pub not_among : (first k n : ℕ) → NoneOf first k n → first ≤ n → n < first + k → ⊥
not_among first ℕ.zero n none from to = omega arith
not_among first (ℕ.suc k) n none from to = not_among first k n none.0 from (omega (arith, none.1))
