-- Decisions that the model takes: that every child is below the next number, and that a class is on a path.
use mathlib.Core.Path.{◌≡◌, refl, sym, subst}
use mathlib.Core.List.Memᴰ
use mathlib.Core.List.{List, [], ◌∷◌, Memᴰ}
use Prim.Native.Nat.{ℕ, ◌<◌}
use native.Mathlib.Decide.{ℕ_discrete, dec_lt}

abbrev EachBelow : ℕ → List ℕ → Type 0
EachBelow next xs = (i : ℕ) → Memᴰ i xs → i < next

pub both_below : {next x : ℕ} {xs : List ℕ} → x < next → EachBelow next xs → EachBelow next (x ∷ xs)
both_below {next} low rest i (Memᴰ.head e) = subst (λ (k : ℕ). k < next) (sym e) low
both_below low rest i (Memᴰ.tail m) = rest i m

abbrev one_below : (next x : ℕ) (xs : List ℕ) → Dec (x < next) → Dec (EachBelow next xs) → Dec (EachBelow next (x ∷ xs))
one_below next x xs (no past) d = no (λ b. past (b x (Memᴰ.head refl)))
one_below next x xs (yes low) (no past) = no (λ b. past (λ i m. b i (Memᴰ.tail m)))
one_below next x xs (yes low) (yes rest) = yes (both_below low rest)

abbrev pub each_below : (next : ℕ) (xs : List ℕ) → Dec (EachBelow next xs)
each_below next [] = yes (λ i m. absurd (Memᴰ.not-nil m))
each_below next (x ∷ xs) = one_below next x xs (dec_lt x next) (each_below next xs)

pub not_there : {a x : ℕ} {xs : List ℕ} → (a ≡ x → ⊥) → (Memᴰ a xs → ⊥) → Memᴰ a (x ∷ xs) → ⊥
not_there other none (Memᴰ.head e) = other e
not_there other none (Memᴰ.tail m) = none m

abbrev one_there : (a x : ℕ) (xs : List ℕ) → Dec (a ≡ x) → Dec (Memᴰ a xs) → Dec (Memᴰ a (x ∷ xs))
one_there a x xs (yes e) d = yes (Memᴰ.head e)
one_there a x xs (no other) (yes m) = yes (Memᴰ.tail m)
one_there a x xs (no other) (no none) = no (not_there other none)

abbrev pub is_there : (a : ℕ) (xs : List ℕ) → Dec (Memᴰ a xs)
is_there a [] = no (λ m. Memᴰ.not-nil m)
is_there a (x ∷ xs) = one_there a x xs (ℕ_discrete a x) (is_there a xs)
