-- What a record leaves in a buffer that is lent for a listing.
use Rattle.std.specs.Prelude.{List, [], ◌∷◌, ◌++◌, ℕ, length, drop}
use Rattle.types.specs.Closings.{no_listing}

-- what a record of kind 65 shows: what it lists. One that is malformed lists nothing, and shows 0, 0, 4, 4
abbrev pub or_none : List ℕ → List ℕ
or_none [] = no_listing
or_none (x ∷ l) = x ∷ l

-- numbers over the front of what was lent; past their end it stays
abbrev pub over : List ℕ → List ℕ → List ℕ
over numbers lent = numbers ++ drop (length numbers) lent
