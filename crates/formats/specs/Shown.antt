-- What a record leaves of the listing that is gathered, and where a listing ends.
use Rattle.std.specs.Prelude.{List, ◌++◌, Bool, true, false, cond, ℕ, ◌+◌, ◌*◌, get_or, drop}
use Rattle.std.proofs.Math.Logic.{ite}
use Rattle.std.proofs.Math.Decide.{ℕ_discrete}
use Rattle.types.specs.Closings.{no_listing}
use Rattle.types.specs.declared.Answer.{Answer}
use Rattle.types.specs.declared.Answer.TheVariants.{Kept, TakenBack, Closed, Malformed, Full, NoChild, Clashes, Endless, TooFar}

-- the answer of a closing that found types
abbrev pub found_types : Answer → Bool
found_types (Kept n joins) = false
found_types (TakenBack n) = false
found_types (Closed n types) = true
found_types Malformed = false
found_types Full = false
found_types NoChild = false
found_types (Clashes rule) = false
found_types (Endless n) = false
found_types (TooFar n) = false

-- after a record of kind 65 no listing, unless it found types; after any other, what was listed
abbrev pub settled : ℕ → Answer → List ℕ → List ℕ
settled kind answer listed = ite (ℕ_discrete kind 65) (cond (found_types answer) listed (no_listing ++ drop 4 listed)) listed

-- the arrows' offset, and two numbers for each node
abbrev pub end_of : List ℕ → ℕ
end_of listing = get_or listing 3 0 + 2 * get_or listing 0 0
