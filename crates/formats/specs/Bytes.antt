-- An answer as eight bytes, little-endian: code (2), first (2), second (4).
use Rattle.std.specs.Prelude.{List, [], ◌∷◌, ◌++◌, ℕ, ◌/◌, ◌%◌}
use Rattle.types.specs.Answers.{numbers}
use Rattle.types.specs.declared.Answer.{Answer}

abbrev pub two : ℕ → List ℕ
two n = n % 256 ∷ n / 256 % 256 ∷ []

abbrev pub four : ℕ → List ℕ
four n = two n ++ two (n / 65536)

abbrev pub answer_bytes : Answer → List ℕ
answer_bytes a = two (numbers a).code ++ two (numbers a).first ++ four (numbers a).second

-- the answers one after the other
unfoldable pub all_bytes : List Answer → List ℕ
all_bytes [] = []
all_bytes (a ∷ more) = answer_bytes a ++ all_bytes more
