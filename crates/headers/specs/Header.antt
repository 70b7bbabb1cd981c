-- A job's header and its refusals: document 01, "Job and listing".
use Rattle.std.specs.Prelude.{List, ℕ, ◌+◌, ◌*◌, length, get_or, Result, Ok, Err}
use Rattle.std.proofs.Math.Logic.{ite}
use Rattle.std.proofs.Math.Decide.{ℕ_discrete, dec_le}
use Rattle.types.specs.Limits.{longest_listing}
use Rattle.headers.specs.declared.Refusal.{Refusal}
use Rattle.headers.specs.declared.Refusal.TheVariants.{TooShort, BadFormat, TooMany, BadOffset, BadLength, AnswersShort, ListingShort}

-- a four-byte number, little-endian, at an offset
abbrev pub four_bytes : List ℕ → ℕ → ℕ
four_bytes bytes i = get_or bytes i 0 + 256 * get_or bytes (i + 1) 0 + 65536 * get_or bytes (i + 2) 0 + 16777216 * get_or bytes (i + 3) 0

-- the header's four numbers
abbrev pub format : List ℕ → ℕ
format job = four_bytes job 0

abbrev pub count : List ℕ → ℕ
count job = four_bytes job 4

abbrev pub offset : List ℕ → ℕ
offset job = four_bytes job 8

abbrev pub total : List ℕ → ℕ
total job = four_bytes job 12

-- what becomes of a job: it is run, or refused
abbrev pub Outcome : Type 0
Outcome = Result (Unit {0}) Refusal

-- refused where the test fails; else the next test
abbrev pub needs : {P : Type 0} → Dec P → Refusal → Outcome → Outcome
needs test refusal next = ite test next (Err refusal)

-- what becomes of a job, for buffers of so many bytes and numbers: the tests in their order
abbrev pub judged : List ℕ → ℕ → ℕ → Outcome
judged job answers listing =
    needs (dec_le 16 (length job)) TooShort
    (needs (ℕ_discrete (format job) 1) BadFormat
    (needs (dec_le (count job) 4096) TooMany
    (needs (ℕ_discrete (offset job) 16) BadOffset
    (needs (ℕ_discrete (total job) (16 + 8 * count job)) BadLength
    (needs (ℕ_discrete (length job) (16 + 8 * count job)) BadLength
    (needs (dec_le (8 * count job) answers) AnswersShort
    (needs (dec_le longest_listing listing) ListingShort
    (Ok tt))))))))

-- document 01's number for each refusal
abbrev pub number_of : Refusal → ℕ
number_of TooShort = 16
number_of BadFormat = 17
number_of TooMany = 18
number_of BadOffset = 19
number_of BadLength = 20
number_of AnswersShort = 21
number_of ListingShort = 22

-- and for each outcome
abbrev pub code_of : Outcome → ℕ
code_of (Ok done) = 0
code_of (Err refusal) = number_of refusal
