-- A job that can be run passed every test.
use mathlib.Core.Path.{◌≡◌}
use mathlib.Core.List.{List}
use Prim.Native.Nat.{ℕ, ◌+◌, ◌*◌, ◌≤◌}
use native.Mathlib.Decide.{ℕ_discrete, dec_le}
use lib.ListN.{length}
use Rattle.std.specs.Prelude.{Ok}
use Rattle.types.specs.Limits.{longest_listing}
use Rattle.headers.specs.Header.{format, count, offset, total, Outcome, needs, judged}
use Rattle.headers.specs.declared.Refusal.{Refusal}
use Rattle.headers.specs.declared.Refusal.TheVariants.{TooShort, BadFormat, TooMany, BadOffset, BadLength, AnswersShort, ListingShort}

-- what a job that can be run is
pub record Ready (job : List ℕ) (answers listing : ℕ) : Type 0 where
  pub few : count job ≤ 4096
  pub long : length job ≡ 16 + 8 * count job
  pub room : 8 * count job ≤ answers
  pub numbers : longest_listing ≤ listing

-- where no refusal is the outcome the test passed, and the next ones decide
passed : {P : Type 0} (test : Dec P) (refusal : Refusal) {next : Outcome} → needs test refusal next ≡ Ok tt → P × (next ≡ Ok tt)
passed (yes holds) refusal done = (holds, done)
passed (no fails) refusal done = absurd (cc)

pub ready : (job : List ℕ) (answers listing : ℕ) → judged job answers listing ≡ Ok tt → Ready job answers listing
ready job answers listing done =
    let (header, formats) = passed (dec_le 16 (length job)) TooShort done in
    let (format, counts) = passed (ℕ_discrete (format job) 1) BadFormat formats in
    let (few, offsets) = passed (dec_le (count job) 4096) TooMany counts in
    let (offset, totals) = passed (ℕ_discrete (offset job) 16) BadOffset offsets in
    let (total, lengths) = passed (ℕ_discrete (total job) (16 + 8 * count job)) BadLength totals in
    let (long, rooms) = passed (ℕ_discrete (length job) (16 + 8 * count job)) BadLength lengths in
    let (room, numbers) = passed (dec_le (8 * count job) answers) AnswersShort rooms in
    record { few = few; long = long; room = room; numbers = (passed (dec_le longest_listing listing) ListingShort numbers).0 }
