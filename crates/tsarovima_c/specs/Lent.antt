-- What a host lends, and what the calls over it promise.
use Rattle.std.specs.Prelude.{◌≡◌, Bool, true, false, List, [], ◌∷◌, ◌++◌, ℕ, ◌≤◌, length, get_or, drop}
use Rattle.std.proofs.Math.Logic.{ite}
use Rattle.std.proofs.Math.Decide.{dec_le}
use Rattle.classes.specs.Columns.{laid}
use Rattle.texts.specs.Texts.{text}
use Rattle.types.specs.Limits.{most_nodes, most_entries, rows_long, trail_long, nodes_long, work_long, longest_listing}
use Rattle.types.specs.States.{State, state, Opened}
use Rattle.headers.specs.Header.{Outcome, code_of}
use Rattle.jobs.specs.Jobs.{Job}
use Rattle.runs.specs.Putting.{Recorded}

-- a job run, its outcome as document 01's number
abbrev pub RunBy : (job answers listing : List ℕ) → ℕ → (answers' listing' : List ℕ) → Type 0
RunBy job answers listing r answers' listing' = (o : Outcome) × (r ≡ code_of o) × Job job answers listing o answers' listing'

-- the state's tables, and in `live` the numbers of entries, links and nodes kept
pub record Tables : Type 0 where
  pub parent : List ℕ
  pub rank : List ℕ
  pub rows : List ℕ
  pub trail : List ℕ
  pub nodes : List ℕ
  pub live : List ℕ

abbrev pub tables : List ℕ → List ℕ → List ℕ → List ℕ → List ℕ → List ℕ → Tables
tables p r q t n v = record { parent = p; rank = r; rows = q; trail = t; nodes = n; live = v }

abbrev pub state_of : Tables → State
state_of x =
    let count : ℕ → ℕ = λ i. get_or x.live i 0 in
    state (laid x.parent x.rank x.rows x.trail (count 0) (count 1)) x.nodes (count 2)

-- a flag that is up exactly when the fact does not hold
abbrev pub Denies : Bool → Type 0 → Type 0
Denies flag fact = (flag ≡ true → fact → ⊥) × (flag ≡ false → fact)

-- the lengths of tables for 1,024 nodes
pub record TableLengths (parent rank rows trail nodes live : ℕ) : Type 0 where
  pub parents : parent ≡ most_entries
  pub ranks : rank ≡ most_entries
  pub four_an_entry : rows ≡ rows_long
  pub three_a_link : trail ≡ trail_long
  pub seven_a_node : nodes ≡ nodes_long
  pub counts : live ≡ 3

abbrev pub Sized : Tables → Type 0
Sized x =
    TableLengths (length x.parent) (length x.rank) (length x.rows)
    (length x.trail) (length x.nodes) (length x.live)

-- 0: the tables hold a fresh state. 1: a length is wrong, and every table is as it was
pub data OpenedBy (was : Tables) : ℕ → Tables → Type 0 where
  done : {is : Tables} → Sized was → Sized is → (o : Opened most_nodes (state_of is)) → o.nodes ≡ [] → OpenedBy was 0 is
  wrong_length : (Sized was → ⊥) → OpenedBy was 1 was

-- all that a record call is lent to write to: the tables, working memory, room for a listing and for an answer
pub record Lent : Type 0 where
  pub tables : Tables
  pub work : List ℕ
  pub listing : List ℕ
  pub answer : List ℕ

abbrev pub lent : Tables → List ℕ → List ℕ → List ℕ → Lent
lent x w l a = record { tables = x; work = w; listing = l; answer = a }

-- the least lengths of what is lent beside the tables
pub record RoomLengths (work listing bytes answer : ℕ) : Type 0 where
  pub marks : work_long ≤ work
  pub numbers : longest_listing ≤ listing
  pub asked : 8 ≤ bytes
  pub answered : 8 ≤ answer

-- every length is right
abbrev pub Long : Lent → List ℕ → Type 0
Long x bytes = Sized x.tables × RoomLengths (length x.work) (length x.listing) (length bytes) (length x.answer)

-- the premise of the record calls: where every length is right, the tables came from opening and these calls
abbrev pub OpenedIfLong : Lent → List ℕ → Type 0
OpenedIfLong x bytes = Long x bytes → Opened most_nodes (state_of x.tables)

-- 0: the record in the first eight bytes is put, and its answer is written in the first eight. 1: a length is wrong, and all that was
-- lent is as it was
pub data RecordedBy (was : Lent) (bytes : List ℕ) : ℕ → Lent → Type 0 where
  done : {is : Lent} → Long was bytes → Sized is.tables →
      ((o : Opened most_nodes (state_of was.tables)) →
      Recorded (state_of was.tables) o bytes 0 was.listing was.answer 0 (state_of is.tables) is.listing is.answer) →
      RecordedBy was bytes 0 is
  wrong_length : (Long was bytes → ⊥) → RecordedBy was bytes 1 was

-- the eight bytes of a closing
abbrev pub closing_bytes : List ℕ
closing_bytes = 65 ∷ 0 ∷ 0 ∷ 0 ∷ 0 ∷ 0 ∷ 0 ∷ 0 ∷ []

-- a rule's text: how many bytes it has, none where the number names no rule. They stand at the front of what was lent if that has room
-- for them; else all is as it was
abbrev pub TextBy : (rule : ℕ) (lent : List ℕ) → ℕ → List ℕ → Type 0
TextBy rule lent r lent' =
    let long = length (text rule) in
    (r ≡ long) × (lent' ≡ ite (dec_le long (length lent)) (text rule ++ drop long lent) lent)
