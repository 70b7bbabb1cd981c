-- The three kinds of record calls, each call as its contract promises it: on lent tables, on the state by value, and
-- for hosts in other languages.
use Rattle.std.specs.Prelude.{◌≡◌, cond, List, [], ◌∷◌, ℕ, get_or, take}
use Rattle.std.proofs.Math.Logic.{ite}
use Rattle.std.proofs.Math.Decide.{ℕ_discrete}
use Rattle.classes.specs.Table.{limit}
use Rattle.nodes.specs.Records.{record_at}
use Rattle.nodes.specs.declared.Node.{Node}
use Rattle.nodes.specs.declared.Record.{Record}
use Rattle.nodes.specs.declared.Record.TheVariants.{Offer, TakeBack, Close, Malformed as Misshapen}
use Rattle.types.specs.Limits.{most_nodes, longest_listing}
use Rattle.types.specs.Closings.{no_listing}
use Rattle.types.specs.States.{State, Opened}
use Rattle.types.specs.Calls.{Called, Closing}
use Rattle.types.specs.declared.Answer.{Answer}
use Rattle.types.specs.declared.Answer.TheVariants.{Malformed}
use Rattle.formats.specs.Shown.{found_types, end_of}
use Rattle.calls.specs.Values.{state_of}
use Rattle.calls.specs.Handed.{Handed}
use Rattle.calls.specs.declared.Owned.{Owned as Value}
use Rattle.calls.specs.declared.After.{After}
use Rattle.calls.specs.declared.Listed.{Listed}
use Rattle.tsarovima_c.specs.Lent.{Tables, tables, Sized, OpenedBy, Lent, RecordedBy}

-- what a call says: its answer, and the listing of a closing
pub record Said : Type 0 where
  pub answer : Answer
  pub listing : List ℕ

abbrev pub said : Answer → List ℕ → Said
said a l = record { answer = a; listing = l }

-- opening gave the state: no node is kept
abbrev pub NoneKept : ℕ → State → Type 0
NoneKept most s = (o : Opened most s) × (o.nodes ≡ [])

-- ON LENT TABLES (`types`), with rows for so many entries
abbrev pub FreshLent : ℕ → ℕ → State → Type 0
FreshLent most rows s = (limit s.classes ≡ rows) × NoneKept most s

-- what is read of the numbers that a closing left: the listing, to the end that it tells; after a cycle they are
-- working memory, and the listing is 0, 0, 4, 4
abbrev pub told : Answer → List ℕ → List ℕ
told a left = cond (found_types a) (take (end_of left) left) no_listing

-- a closing leaves the very state, and so does a record that is malformed, for which nothing is called
pub data LentCall (most : ℕ) (s : State) : Record → Said → State → Type 0 where
  offer : {n : Node} {a : Answer} {s' : State} → ((o : Opened most s) → Called most s o (Offer n) a s') →
      LentCall most s (Offer n) (said a []) s'
  take_back : {k : ℕ} {a : Answer} {s' : State} → ((o : Opened most s) → Called most s o (TakeBack k) a s') →
      LentCall most s (TakeBack k) (said a []) s'
  close : {a : Answer} {lent left : List ℕ} → ((o : Opened most s) → Closing most o.nodes lent a left) →
      LentCall most s Close (said a (told a left)) s
  malformed : LentCall most s Misshapen (said Malformed []) s

-- ON THE STATE BY VALUE (`calls`): its arrays, with the live counts as three numbers, are the tables that a host lends
abbrev pub tables_of : Value → Tables
tables_of v =
    tables v.parent v.rank v.rows v.trail v.nodes
    (v.live.entries ∷ v.live.links ∷ v.live.kept ∷ [])

-- an array is as long as its type says
abbrev pub Arrays : Value → Type 0
Arrays v = Sized (tables_of v)

abbrev pub FreshValue : Value → Type 0
FreshValue v = Arrays v × NoneKept most_nodes (state_of v)

abbrev pub CalledOn : Value → Record → Answer → Value → Type 0
CalledOn v r a v' = (o : Opened most_nodes (state_of v)) → Called most_nodes (state_of v) o r a (state_of v')

-- the listing of a closing is the whole array
pub data ValueCall (v : Value) : Record → Said → Value → Type 0 where
  offer : {n : Node} {r : After} → Arrays r.state → CalledOn v (Offer n) r.answer r.state →
      ValueCall v (Offer n) (said r.answer []) r.state
  take_back : {k : ℕ} {r : After} → Arrays r.state → CalledOn v (TakeBack k) r.answer r.state →
      ValueCall v (TakeBack k) (said r.answer []) r.state
  close : {r : Listed} → Arrays r.state → CalledOn v Close r.answer r.state →
      ((o : Opened most_nodes (state_of v)) → Handed longest_listing o.nodes r.listing) →
      ValueCall v Close (said r.answer r.listing) r.state

-- FOR HOSTS IN OTHER LANGUAGES (`tsarovima_c`)
abbrev pub FreshTables : Tables → Type 0
FreshTables x = (was : Tables) × OpenedBy was 0 x

-- what a host reads after a record call: the eight bytes of the answer and, after a record of kind 65, the listing,
-- to the end that it tells
pub record Read : Type 0 where
  pub answer : List ℕ
  pub listing : List ℕ

abbrev pub read : List ℕ → Lent → Read
read bytes is = record {
  answer = take 8 is.answer;
  listing = ite (ℕ_discrete (get_or bytes 0 0) 65) (take (end_of is.listing) is.listing) [];
}

-- whatever is lent beside the tables, with every length right. (A call with a wrong length leaves all as it was, and
-- is no part of a chain)
pub data HostCall : Tables → List ℕ → Read → Tables → Type 0 where
  put : {was is : Lent} {bytes : List ℕ} → RecordedBy was bytes 0 is →
      HostCall was.tables bytes (read bytes is) is.tables

abbrev pub asked : List ℕ → Record
asked bytes = record_at bytes 0
