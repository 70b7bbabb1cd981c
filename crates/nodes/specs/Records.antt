-- Eight bytes to a record: document 01, "State and records".
use Rattle.std.specs.Prelude.{List, [], ◌∷◌, ℕ, ◌+◌, ◌*◌, get_or}
use Rattle.std.proofs.Math.Logic.{ite}
use Rattle.std.proofs.Math.Decide.{ℕ_discrete, dec_le}
use Rattle.nodes.specs.declared.Node.{Node}
use Rattle.nodes.specs.declared.Node.TheVariants.{Iden, Unit, InjL, InjR, Take, Drop, Comp, Case, AssertL, AssertR, Pair, Disconnect, DisconnectHole, Witness, Fail, Word}
use Rattle.nodes.specs.declared.Record.{Record}
use Rattle.nodes.specs.declared.Record.TheVariants.{Offer, TakeBack, Close, Malformed}

-- a field that the kind does not use is zero, or the record is malformed
abbrev pub spare : ℕ → Record → Record
spare field r = ite (ℕ_discrete field 0) r Malformed

-- what the fields a and b are to a kind: nothing, one child, two children, or a word's n
abbrev pub no_child : Node → ℕ → ℕ → Record
no_child n a b = spare a (spare b (Offer n))

abbrev pub one_child : (ℕ → Node) → ℕ → ℕ → Record
one_child n a b = spare b (Offer (n a))

abbrev pub two_children : (ℕ → ℕ → Node) → ℕ → ℕ → Record
two_children n a b = Offer (n a b)

abbrev pub word : ℕ → ℕ → Record
word a b = ite (dec_le a 31) (spare b (Offer (Word a))) Malformed

abbrev pub unknown : ℕ → ℕ → Record
unknown a b = Malformed

-- kinds 0 to 16
unfoldable pub nodes : List (ℕ → ℕ → Record)
nodes =
    unknown
    ∷ no_child Iden
    ∷ no_child Unit
    ∷ one_child InjL
    ∷ one_child InjR
    ∷ one_child Take
    ∷ one_child Drop
    ∷ two_children Comp
    ∷ two_children Case
    ∷ one_child AssertL
    ∷ one_child AssertR
    ∷ two_children Pair
    ∷ two_children Disconnect
    ∷ one_child DisconnectHole
    ∷ no_child Witness
    ∷ no_child Fail
    ∷ word
    ∷ []

-- kinds above 16: 64 takes back, 65 closes, no other is known
abbrev pub other : ℕ → ℕ → ℕ → Record
other kind a b = ite (ℕ_discrete kind 64) (spare b (TakeBack a)) (ite (ℕ_discrete kind 65) (spare a (spare b Close)) Malformed)

abbrev pub by_kind : ℕ → ℕ → ℕ → Record
by_kind kind a b = get_or nodes kind (other kind) a b

-- a two-byte number, little-endian, at an offset
abbrev pub two_bytes : List ℕ → ℕ → ℕ
two_bytes bytes i = get_or bytes i 0 + 256 * get_or bytes (i + 1) 0

-- kind, zero, a, b, zero
abbrev pub record_at : List ℕ → ℕ → Record
record_at bytes i =
    spare (get_or bytes (i + 1) 0)
    (spare (two_bytes bytes (i + 6))
    (by_kind (get_or bytes i 0) (two_bytes bytes (i + 2)) (two_bytes bytes (i + 4))))
