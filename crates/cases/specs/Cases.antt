-- The lists that document 01 marks P, in "Lists to try": one table, in its order, and one statement. Every list here ends with a closing, which shows its types.
use Rattle.std.specs.Prelude.{◌≡◌, ℕ}
use mathlib.Core.List.{List, [], ◌∷◌, map, Memᴰ}
use Rattle.nodes.specs.declared.Node.{Node}
use Rattle.nodes.specs.declared.Node.TheVariants.{Iden, Unit, InjL, Take, Comp, Case as CaseOf, Pair, Disconnect, DisconnectHole, Witness, Word}
use Rattle.nodes.specs.declared.Record.{Record}
use Rattle.nodes.specs.declared.Record.TheVariants.{Offer, Close}
use Rattle.types.specs.Answers.{Numbers, numbered, numbers}
use Rattle.types.specs.Closings.{no_listing}
use Rattle.types.specs.Runs.{Runs}
use Rattle.types.specs.declared.Answer.{Answer}

-- records; what each is answered, as document 01's code, first and second; and what the last of them lists
pub record Case : Type 0 where
  pub records : List Record
  pub answers : List Numbers
  pub listing : List ℕ

abbrev pub case : List Record → List Numbers → List ℕ → Case
case rs ans l = record { records = rs; answers = ans; listing = l }

-- the listings: nodes, types, offset of types, offset of arrows; a triple for each type; source and target of each node
unfoldable pub table : List Case
table =
    -- empty, close: 0, 0, 0
    case
    (Close ∷ [])
    (numbered 0 0 0 ∷ [])
    (0 ∷ 0 ∷ 4 ∷ 4 ∷ [])
    -- iden: 1 to 1
    ∷ case
    (Offer Iden ∷ Close ∷ [])
    (numbered 0 0 0 ∷ numbered 0 1 1 ∷ [])
    (1 ∷ 1 ∷ 4 ∷ 7 ∷ 0 ∷ 0 ∷ 0 ∷ 0 ∷ 0 ∷ [])
    -- witness: 1 to 1
    ∷ case
    (Offer Witness ∷ Close ∷ [])
    (numbered 0 0 0 ∷ numbered 0 1 1 ∷ [])
    (1 ∷ 1 ∷ 4 ∷ 7 ∷ 0 ∷ 0 ∷ 0 ∷ 0 ∷ 0 ∷ [])
    -- unit; injl 0: node 1 is 1 to 1 + 1
    ∷ case
    (Offer Unit ∷ Offer (InjL 0) ∷ Close ∷ [])
    (numbered 0 0 0 ∷ numbered 0 1 0 ∷ numbered 0 2 2 ∷ [])
    (2 ∷ 2 ∷ 4 ∷ 10 ∷ 0 ∷ 0 ∷ 0 ∷ 1 ∷ 0 ∷ 0 ∷ 0 ∷ 0 ∷ 0 ∷ 1 ∷ [])
    -- unit; comp 0 0: 1 join
    ∷ case
    (Offer Unit ∷ Offer (Comp 0 0) ∷ Close ∷ [])
    (numbered 0 0 0 ∷ numbered 0 1 1 ∷ numbered 0 2 1 ∷ [])
    (2 ∷ 1 ∷ 4 ∷ 7 ∷ 0 ∷ 0 ∷ 0 ∷ 0 ∷ 0 ∷ 0 ∷ 0 ∷ [])
    -- on the same line: unit; pair 0 0: 0 joins
    ∷ case
    (Offer Unit ∷ Offer (Pair 0 0) ∷ Close ∷ [])
    (numbered 0 0 0 ∷ numbered 0 1 0 ∷ numbered 0 2 2 ∷ [])
    (2 ∷ 2 ∷ 4 ∷ 10 ∷ 0 ∷ 0 ∷ 0 ∷ 2 ∷ 0 ∷ 0 ∷ 0 ∷ 0 ∷ 0 ∷ 1 ∷ [])
    -- unit; case 0 0: 4 joins; whole listing 2 4 4 16, 0 0 0, 2 0 0, 1 0 0, 2 2 0, 1 0, 3 0
    ∷ case
    (Offer Unit ∷ Offer (CaseOf 0 0) ∷ Close ∷ [])
    (numbered 0 0 0 ∷ numbered 0 1 4 ∷ numbered 0 2 4 ∷ [])
    (2 ∷ 4 ∷ 4 ∷ 16 ∷ 0 ∷ 0 ∷ 0 ∷ 2 ∷ 0 ∷ 0 ∷ 1 ∷ 0 ∷ 0 ∷ 2 ∷ 2 ∷ 0 ∷ 1 ∷ 0 ∷ 3 ∷ 0 ∷ [])
    -- word 0; comp 0 0: clash, rule 1
    ∷ case
    (Offer (Word 0) ∷ Offer (Comp 0 0) ∷ Close ∷ [])
    (numbered 0 0 0 ∷ numbered 4 1 0 ∷ numbered 0 1 2 ∷ [])
    (1 ∷ 2 ∷ 4 ∷ 10 ∷ 0 ∷ 0 ∷ 0 ∷ 1 ∷ 0 ∷ 0 ∷ 0 ∷ 1 ∷ [])
    -- iden; take 0; pair 0 1: all kept, closing gives 5 with node 0
    ∷ case
    (Offer Iden ∷ Offer (Take 0) ∷ Offer (Pair 0 1) ∷ Close ∷ [])
    (numbered 0 0 0 ∷ numbered 0 1 0 ∷ numbered 0 2 1 ∷ numbered 5 0 0 ∷ [])
    no_listing
    -- the last, then unit; injl 3; comp 4 0: clash, rule 1
    ∷ case
    (Offer Iden ∷ Offer (Take 0) ∷ Offer (Pair 0 1) ∷ Close ∷ Offer Unit ∷ Offer (InjL 3) ∷ Offer (Comp 4 0) ∷ Close ∷ [])
    (numbered 0 0 0 ∷ numbered 0 1 0 ∷ numbered 0 2 1 ∷ numbered 5 0 0 ∷ numbered 0 3 0 ∷ numbered 0 4 0 ∷ numbered 4 1 0 ∷ numbered 5 0 0 ∷ [])
    no_listing
    -- iden; disconnect 0 (kind 13): node 1 is 1 to 2^256 × 1
    ∷ case
    (Offer Iden ∷ Offer (DisconnectHole 0) ∷ Close ∷ [])
    (numbered 0 0 0 ∷ numbered 0 1 4 ∷ numbered 0 2 11 ∷ [])
    (2 ∷ 11 ∷ 4 ∷ 37 ∷ 0 ∷ 0 ∷ 0 ∷ 1 ∷ 0 ∷ 0 ∷ 2 ∷ 1 ∷ 1 ∷ 2 ∷ 2 ∷ 2 ∷ 2 ∷ 3 ∷ 3 ∷ 2 ∷ 4 ∷ 4 ∷ 2 ∷ 5 ∷ 5 ∷ 2 ∷ 6 ∷ 6 ∷ 2 ∷ 7 ∷ 7 ∷ 2 ∷ 8 ∷ 8 ∷ 2 ∷ 9 ∷ 0 ∷ 10 ∷ 10 ∷ 0 ∷ 10 ∷ [])
    -- unit; unit; disconnect 0 1: clash, rule 7
    ∷ case
    (Offer Unit ∷ Offer Unit ∷ Offer (Disconnect 0 1) ∷ Close ∷ [])
    (numbered 0 0 0 ∷ numbered 0 1 0 ∷ numbered 4 7 0 ∷ numbered 0 2 1 ∷ [])
    (2 ∷ 1 ∷ 4 ∷ 7 ∷ 0 ∷ 0 ∷ 0 ∷ 0 ∷ 0 ∷ 0 ∷ 0 ∷ [])
    -- on the same line: word 8; disconnect 0: rule 6
    ∷ case
    (Offer (Word 8) ∷ Offer (DisconnectHole 0) ∷ Close ∷ [])
    (numbered 0 0 0 ∷ numbered 4 6 0 ∷ numbered 0 1 10 ∷ [])
    (1 ∷ 10 ∷ 4 ∷ 34 ∷ 0 ∷ 0 ∷ 0 ∷ 1 ∷ 0 ∷ 0 ∷ 2 ∷ 1 ∷ 1 ∷ 2 ∷ 2 ∷ 2 ∷ 2 ∷ 3 ∷ 3 ∷ 2 ∷ 4 ∷ 4 ∷ 2 ∷ 5 ∷ 5 ∷ 2 ∷ 6 ∷ 6 ∷ 2 ∷ 7 ∷ 7 ∷ 2 ∷ 8 ∷ 8 ∷ 0 ∷ 9 ∷ [])
    -- word 0; take 0; word 1; take 2; case 1 3: rule 5
    ∷ case
    (Offer (Word 0) ∷ Offer (Take 0) ∷ Offer (Word 1) ∷ Offer (Take 2) ∷ Offer (CaseOf 1 3) ∷ Close ∷ [])
    (numbered 0 0 0 ∷ numbered 0 1 0 ∷ numbered 0 2 0 ∷ numbered 0 3 0 ∷ numbered 4 5 0 ∷ numbered 0 4 4 ∷ [])
    (4 ∷ 4 ∷ 4 ∷ 16 ∷ 0 ∷ 0 ∷ 0 ∷ 1 ∷ 0 ∷ 0 ∷ 2 ∷ 0 ∷ 0 ∷ 2 ∷ 1 ∷ 1 ∷ 0 ∷ 1 ∷ 2 ∷ 1 ∷ 0 ∷ 3 ∷ 2 ∷ 3 ∷ [])
    ∷ []

-- the last of some listings; nothing where there is none
abbrev pub last_of : List (List ℕ) → List ℕ
last_of [] = []
last_of (l ∷ []) = l
last_of (l ∷ m ∷ more) = last_of (m ∷ more)

-- the records, put to a fresh state that keeps at most 1,024 nodes, are answered so, and the last of them lists this
pub record Holds (c : Case) : Type 0 where
  pub answers : List Answer
  pub listings : List (List ℕ)
  pub last : List Node
  pub runs : Runs 1024 [] c.records answers listings last
  pub answered : map numbers answers ≡ c.answers
  pub listed : last_of listings ≡ c.listing

-- every case of a table holds
abbrev pub AllHold : List Case → Type 0
AllHold cases = (c : Case) → Memᴰ c cases → Holds c
