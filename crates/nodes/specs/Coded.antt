-- A node and a record as numbers: a kind and two fields.
use Rattle.std.specs.Prelude.{◌≡◌, List, [], ◌∷◌, ℕ, ◌<◌, ◌⊎◌, Result, MatchResult, get_or}
use Rattle.nodes.specs.declared.Node.{Node}
use Rattle.nodes.specs.declared.Node.TheVariants.{Iden, Unit, InjL, InjR, Take, Drop, Comp, Case, AssertL, AssertR, Pair, Disconnect, DisconnectHole, Witness, Fail, Word}
use Rattle.nodes.specs.declared.Kind.{Kind}
use Rattle.nodes.specs.declared.Kind.TheVariants.{Iden as iden, Unit as unit, InjL as injl, InjR as injr, Take as take, Drop as drop, Comp as comp, Case as case, AssertL as assertl, AssertR as assertr, Pair as pair, Disconnect as disconnect, DisconnectHole as disconnect_hole, Witness as witness, Fail as fail, Word as word}
use Rattle.nodes.specs.declared.UnknownKind.{UnknownKind}
use Rattle.nodes.specs.declared.Coded.{Coded}
use Rattle.nodes.specs.declared.Record.{Record}
use Rattle.nodes.specs.declared.Record.TheVariants.{Offer, TakeBack, Close, Malformed}
use Rattle.nodes.specs.declared.Asks.{Asks}
use Rattle.nodes.specs.declared.Asks.TheVariants.{Offer as offer, TakeBack as take_back, Close as close, Malformed as malformed}

-- the node of a kind with these fields
abbrev pub named : Kind → ℕ → ℕ → Node
named iden a b = Iden
named unit a b = Unit
named injl a b = InjL a
named injr a b = InjR a
named take a b = Take a
named drop a b = Drop a
named comp a b = Comp a b
named case a b = Case a b
named assertl a b = AssertL a
named assertr a b = AssertR a
named pair a b = Pair a b
named disconnect a b = Disconnect a b
named disconnect_hole a b = DisconnectHole a
named witness a b = Witness
named fail a b = Fail
named word a b = Word a

abbrev pub node_of : Coded → Node
node_of c = named c.kind c.a c.b

-- the kind that a record's first byte names: 1 to 16 in document 01's order. A byte that names none is given the last, and no record that offers has one
unfoldable pub kinds : List Kind
kinds = word ∷ iden ∷ unit ∷ injl ∷ injr ∷ take ∷ drop ∷ comp ∷ case ∷ assertl ∷ assertr ∷ pair ∷ disconnect ∷ disconnect_hole ∷ witness ∷ fail ∷ []

abbrev pub kind_named : ℕ → Kind
kind_named k = get_or kinds k word

-- a node's numbers: its kind's and its two fields
abbrev pub kind_number : Node → ℕ
kind_number Iden = 1
kind_number Unit = 2
kind_number (InjL i) = 3
kind_number (InjR i) = 4
kind_number (Take i) = 5
kind_number (Drop i) = 6
kind_number (Comp i j) = 7
kind_number (Case i j) = 8
kind_number (AssertL i) = 9
kind_number (AssertR i) = 10
kind_number (Pair i j) = 11
kind_number (Disconnect i j) = 12
kind_number (DisconnectHole i) = 13
kind_number Witness = 14
kind_number Fail = 15
kind_number (Word n) = 16

-- the kind that has this number, or the number again if none has it
abbrev pub KindRead : ℕ → Result Kind UnknownKind → Type 0
KindRead number r = MatchResult r (λ kind. (a b : ℕ) → kind_number (named kind a b) ≡ number) (λ e. (e.0 ≡ number) × ((number ≡ 0) ⊎ (16 < number)))

abbrev pub first_field : Node → ℕ
first_field Iden = 0
first_field Unit = 0
first_field (InjL i) = i
first_field (InjR i) = i
first_field (Take i) = i
first_field (Drop i) = i
first_field (Comp i j) = i
first_field (Case i j) = i
first_field (AssertL i) = i
first_field (AssertR i) = i
first_field (Pair i j) = i
first_field (Disconnect i j) = i
first_field (DisconnectHole i) = i
first_field Witness = 0
first_field Fail = 0
first_field (Word n) = n

abbrev pub second_field : Node → ℕ
second_field Iden = 0
second_field Unit = 0
second_field (InjL i) = 0
second_field (InjR i) = 0
second_field (Take i) = 0
second_field (Drop i) = 0
second_field (Comp i j) = j
second_field (Case i j) = j
second_field (AssertL i) = 0
second_field (AssertR i) = 0
second_field (Pair i j) = j
second_field (Disconnect i j) = j
second_field (DisconnectHole i) = 0
second_field Witness = 0
second_field Fail = 0
second_field (Word n) = 0

-- a field that the kind does not use is 0
pub record Regular (c : Coded) : Type 0 where
  pub first : c.a ≡ first_field (node_of c)
  pub second : c.b ≡ second_field (node_of c)

-- what a record asks for, without its numbers
abbrev pub asks : Record → Asks
asks (Offer n) = offer
asks (TakeBack k) = take_back
asks Close = close
asks Malformed = malformed
