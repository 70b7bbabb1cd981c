-- A record has one node's numbers: no second answer to `node_at`.
use mathlib.Core.Path.{◌≡◌, refl, sym, ap, ◌∙◌}
use mathlib.Core.List.{List}
use Prim.Native.Nat.{ℕ}
use Rattle.nodes.specs.Records.{record_at}
use Rattle.nodes.specs.Coded.{named, node_of, first_field, second_field, Regular}
use Rattle.nodes.specs.declared.Node.{Node}
use Rattle.nodes.specs.declared.Node.TheVariants.{Iden, Unit, InjL, InjR, Take, Drop, Comp, Case, AssertL, AssertR, Pair, Disconnect, DisconnectHole, Witness, Fail, Word}
use Rattle.nodes.specs.declared.Kind.{Kind}
use Rattle.nodes.specs.declared.Kind.TheVariants.{Iden as iden, Unit as unit, InjL as injl, InjR as injr, Take as take, Drop as drop, Comp as comp, Case as case, AssertL as assertl, AssertR as assertr, Pair as pair, Disconnect as disconnect, DisconnectHole as disconnect_hole, Witness as witness, Fail as fail, Word as word}
use Rattle.nodes.specs.declared.Coded.{Coded}
use Rattle.nodes.specs.declared.Record.TheVariants.{Offer}

abbrev kind_of : Node → Kind
kind_of Iden = iden
kind_of Unit = unit
kind_of (InjL i) = injl
kind_of (InjR i) = injr
kind_of (Take i) = take
kind_of (Drop i) = drop
kind_of (Comp i j) = comp
kind_of (Case i j) = case
kind_of (AssertL i) = assertl
kind_of (AssertR i) = assertr
kind_of (Pair i j) = pair
kind_of (Disconnect i j) = disconnect
kind_of (DisconnectHole i) = disconnect_hole
kind_of Witness = witness
kind_of Fail = fail
kind_of (Word i) = word

kind_of_named : (k : Kind) (a b : ℕ) → kind_of (named k a b) ≡ k
kind_of_named iden a b = refl
kind_of_named unit a b = refl
kind_of_named injl a b = refl
kind_of_named injr a b = refl
kind_of_named take a b = refl
kind_of_named drop a b = refl
kind_of_named comp a b = refl
kind_of_named case a b = refl
kind_of_named assertl a b = refl
kind_of_named assertr a b = refl
kind_of_named pair a b = refl
kind_of_named disconnect a b = refl
kind_of_named disconnect_hole a b = refl
kind_of_named witness a b = refl
kind_of_named fail a b = refl
kind_of_named word a b = refl

-- a node has one kind and two fields
same_numbers : {c d : Coded} → Regular c → Regular d → node_of c ≡ node_of d → c ≡ d
same_numbers {c} {d} p q is =
    let kind : c.kind ≡ d.kind = sym (kind_of_named c.kind c.a c.b) ∙ ap kind_of is ∙ kind_of_named d.kind d.a d.b in
    let first : c.a ≡ d.a = p.first ∙ ap first_field is ∙ sym q.first in
    let second : c.b ≡ d.b = p.second ∙ ap second_field is ∙ sym q.second in
    λ i. record { kind = kind i; a = first i; b = second i }

pub one_node_at : (bytes : List ℕ) (at : ℕ) {c d : Coded} → (record_at bytes at ≡ Offer (node_of c)) × Regular c → (record_at bytes at ≡ Offer (node_of d)) × Regular d → c ≡ d
one_node_at bytes at {c} {d} (is, p) (also, q) = let e : Offer (node_of c) ≡ Offer (node_of d) = sym is ∙ also in let n : node_of c ≡ node_of d = cc in same_numbers p q n
