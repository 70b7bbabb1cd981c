-- A record that offers: its kind, and its node.
use mathlib.Core.Path.{◌≡◌, refl, sym, ap, ◌∙◌}
use mathlib.Core.Logic.{⊎_elim}
use mathlib.Core.List.{List}
use Prim.Native.Nat.{ℕ, ◌+◌}
use native.Mathlib.Omega.{arith}
use lib.ListN.{get_or, get_or-eq_default}
use Rattle.nodes.specs.Records.{two_bytes, record_at}
use Rattle.std.specs.Prelude.{Result, Ok, Err}
use Rattle.std.specs.Result.{result_unwrap_or}
use Rattle.nodes.specs.Coded.{kinds, KindRead, kind_named, kind_number, named, node_of, Regular, asks}
use Rattle.nodes.specs.declared.Kind.TheVariants.{Iden as iden, Unit as unit, InjL as injl, InjR as injr, Take as take, Drop as drop, Comp as comp, Case as case, AssertL as assertl, AssertR as assertr, Pair as pair, Disconnect as disconnect, DisconnectHole as disconnect_hole, Witness as witness, Fail as fail, Word as word}
use Rattle.nodes.specs.declared.Kind.{Kind}
use Rattle.nodes.specs.declared.Coded.{Coded}
use Rattle.nodes.specs.declared.Record.TheVariants.{Offer}
use Rattle.nodes.specs.declared.Asks.TheVariants.{Offer as offer}
use Rattle.nodes.specs.declared.UnknownKind.{UnknownKind}
use Rattle.nodes.proofs.Asked.{asked, asked_offer}

-- the kind read from its number is the one named
kind_again : (kind : Kind) → kind ≡ kind_named (kind_number (named kind 0 0))
unfolding kinds
kind_again iden = refl
kind_again unit = refl
kind_again injl = refl
kind_again injr = refl
kind_again take = refl
kind_again drop = refl
kind_again comp = refl
kind_again case = refl
kind_again assertl = refl
kind_again assertr = refl
kind_again pair = refl
kind_again disconnect = refl
kind_again disconnect_hole = refl
kind_again witness = refl
kind_again fail = refl
kind_again word = refl

pub kind_is : (number : ℕ) (r : Result Kind UnknownKind) → KindRead number r → result_unwrap_or r word ≡ kind_named number
unfolding kinds
kind_is number (Ok kind) is = kind_again kind ∙ ap kind_named (is 0 0)
kind_is number (Err e) (same, out) = ⊎_elim (λ zero. rw zero refl) (λ many. sym (get_or-eq_default kinds word {n = number} (omega (arith, many)))) out

module _ (bytes : List ℕ) (at : ℕ) where
  -- the node of a record that offers one
  pub offered : {kind : Kind} {a b : ℕ} → asks (record_at bytes at) ≡ offer → kind ≡ kind_named (get_or bytes at 0) → a ≡ two_bytes bytes (at + 2) → b ≡ two_bytes bytes (at + 4) →
      let c : Coded = record { kind = kind; a = a; b = b } in (record_at bytes at ≡ Offer (node_of c)) × Regular c
  offered offers is_kind is_a is_b = let (is, regular) = asked_offer (asked bytes at) offers in rw (is_kind, is_a, is_b) (is, regular)
