-- What eight bytes can ask, by their kind: a proper node in regular numbers, a take_back, a closing of kind 65 alone; or they are malformed.
use mathlib.Core.Path.{◌≡◌, refl, sym, ap, ◌∙◌, subst}
use mathlib.Core.Logic.{by_cases, if_pos, if_neg}
use mathlib.Core.List.{List, [], ◌∷◌}
use Prim.Native.Nat.{ℕ, zero, suc, ◌+◌, ◌≤◌, ◌<◌}
use native.Mathlib.Decide.{ℕ_discrete, dec_le, dec_lt}
use native.Mathlib.Omega.{arith}
use lib.ListN.{length, get_or, get_or-eq_default}
use Rattle.nodes.specs.Layout.{Proper}
use Rattle.nodes.specs.Records.{spare, no_child, one_child, word, nodes, other, by_kind, two_bytes, record_at}
use Rattle.nodes.specs.Coded.{kinds, kind_named, node_of, first_field, second_field, Regular, asks}
use Rattle.nodes.specs.declared.Coded.{Coded}
use Rattle.nodes.specs.declared.Node.{Node}
use Rattle.nodes.specs.declared.Node.TheVariants.{Iden, Unit, InjL, InjR, Take, Drop, Comp, Case, AssertL, AssertR, Pair, Disconnect, DisconnectHole, Witness, Fail, Word}
use Rattle.nodes.specs.declared.Record.{Record}
use Rattle.nodes.specs.declared.Record.TheVariants.{Offer, TakeBack, Close, Malformed}
use Rattle.nodes.specs.declared.Asks.TheVariants.{Offer as offer, TakeBack as take_back, Close as close, Malformed as misshapen}

-- the numbers that a record's bytes have
abbrev pub numbers : ℕ → ℕ → ℕ → Coded
numbers kind a b = record { kind = kind_named kind; a = a; b = b }

pub data Asked (kind a b : ℕ) : Record → Type 0 where
  malformed : Asked kind a b Malformed
  offers : {n : Node} → node_of (numbers kind a b) ≡ n → Regular (numbers kind a b) → Proper n → (kind ≡ 65 → ⊥) → Asked kind a b (Offer n)
  takes_back : (kind ≡ 65 → ⊥) → Asked kind a b (TakeBack a)
  closes : kind ≡ 65 → Asked kind a b Close

-- a field that must be zero
spared : {kind a b : ℕ} (field : ℕ) (r : Record) → (field ≡ 0 → Asked kind a b r) → Asked kind a b (spare field r)
spared {kind} {a} {b} field r s = by_cases (ℕ_discrete field 0)
    (λ h. subst (Asked kind a b) (sym (if_pos (ℕ_discrete field 0) h r Malformed)) (s h))
    (λ h. subst (Asked kind a b) (sym (if_neg (ℕ_discrete field 0) h r Malformed)) malformed)

-- the kinds above 16
other_asks : (kind a b : ℕ) → Asked kind a b (other kind a b)
other_asks kind a b = by_cases (ℕ_discrete kind 64)
    (λ h. subst (Asked kind a b) (sym (if_pos (ℕ_discrete kind 64) h _ _)) (spared b (TakeBack a) (λ z. takes_back (λ e. omega (arith, e, h)))))
    (λ h. subst (Asked kind a b) (sym (if_neg (ℕ_discrete kind 64) h _ _))
    (by_cases (ℕ_discrete kind 65)
    (λ g. subst (Asked kind a b) (sym (if_pos (ℕ_discrete kind 65) g _ _)) (spared a (spare b Close) (λ z. spared b Close (λ y. closes g))))
    (λ g. subst (Asked kind a b) (sym (if_neg (ℕ_discrete kind 65) g _ _)) malformed)))

-- the kinds of nodes: how a kind's node uses its fields
module _ (kind : ℕ) (low : kind < 17) where
  no_closing : kind ≡ 65 → ⊥
  no_closing e = omega (arith, e, low)

  plain : (n : Node) → ((a b : ℕ) → node_of (numbers kind a b) ≡ n) → first_field n ≡ 0 → second_field n ≡ 0 → Proper n → (a b : ℕ) → Asked kind a b (no_child n a b)
  plain n is no_first no_second p a b =
      spared a (spare b (Offer n)) (λ y. spared b (Offer n) (λ z.
      offers (is a b) (record { first = y ∙ sym (ap first_field (is a b) ∙ no_first); second = z ∙ sym (ap second_field (is a b) ∙ no_second) }) p no_closing))

  one : (f : ℕ → Node) → ((a b : ℕ) → node_of (numbers kind a b) ≡ f a) → ((i : ℕ) → first_field (f i) ≡ i) → ((i : ℕ) → second_field (f i) ≡ 0) → ((i : ℕ) → Proper (f i)) → (a b : ℕ) → Asked kind a b (one_child f a b)
  one f is first no_second p a b =
      spared b (Offer (f a)) (λ z. offers (is a b) (record { first = sym (ap first_field (is a b) ∙ first a); second = z ∙ sym (ap second_field (is a b) ∙ no_second a) }) (p a) no_closing)

  two : (f : ℕ → ℕ → Node) → ((a b : ℕ) → node_of (numbers kind a b) ≡ f a b) → ((i j : ℕ) → first_field (f i j) ≡ i) → ((i j : ℕ) → second_field (f i j) ≡ j) → ((i j : ℕ) → Proper (f i j)) → (a b : ℕ) → Asked kind a b (Offer (f a b))
  two f is first second p a b = offers (is a b) (record { first = sym (ap first_field (is a b) ∙ first a b); second = sym (ap second_field (is a b) ∙ second a b) }) (p a b) no_closing

  worded : ((a b : ℕ) → node_of (numbers kind a b) ≡ Word a) → (a b : ℕ) → Asked kind a b (word a b)
  worded is a b = by_cases (dec_le a 31)
      (λ h. subst (Asked kind a b) (sym (if_pos (dec_le a 31) h _ _))
      (spared b (Offer (Word a)) (λ z. offers (is a b) (record { first = sym (ap first_field (is a b)); second = z ∙ sym (ap second_field (is a b)) }) h no_closing)))
      (λ h. subst (Asked kind a b) (sym (if_neg (dec_le a 31) h _ _)) malformed)

-- a list of kinds, the first with this number
abbrev Fields : Type 0
Fields = ℕ → ℕ → Record

data Each : ℕ → List Fields → Type 0 where
  none : {k : ℕ} → Each k []
  more : {k : ℕ} {f : Fields} {fs : List Fields} → ((a b : ℕ) → Asked k a b (f a b)) → Each (suc k) fs → Each k (f ∷ fs)

each_at : {first : ℕ} {fs : List Fields} (d : Fields) → Each first fs → (k : ℕ) → k < length fs → (a b : ℕ) → Asked (first + k) a b (get_or fs k d a b)
each_at d none k h a b = absurd (omega (arith, h))
each_at {first} d (more {f = f} e es) zero h a b = let here : first ≡ first + 0 = omega arith in subst (λ (k : ℕ). Asked k a b (f a b)) here (e a b)
each_at {first} d (more {fs = fs} e es) (suc k) h a b =
    let further : suc first + k ≡ first + suc k = omega arith in
    subst (λ (n : ℕ). Asked n a b (get_or fs k d a b)) further (each_at d es k (omega (arith, h)) a b)

-- a node that is no word is proper
small : 0 ≤ 31
small = omega arith

nodes_ask : Each 0 nodes
unfolding nodes kinds
nodes_ask =
    more (λ a b. malformed)
    (more (plain 1 (omega arith) Iden (λ a b. refl) refl refl small)
    (more (plain 2 (omega arith) Unit (λ a b. refl) refl refl small)
    (more (one 3 (omega arith) InjL (λ a b. refl) (λ i. refl) (λ i. refl) (λ i. small))
    (more (one 4 (omega arith) InjR (λ a b. refl) (λ i. refl) (λ i. refl) (λ i. small))
    (more (one 5 (omega arith) Take (λ a b. refl) (λ i. refl) (λ i. refl) (λ i. small))
    (more (one 6 (omega arith) Drop (λ a b. refl) (λ i. refl) (λ i. refl) (λ i. small))
    (more (two 7 (omega arith) Comp (λ a b. refl) (λ i j. refl) (λ i j. refl) (λ i j. small))
    (more (two 8 (omega arith) Case (λ a b. refl) (λ i j. refl) (λ i j. refl) (λ i j. small))
    (more (one 9 (omega arith) AssertL (λ a b. refl) (λ i. refl) (λ i. refl) (λ i. small))
    (more (one 10 (omega arith) AssertR (λ a b. refl) (λ i. refl) (λ i. refl) (λ i. small))
    (more (two 11 (omega arith) Pair (λ a b. refl) (λ i j. refl) (λ i j. refl) (λ i j. small))
    (more (two 12 (omega arith) Disconnect (λ a b. refl) (λ i j. refl) (λ i j. refl) (λ i j. small))
    (more (one 13 (omega arith) DisconnectHole (λ a b. refl) (λ i. refl) (λ i. refl) (λ i. small))
    (more (plain 14 (omega arith) Witness (λ a b. refl) refl refl small)
    (more (plain 15 (omega arith) Fail (λ a b. refl) refl refl small)
    (more (worded 16 (omega arith) (λ a b. refl))
    none))))))))))))))))

seventeen : length nodes ≡ 17
unfolding nodes
seventeen = refl

kind_asks : (kind a b : ℕ) → Asked kind a b (by_kind kind a b)
kind_asks kind a b = by_cases (dec_lt kind 17)
    (λ low.
    let from_zero : 0 + kind ≡ kind = omega arith in
    subst (λ (k : ℕ). Asked k a b (by_kind kind a b)) from_zero (each_at (other kind) nodes_ask kind (omega (arith, low, seventeen)) a b))
    (λ high.
    let past : get_or nodes kind (other kind) ≡ other kind = get_or-eq_default nodes (other kind) {n = kind} (omega (arith, high, seventeen)) in
    subst (λ (f : Fields). Asked kind a b (f a b)) (sym past) (other_asks kind a b))

pub asked : (bytes : List ℕ) (i : ℕ) → Asked (get_or bytes i 0) (two_bytes bytes (i + 2)) (two_bytes bytes (i + 4)) (record_at bytes i)
asked bytes i =
    let kind = get_or bytes i 0 in
    let inner = by_kind kind (two_bytes bytes (i + 2)) (two_bytes bytes (i + 4)) in
    spared (get_or bytes (i + 1) 0) (spare (two_bytes bytes (i + 6)) inner) (λ y. spared (two_bytes bytes (i + 6)) inner (λ z. kind_asks kind (two_bytes bytes (i + 2)) (two_bytes bytes (i + 4))))

-- so a node that is offered is proper
pub asked_proper : {kind a b : ℕ} {r : Record} → Asked kind a b r → (n : Node) → r ≡ Offer n → Proper n
asked_proper malformed n e = let z : ◌≡◌ {A = ℕ} 0 1 = cc in absurd (omega arith)
asked_proper (offers {n = m} is regular p h) n e = let q : m ≡ n = cc in subst Proper q p
asked_proper (takes_back h) n e = let z : ◌≡◌ {A = ℕ} 0 1 = cc in absurd (omega arith)
asked_proper (closes h) n e = let z : ◌≡◌ {A = ℕ} 0 1 = cc in absurd (omega arith)

-- what a record is, by what it asks for
pub asked_offer : {kind a b : ℕ} {r : Record} → Asked kind a b r → asks r ≡ offer → (r ≡ Offer (node_of (numbers kind a b))) × Regular (numbers kind a b)
asked_offer malformed e = let z : ◌≡◌ {A = ℕ} 0 1 = cc in absurd (omega arith)
asked_offer (offers is regular p h) e = (ap Offer (sym is), regular)
asked_offer (takes_back h) e = let z : ◌≡◌ {A = ℕ} 0 1 = cc in absurd (omega arith)
asked_offer (closes h) e = let z : ◌≡◌ {A = ℕ} 0 1 = cc in absurd (omega arith)

pub asked_take_back : {kind a b : ℕ} {r : Record} → Asked kind a b r → asks r ≡ take_back → r ≡ TakeBack a
asked_take_back malformed e = let z : ◌≡◌ {A = ℕ} 0 1 = cc in absurd (omega arith)
asked_take_back (offers is regular p h) e = let z : ◌≡◌ {A = ℕ} 0 1 = cc in absurd (omega arith)
asked_take_back (takes_back h) e = refl
asked_take_back (closes h) e = let z : ◌≡◌ {A = ℕ} 0 1 = cc in absurd (omega arith)

pub asked_close : {kind a b : ℕ} {r : Record} → Asked kind a b r → asks r ≡ close → r ≡ Close
asked_close malformed e = let z : ◌≡◌ {A = ℕ} 0 1 = cc in absurd (omega arith)
asked_close (offers is regular p h) e = let z : ◌≡◌ {A = ℕ} 0 1 = cc in absurd (omega arith)
asked_close (takes_back h) e = let z : ◌≡◌ {A = ℕ} 0 1 = cc in absurd (omega arith)
asked_close (closes h) e = refl

pub asked_malformed : {kind a b : ℕ} {r : Record} → Asked kind a b r → asks r ≡ misshapen → r ≡ Malformed
asked_malformed malformed e = refl
asked_malformed (offers is regular p h) e = let z : ◌≡◌ {A = ℕ} 0 1 = cc in absurd (omega arith)
asked_malformed (takes_back h) e = let z : ◌≡◌ {A = ℕ} 0 1 = cc in absurd (omega arith)
asked_malformed (closes h) e = let z : ◌≡◌ {A = ℕ} 0 1 = cc in absurd (omega arith)
