-- The loop that joins a row's rules: what is left to join from here leads to what was to be joined from the start.
use mathlib.Core.Path.{◌≡◌, refl, sym, ap, ◌∙◌, subst}
use mathlib.Core.List.{List, [], ◌∷◌, Memᴰ}
use Prim.Native.Nat.{ℕ, suc, ◌+◌, ◌*◌, ◌^◌, ◌≤◌, ◌<◌}
use native.Mathlib.Numerals.{add-one}
use native.Mathlib.Nat.{zero-add}
use native.Mathlib.Omega.{arith}
use lib.ListN.{length, get_or, drop}
use lib.Seq.{drop-cons, drop-length}
use Rattle.classes.specs.Forced.{equal}
use Rattle.classes.specs.Table.{Table, limit}
use Rattle.classes.specs.Columns.{laid}
use Rattle.classes.specs.Merging.{Verdict, Merges}
use Rattle.classes.specs.Merging.Verdict.{fits, clash}
use Rattle.classes.specs.Made.{Made}
use Rattle.classes.specs.Made.Made.{joined}
use Rattle.classes.specs.Promises.{verdict, made_links}
use Rattle.classes.specs.Promises.Run.{here, joins}
use Rattle.std.specs.Prelude.{Result}
use Rattle.classes.specs.declared.context.Clashed.{Clashed}
use Rattle.classes.specs.Forest.{Forest}
use Rattle.classes.proofs.Laws.{made_good, run_forest}
use Rattle.nodes.specs.Layout.{Numbered, says}
use Rattle.combinators.specs.Entered.{Meets}
use Rattle.types.specs.States.{Stops}
use Rattle.combinators.specs.Entered.Meets.{done, next}
use Rattle.types.specs.States.Stops.{here as stops_here, later}
use Rattle.combinators.specs.Entering.{Named, Left}
use Rattle.types.specs.Applying.{Meetable}

get_or_mem : (rs : List Numbered) (i : ℕ) → i < length rs → Memᴰ (get_or rs i (says 0 0 0)) rs
get_or_mem [] i h = absurd (omega arith)
get_or_mem (r ∷ rs) ℕ.zero h = Memᴰ.head refl
get_or_mem (r ∷ rs) (ℕ.suc i) h = Memᴰ.tail (get_or_mem rs i (omega arith))

-- what is left of the rules, by how many it is
pub none_left : (t : Table) (rs : List Numbered) (first : Numbered) (n : ℕ) → Left t rs n first → n ≡ 0 → Meets t rs t
none_left t rs first ℕ.zero l z = l
none_left t rs first (ℕ.suc n) l z = absurd (omega (arith, z))

pub some_left : (t : Table) (rs : List Numbered) (first : Numbered) (n : ℕ) → Left t rs n first → (n ≡ 0 → ⊥) → (n ≡ length rs) × (first ≡ get_or rs 0 (says 0 0 0))
some_left t rs first ℕ.zero l not = absurd (not refl)
some_left t rs first (ℕ.suc n) l not = l

pub record Joins (t₀ : Table) (rs : List Numbered) (t : Table) (pending : List ℕ) (i : ℕ) : Type 0 where
  pub made : Made t
  pub named : Named t.entries rs
  pub few : i ≤ length rs
  pub pending_room : 2 * limit t ≤ length pending
  pub meets : {u : Table} → Meets t (drop i rs) u → Meets t₀ rs u
  pub stops : {k : ℕ} {u : Table} → Stops t (drop i rs) k u → Stops t₀ rs (i + k) u

pub joins_begin : {t : Table} {pending : List ℕ} {rs : List Numbered} → Meetable t pending rs → Joins t rs t pending 0
joins_begin {t} {rs = rs} m =
    record {
      made = m.made;
      named = m.named;
      few = omega arith;
      pending_room = m.pending_room;
      meets = λ d. d;
      stops = λ {k} {u} d. subst (λ (n : ℕ). Stops t rs n u) (sym (zero-add k)) d;
    }

module _ {t₀ : Table} {rs : List Numbered} {t : Table} {pending : List ℕ} {i : ℕ} (j : Joins t₀ rs t pending i) (more : i < length rs) (one other number : ℕ)
    (is : says number one other ≡ get_or rs i (says 0 0 0)) where
  -- the rule's entries are there
  live : (one < t.entries) × (other < t.entries)
  live =
      subst (λ (q : Numbered). (q.rule.one < t.entries) × (q.rule.other < t.entries)) (sym is)
      (j.named (get_or rs i (says 0 0 0)) (get_or_mem rs i more))

  pub one_live : one < t.entries
  one_live = live.0

  pub other_live : other < t.entries
  other_live = live.1

  -- the rules left begin with this one
  left : drop i rs ≡ says number one other ∷ drop (suc i) rs
  left = drop-cons rs i (says 0 0 0) more ∙ ap (λ (q : Numbered). q ∷ drop (suc i) rs) (sym is)

  pub joins_again : {u : Table} {pending' : List ℕ} → Merges t (equal one other ∷ []) fits u → u.entries ≡ t.entries → limit u ≡ limit t → length pending' ≡ length pending →
      Joins t₀ rs u pending' (i + 1)
  joins_again {u} m same long room =
      record {
        made = joined one other j.made one_live other_live m;
        named = subst (λ (e : ℕ). Named e rs) (sym same) j.named;
        few = omega (arith, more);
        pending_room = omega (arith, j.pending_room);
        meets = λ {u = w} d. j.meets (subst (λ (l : List Numbered). Meets t l w) (sym left) (next m (subst (λ (n : ℕ). Meets u (drop n rs) w) (add-one i) d)));
        stops = λ {k} {u = w} d.
            let deeper : Stops t (drop i rs) (suc k) w = subst (λ (l : List Numbered). Stops t l (suc k) w) (sym left) (later m (subst (λ (n : ℕ). Stops u (drop n rs) k w) (add-one i) d)) in
            let sum : i + suc k ≡ i + 1 + k = omega arith in
            subst (λ (n : ℕ). Stops t₀ rs n w) sum (j.stops deeper);
      }

  -- a clash: this is the rule
  pub joins_stop : {u : Table} → Merges t (equal one other ∷ []) clash u → (k : ℕ) × Stops t₀ rs k u × (number ≡ (get_or rs k (says 0 0 0)).number)
  joins_stop {u} m =
      let here : Stops t (drop i rs) 0 u = subst (λ (l : List Numbered). Stops t l 0 u) (sym left) (stops_here m) in
      let sum : i + 0 ≡ i = omega arith in
      (i, subst (λ (n : ℕ). Stops t₀ rs n u) sum (j.stops here), ap (λ (q : Numbered). q.number) is)

  -- the links still fit, whatever the verdict
  pub links_fit : {v : Verdict} {u : Table} → Merges t (equal one other ∷ []) v u → u.links < 2 ^ 16
  links_fit m =
      let f : Forest _ = run_forest (made_good j.made).forest (joins one other here one_live other_live m) in
      omega (arith, f.counted.2, f.room, f.small)

-- nothing is left
pub joins_end : {t₀ : Table} {rs : List Numbered} {t : Table} {pending : List ℕ} {i : ℕ} → Joins t₀ rs t pending i → length rs ≤ i → Meets t₀ rs t
joins_end {rs = rs} {t = t} {i = i} j all =
    let end : i ≡ length rs = omega (arith, j.few) in
    j.meets (subst (λ (l : List Numbered). Meets t l t) (sym (ap (λ (n : ℕ). drop n rs) end ∙ drop-length rs)) done)

-- a join's table, with the links as the code counts them
pub merges_as : (t : Table) (p r rows trail : List ℕ) {a b n : ℕ} {answer j : Result ℕ Clashed} →
    Merges t (equal a b ∷ []) (verdict answer) (laid p r rows trail t.entries (t.links + made_links answer)) → n ≡ made_links answer → answer ≡ j →
    Merges t (equal a b ∷ []) (verdict j) (laid p r rows trail t.entries (t.links + n))
merges_as t p r rows trail {a} {b} {n} {answer} {j} m made is =
    subst (λ (x : Result ℕ Clashed). Merges t (equal a b ∷ []) (verdict x) (laid p r rows trail t.entries (t.links + n))) is
    (subst (λ (k : ℕ). Merges t (equal a b ∷ []) (verdict answer) (laid p r rows trail t.entries (t.links + k))) (sym made) m)
