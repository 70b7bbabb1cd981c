-- What a host lends: looked at, cleared, opened, and with its counts.
use mathlib.Core.Path.{◌≡◌, sym, ap, ◌∙◌, subst, subst₂}
use mathlib.Core.Bool.{false}
use mathlib.Core.List.{List, [], ◌∷◌}
use Prim.Native.Nat.{ℕ, ◌*◌, ◌^◌, ◌≤◌, ◌<◌}
use native.Mathlib.Omega.{arith}
use lib.ListN.{length, replicate, length-replicate}
use Rattle.classes.specs.Table.{fresh}
use Rattle.classes.specs.Columns.{laid}
use Rattle.nodes.specs.Layout.{standing}
use Rattle.combinators.specs.Entered.{entered}
use Rattle.types.specs.Limits.{most_nodes, most_entries, nodes_long}
use Rattle.types.specs.States.{State, state, Opened}
use Rattle.types.specs.Lent.{held_by}
use Rattle.types.specs.declared.state.State.{State as Lending}
use Rattle.types.proofs.Begun.{opened_first}
use Rattle.runs.specs.Putting.{Recorded, Puts}
use Rattle.tsarovima_c.specs.Lent.{tables, state_of, Denies, Sized, OpenedBy, Lent, lent, Long, RecordedBy}

-- a flag that is written out says what holds
pub admits : {P : Type 0} → P → Denies false P
admits h = (λ e. let z : ◌≡◌ {A = ℕ} 0 1 = cc in absurd (omega arith), λ e. h)

blank : (m k : ℕ) {l : List ℕ} → l ≡ replicate m 0 → m ≡ k → replicate k 0 ≡ l
blank m k is same = sym (is ∙ ap (λ (i : ℕ). replicate i 0) same)

-- cleared tables that were opened are a fresh state
fresh_opened : (rows ranks links numbers : ℕ) (q : List ℕ) {p r t n : List ℕ} {e j kept : ℕ} → most_entries ≤ rows → rows < 2 ^ 16 → ranks ≡ rows → links ≡ 3 * rows → numbers ≡ nodes_long → kept ≡ 0 →
    laid p (replicate rows 0) q (replicate (3 * rows) 0) e j ≡ entered (fresh rows) standing → r ≡ replicate ranks 0 → t ≡ replicate links 0 → n ≡ replicate numbers 0 →
    (o : Opened most_nodes (state (laid p r q t e j) n kept)) × (o.nodes ≡ [])
fresh_opened rows ranks links numbers q {p} {r} {t} {n} {e} {j} {kept} wide small hr hl hn none is er et en =
    subst (λ (x : List ℕ). (o : Opened most_nodes (state (laid p x q t e j) n kept)) × (o.nodes ≡ [])) (blank ranks rows er hr)
    (subst₂ (λ (x y : List ℕ). (o : Opened most_nodes (state (laid p (replicate rows 0) q x e j) y kept)) × (o.nodes ≡ []))
    (blank links (3 * rows) et hl) (blank numbers nodes_long en hn)
    (opened_first most_nodes rows wide small none is))

pub opened_by : {p₀ r₀ q₀ t₀ n₀ v₀ p₁ p r q t n v : List ℕ} {e j kept : ℕ} → Sized (tables p₀ r₀ q₀ t₀ n₀ v₀) → p₁ ≡ replicate (length p₀) 0 → kept ≡ 0 →
    laid p (replicate (length p₁) 0) q (replicate (3 * length p₁) 0) e j ≡ entered (fresh (length p₁)) standing → r ≡ replicate (length r₀) 0 → t ≡ replicate (length t₀) 0 → n ≡ replicate (length n₀) 0 →
    v ≡ e ∷ j ∷ kept ∷ [] → Sized (tables p r q t n v) → OpenedBy (tables p₀ r₀ q₀ t₀ n₀ v₀) 0 (tables p r q t n v)
opened_by {p₀} {r₀} {q₀} {t₀} {n₀} {v₀} {p₁} {p} {r} {q} {t} {n} {v} sized clear none is er et en stored then =
    let rows = sized.parents in
    let long : length p₁ ≡ length p₀ = ap length clear ∙ length-replicate (length p₀) 0 in
    let (o, nothing) = fresh_opened (length p₁) (length r₀) (length t₀) (length n₀) q (omega (arith, long, rows)) (omega (arith, long, rows))
    (omega (arith, long, rows, sized.ranks)) (omega (arith, long, rows, sized.three_a_link)) sized.seven_a_node none is er et en in
    subst (λ (v : List ℕ). Sized (tables p r q t n v) → OpenedBy (tables p₀ r₀ q₀ t₀ n₀ v₀) 0 (tables p r q t n v)) (sym stored) (λ then. OpenedBy.done sized then o nothing) then

-- one record put after none is one record put
only_one : {bytes listed answers listed' answers' : List ℕ} {s s' : State} {o : Opened most_nodes s} {o' : Opened most_nodes s'} → Puts bytes 0 s o listed answers 1 s' o' listed' answers' →
    Recorded s o bytes 0 listed answers 0 s' listed' answers'
only_one (Puts.more Puts.none x) = x

-- a record put to a state made of the tables that were lent, and its counts stored
pub recorded_by : {was : Lent} {p r q t n v bytes work listing answer : List ℕ} (s : Lending) → Long was bytes → v ≡ s.live.entries ∷ s.live.links ∷ s.live.kept ∷ [] →
    Sized (tables p r q t n v) →
    p ≡ s.parent.now → r ≡ s.rank.now → q ≡ s.rows.now → t ≡ s.trail.now → n ≡ s.nodes.now →
    ((o : Opened most_nodes (state_of was.tables)) → (o' : Opened most_nodes (held_by s)) ×
    Puts bytes 0 (state_of was.tables) o was.listing was.answer 1 (held_by s) o' listing answer) →
    RecordedBy was bytes 0 (lent (tables p r q t n v) work listing answer)
recorded_by {was} {p} {r} {q} {t} {n} {v} {bytes} {work} {listing} {answer} s long stored sized ep er eq et en puts =
    subst (λ (v : List ℕ). Sized (tables p r q t n v) → RecordedBy was bytes 0 (lent (tables p r q t n v) work listing answer)) (sym stored)
    (λ sized. RecordedBy.done long sized (λ o. rw (ep, er, eq, et, en) (only_one (puts o).1))) sized
