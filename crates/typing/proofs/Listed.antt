-- Laws of the listing's walk: a type that stands is not added again, one that does not is added at the end, places stay.
use mathlib.Core.Path.{◌≡◌, refl, sym, ◌∙◌, ap, subst}
use mathlib.Core.Logic.{by_cases, ite, if_pos, if_neg}
use mathlib.Core.List.{List, [], ◌∷◌, ◌++◌, Memᴰ}
use Prim.Native.Nat.{ℕ, suc, ◌+◌, ◌*◌, ◌<◌}
use native.Mathlib.Omega.{arith}
use lib.ListN.{length, get_or, length-append}
use Rattle.typing.specs.Types.{Ty, Ty-discrete}
use Rattle.typing.specs.Listing.{place_of, with_type, walked, TypeArrow, types_of, triples, pairs, listing}

-- a type that stands is not added again
pub stands_already : (ts : List Ty) (t : Ty) → Memᴰ t ts → with_type ts t ≡ ts
stands_already [] t h = elim h [ ]
stands_already (x ∷ ts) t (Memᴰ.head e) = if_pos (Ty-discrete x t) (sym e) (x ∷ ts) (x ∷ with_type ts t)
stands_already (x ∷ ts) t (Memᴰ.tail m) = by_cases (Ty-discrete x t)
    (λ e. if_pos (Ty-discrete x t) e (x ∷ ts) (x ∷ with_type ts t))
    (λ n. if_neg (Ty-discrete x t) n (x ∷ ts) (x ∷ with_type ts t) ∙ ap (λ (us : List Ty). x ∷ us) (stands_already ts t m))

-- one that does not is added at the end
pub added_at_the_end : (ts : List Ty) (t : Ty) → (Memᴰ t ts → ⊥) → with_type ts t ≡ ts ++ (t ∷ [])
added_at_the_end [] t absent = refl
added_at_the_end (x ∷ ts) t absent =
    if_neg (Ty-discrete x t) (λ e. absent (Memᴰ.head (sym e))) (x ∷ ts) (x ∷ with_type ts t) ∙
    ap (λ (us : List Ty). x ∷ us) (added_at_the_end ts t (λ m. absent (Memᴰ.tail m)))

-- a type that stands has a place, and stands in it
pub place_within : (ts : List Ty) (t : Ty) → Memᴰ t ts → place_of ts t < length ts
place_within [] t h = elim h [ ]
place_within (x ∷ ts) t (Memᴰ.head e) = rw (if_pos (Ty-discrete x t) (sym e) 0 (suc (place_of ts t))) (omega arith)
place_within (x ∷ ts) t (Memᴰ.tail m) = by_cases (Ty-discrete x t)
    (λ e. rw (if_pos (Ty-discrete x t) e 0 (suc (place_of ts t))) (omega arith))
    (λ n. rw (if_neg (Ty-discrete x t) n 0 (suc (place_of ts t))) (omega (arith, place_within ts t m)))

pub place_holds : (ts : List Ty) (t : Ty) → Memᴰ t ts → get_or ts (place_of ts t) Ty.one ≡ t
place_holds [] t h = elim h [ ]
place_holds (x ∷ ts) t (Memᴰ.head e) = rw (if_pos (Ty-discrete x t) (sym e) 0 (suc (place_of ts t))) (sym e)
place_holds (x ∷ ts) t (Memᴰ.tail m) = by_cases (Ty-discrete x t)
    (λ e. rw (if_pos (Ty-discrete x t) e 0 (suc (place_of ts t))) e)
    (λ n. rw (if_neg (Ty-discrete x t) n 0 (suc (place_of ts t))) (place_holds ts t m))

-- two types that stand in one place are one type
pub one_place_one_type : (ts : List Ty) (t u : Ty) → Memᴰ t ts → Memᴰ u ts → place_of ts t ≡ place_of ts u → t ≡ u
one_place_one_type ts t u m n e = sym (place_holds ts t m) ∙ ap (λ (k : ℕ). get_or ts k Ty.one) e ∙ place_holds ts u n

-- a type that stands keeps its place when more are added
pub place_stays : (ts us : List Ty) (t : Ty) → Memᴰ t ts → place_of (ts ++ us) t ≡ place_of ts t
place_stays [] us t h = elim h [ ]
place_stays (x ∷ ts) us t (Memᴰ.head e) =
    if_pos (Ty-discrete x t) (sym e) 0 (suc (place_of (ts ++ us) t)) ∙ sym (if_pos (Ty-discrete x t) (sym e) 0 (suc (place_of ts t)))
place_stays (x ∷ ts) us t (Memᴰ.tail m) = ap (λ (k : ℕ). ite (Ty-discrete x t) 0 (suc k)) (place_stays ts us t m)

-- what `with_type` has in it
pub with_itself : (ts : List Ty) (t : Ty) → Memᴰ t (with_type ts t)
with_itself [] t = Memᴰ.head refl
with_itself (x ∷ ts) t = by_cases (Ty-discrete x t)
    (λ e. rw (if_pos (Ty-discrete x t) e (x ∷ ts) (x ∷ with_type ts t)) (Memᴰ.head (sym e)))
    (λ n. rw (if_neg (Ty-discrete x t) n (x ∷ ts) (x ∷ with_type ts t)) (Memᴰ.tail (with_itself ts t)))

pub with_others : (ts : List Ty) (t u : Ty) → Memᴰ u ts → Memᴰ u (with_type ts t)
with_others [] t u h = elim h [ ]
with_others (x ∷ ts) t u (Memᴰ.head h) = by_cases (Ty-discrete x t)
    (λ e. rw (if_pos (Ty-discrete x t) e (x ∷ ts) (x ∷ with_type ts t)) (Memᴰ.head h))
    (λ n. rw (if_neg (Ty-discrete x t) n (x ∷ ts) (x ∷ with_type ts t)) (Memᴰ.head h))
with_others (x ∷ ts) t u (Memᴰ.tail m) = by_cases (Ty-discrete x t)
    (λ e. rw (if_pos (Ty-discrete x t) e (x ∷ ts) (x ∷ with_type ts t)) (Memᴰ.tail m))
    (λ n. rw (if_neg (Ty-discrete x t) n (x ∷ ts) (x ∷ with_type ts t)) (Memᴰ.tail (with_others ts t u m)))

here_or_later : {P : Type 0} {x u : Ty} {ts : List Ty} → Memᴰ u (x ∷ ts) → (u ≡ x → P) → (Memᴰ u ts → P) → P
here_or_later (Memᴰ.head e) here later = here e
here_or_later (Memᴰ.tail m) here later = later m

-- what holds of all that stands and of the type holds of all
pub with_only : (P : Ty → Type 0) (ts : List Ty) (t : Ty) → ((u : Ty) → Memᴰ u ts → P u) → P t → (u : Ty) → Memᴰ u (with_type ts t) → P u
with_only P [] t all its u m = here_or_later m (λ e. subst P (sym e) its) (all u)
with_only P (x ∷ ts) t all its u m = by_cases (Ty-discrete x t)
    (λ e. all u (subst (λ (us : List Ty). Memᴰ u us) (if_pos (Ty-discrete x t) e (x ∷ ts) (x ∷ with_type ts t)) m))
    (λ n. here_or_later (subst (λ (us : List Ty). Memᴰ u us) (if_neg (Ty-discrete x t) n (x ∷ ts) (x ∷ with_type ts t)) m)
    (λ e. all u (Memᴰ.head e))
    (λ k. with_only P ts t (λ v w. all v (Memᴰ.tail w)) its u k))

-- the parts of a type are in ts
abbrev pub PartsIn : List Ty → Ty → Type 0
PartsIn ts Ty.one = Prim.Unit {0}
PartsIn ts (Ty.sum l r) = Memᴰ l ts × Memᴰ r ts
PartsIn ts (Ty.product l r) = Memᴰ l ts × Memᴰ r ts

-- the parts of every type in ts are in ts
abbrev pub Whole : List Ty → Type 0
Whole ts = (t : Ty) → Memᴰ t ts → PartsIn ts t

parts_kept : (ts us : List Ty) → ((u : Ty) → Memᴰ u ts → Memᴰ u us) → (t : Ty) → PartsIn ts t → PartsIn us t
parts_kept ts us all Ty.one p = tt
parts_kept ts us all (Ty.sum l r) p = (all l p.0, all r p.1)
parts_kept ts us all (Ty.product l r) p = (all l p.0, all r p.1)

pub with_whole : (ts : List Ty) (t : Ty) → Whole ts → PartsIn ts t → Whole (with_type ts t)
with_whole ts t w p = with_only (PartsIn (with_type ts t)) ts t
    (λ u m. parts_kept ts (with_type ts t) (with_others ts t) u (w u m))
    (parts_kept ts (with_type ts t) (with_others ts t) t p)

-- a walk through a type that stands adds nothing
pub walked_again : (ts : List Ty) → Whole ts → (t : Ty) → Memᴰ t ts → walked ts t ≡ ts
walked_again ts w Ty.one m = stands_already ts Ty.one m
walked_again ts w (Ty.sum l r) m =
    let p = w (Ty.sum l r) m in
    ap (λ (us : List Ty). with_type (walked us r) (Ty.sum l r)) (walked_again ts w l p.0) ∙
    (ap (λ (us : List Ty). with_type us (Ty.sum l r)) (walked_again ts w r p.1) ∙ stands_already ts (Ty.sum l r) m)
walked_again ts w (Ty.product l r) m =
    let p = w (Ty.product l r) m in
    ap (λ (us : List Ty). with_type (walked us r) (Ty.product l r)) (walked_again ts w l p.0) ∙
    (ap (λ (us : List Ty). with_type us (Ty.product l r)) (walked_again ts w r p.1) ∙ stands_already ts (Ty.product l r) m)

-- a walk loses nothing, has the type in it, and leaves the list whole
pub walked_others : (ts : List Ty) (t u : Ty) → Memᴰ u ts → Memᴰ u (walked ts t)
walked_others ts Ty.one u m = with_others ts Ty.one u m
walked_others ts (Ty.sum l r) u m = with_others (walked (walked ts l) r) (Ty.sum l r) u (walked_others (walked ts l) r u (walked_others ts l u m))
walked_others ts (Ty.product l r) u m = with_others (walked (walked ts l) r) (Ty.product l r) u (walked_others (walked ts l) r u (walked_others ts l u m))

pub walked_itself : (ts : List Ty) (t : Ty) → Memᴰ t (walked ts t)
walked_itself ts Ty.one = with_itself ts Ty.one
walked_itself ts (Ty.sum l r) = with_itself (walked (walked ts l) r) (Ty.sum l r)
walked_itself ts (Ty.product l r) = with_itself (walked (walked ts l) r) (Ty.product l r)

pub walked_whole : (ts : List Ty) (t : Ty) → Whole ts → Whole (walked ts t)
walked_whole ts Ty.one w = with_whole ts Ty.one w tt
walked_whole ts (Ty.sum l r) w =
    with_whole (walked (walked ts l) r) (Ty.sum l r) (walked_whole (walked ts l) r (walked_whole ts l w))
    (walked_others (walked ts l) r l (walked_itself ts l), walked_itself (walked ts l) r)
walked_whole ts (Ty.product l r) w =
    with_whole (walked (walked ts l) r) (Ty.product l r) (walked_whole (walked ts l) r (walked_whole ts l w))
    (walked_others (walked ts l) r l (walked_itself ts l), walked_itself (walked ts l) r)

-- a listing is four numbers, three for each type and two for each node
pub triples_long : (ts us : List Ty) → length (triples ts us) ≡ 3 * length us
triples_long ts [] = refl
triples_long ts (Ty.one ∷ us) = omega (arith, triples_long ts us)
triples_long ts (Ty.sum l r ∷ us) = omega (arith, triples_long ts us)
triples_long ts (Ty.product l r ∷ us) = omega (arith, triples_long ts us)

pairs_long : (ts : List Ty) (arrows : List TypeArrow) → length (pairs ts arrows) ≡ 2 * length arrows
pairs_long ts [] = refl
pairs_long ts (a ∷ rest) = omega (arith, pairs_long ts rest)

pub listing_long : (arrows : List TypeArrow) → length (listing arrows) ≡ 4 + 3 * length (types_of [] arrows) + 2 * length arrows
unfolding listing
listing_long arrows =
    let ts = types_of [] arrows in
    omega (arith, length-append (triples ts ts) (pairs ts arrows), triples_long ts ts, pairs_long ts arrows)
