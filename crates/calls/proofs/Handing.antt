-- The record call's arrays: room for 1,024 nodes, and the listing in the one that is handed out.
use mathlib.Core.Path.{◌≡◌, refl, sym, ◌∙◌, ap, subst}
use mathlib.Core.List.{List, ◌++◌}
use Prim.Native.Nat.{ℕ, suc, ◌+◌, ◌-◌, ◌*◌, ◌^◌, ◌≤◌, ◌<◌}
use native.Mathlib.Omega.{arith}
use lib.ListN.{length, set, drop, replicate, length-replicate, length-drop, get_or-replicate}
use lib.Seq.{ext_get_or, get_or-drop}
use Rattle.nodes.specs.declared.Node.{Node}
use Rattle.nodes.specs.declared.Record.TheVariants.{Offer, Close}
use Rattle.types.specs.Limits.{longest_listing, most_nodes, work_long}
use Rattle.types.specs.Answers.{Answered}
use Rattle.types.specs.Closings.{no_listing, Lists}
use Rattle.types.specs.Calls.{Called, Closing}
use Rattle.calls.specs.Handed.{Handed}
use Rattle.types.specs.States.{State, Opened}
use Rattle.types.specs.declared.Answer.{Answer}
use Rattle.types.specs.declared.Answer.TheVariants.{Endless}
use Rattle.types.proofs.Listings.{listing_fits}
use Rattle.types.proofs.Offering.{opened_stood}
use Rattle.types.proofs.Once.{lists_once}

drop_zeros : (n k : ℕ) → drop n (replicate {A = ℕ} k 0) ≡ replicate (k - n) 0
drop_zeros n k = ext_get_or 0 (drop n (replicate k 0)) (replicate (k - n) 0) (length-drop n (replicate k 0) ∙ rw (length-replicate {A = ℕ} k 0, length-replicate {A = ℕ} (k - n) 0) refl)
    (λ i h.
    let low : i < k - n = omega (arith, h, length-drop n (replicate {A = ℕ} k 0), length-replicate {A = ℕ} k 0) in
    get_or-drop n (replicate k 0) i 0 ∙ get_or-replicate k (n + i) 0 0 (omega (arith, low)) ∙ sym (get_or-replicate (k - n) i 0 0 low))

-- no listing, written over zeros
pub none_written : (n : ℕ) → 4 ≤ n → set (set (replicate n 0) 2 4) 3 4 ≡ no_listing ++ replicate (n - 4) 0
none_written ℕ.zero h = absurd (omega (arith, h))
none_written (ℕ.suc ℕ.zero) h = absurd (omega (arith, h))
none_written (ℕ.suc (ℕ.suc ℕ.zero)) h = absurd (omega (arith, h))
none_written (ℕ.suc (ℕ.suc (ℕ.suc ℕ.zero))) h = absurd (omega (arith, h))
none_written (ℕ.suc (ℕ.suc (ℕ.suc (ℕ.suc m)))) h =
    let rest : m ≡ suc (suc (suc (suc m))) - 4 = omega arith in
    ap (λ (k : ℕ). no_listing ++ replicate k 0) rest

-- a state of at most 1,024 nodes has room in the record call's arrays
pub array_room : {s : State} → Opened most_nodes s → (work size : ℕ) → work_long ≤ work → longest_listing ≤ size →
    (4 + 3 * s.classes.entries < 2 ^ 16) × (4 * s.classes.entries ≤ length (replicate {A = ℕ} work 0)) × (4 + 3 * s.classes.entries + 2 * s.kept ≤ length (replicate {A = ℕ} size 0))
array_room o work size enough long =
    let few = (opened_stood o).few in
    (omega (arith, few, o.counted, o.fits), rw (length-replicate {A = ℕ} work 0) (omega (arith, few, o.counted, o.fits, enough)), rw (length-replicate {A = ℕ} size 0) (omega (arith, few, o.counted, o.fits, long)))

module _ {s : State} (o : Opened most_nodes s) where
  fits_array : {l : List ℕ} → Lists o.nodes Close l → length l ≤ longest_listing
  fits_array lists = omega (arith, listing_fits o lists, o.fits)

  -- a listing over an array of zeros
  pub handed_types : {answer : Answer} {after : List ℕ} (size : ℕ) → longest_listing ≤ size → Closing most_nodes o.nodes (replicate size 0) answer after → ((i : ℕ) → answer ≡ Endless i → ⊥) → Handed size o.nodes after
  handed_types size enough c ne = record {
    listed = c.listed;
    lists = c.lists;
    fits = omega (arith, fits_array c.lists, enough);
    are = c.written ne ∙ ap (λ (ys : List ℕ). c.listed ++ ys) (drop_zeros (length c.listed) size);
  }

  endless_lists : {i : ℕ} {kept' : List Node} → Answered most_nodes o.nodes Close (Endless i) kept' → Lists o.nodes Close no_listing
  endless_lists (Answered.endless {i = i} h e lowest) = Lists.endless i h e

  pub handed_none : {answer : Answer} {before after numbers : List ℕ} {i : ℕ} (size : ℕ) → 4 ≤ size → Closing most_nodes o.nodes before answer after → answer ≡ Endless i →
      numbers ≡ set (set (replicate size 0) 2 4) 3 4 → Handed size o.nodes numbers
  handed_none size enough c e is = record {
    listed = no_listing;
    lists = endless_lists (subst (λ (x : Answer). Answered most_nodes o.nodes Close x o.nodes) e c.answered);
    fits = enough;
    are = is ∙ none_written size enough;
  }

-- no second listing is handed out
pub handed_once : {size : ℕ} {kept : List Node} {numbers numbers' : List ℕ} → Handed size kept numbers → Handed size kept numbers' → numbers ≡ numbers'
handed_once {size} a b = a.are ∙ ap (λ (l : List ℕ). l ++ replicate (size - length l) 0) (lists_once a.lists b.lists) ∙ sym b.are

-- an offer of the same node
pub same_offer : {s s' : State} {o : Opened most_nodes s} {a : Answer} {n m : Node} → m ≡ n → Called most_nodes s o (Offer m) a s' → Called most_nodes s o (Offer n) a s'
same_offer {s} {s'} {o} {a} is c = subst (λ (x : Node). Called most_nodes s o (Offer x) a s') is c
