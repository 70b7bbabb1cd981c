-- The model of a node's rules: joined in order, all of them, or up to the first that clashes.
use mathlib.Core.Option.{Option, some}
use mathlib.Core.List.{List, [], ◌∷◌}
use Prim.Native.Nat.{ℕ, suc}
use Rattle.classes.specs.Table.{Table}
use Rattle.classes.specs.Merging.{Merges, Verdict}
use Rattle.classes.specs.Merging.Verdict.{fits, clash}
use Rattle.nodes.specs.Layout.{Numbered}
use Rattle.combinators.specs.Entered.{Meets}
use Rattle.types.specs.States.{Stops}
use Rattle.cases.proofs.Whatever.{Whatever, and_then, whatever_then}
use Rattle.cases.proofs.Joining.{merge, merge_merges}

-- all joined, with the table then; or stopped at the k-th
pub data Joined : Type 0 where
  all : Table → Joined
  stop : ℕ → Joined

abbrev pub Joins : Table → List Numbered → Joined → Type 0
Joins t rs (Joined.all u) = Meets t rs u
Joins t rs (Joined.stop k) = (u : Table) × Stops t rs k u

abbrev later : Joined → Joined
later (Joined.all u) = Joined.all u
later (Joined.stop k) = Joined.stop (suc k)

abbrev after_one : (Table → Option Joined) → Verdict × Table → Option Joined
after_one rest m = elim m.0 [ fits ↦ and_then (rest m.1) (λ j. some (later j)) | clash ↦ some (Joined.stop 0) ]

abbrev pub join_all : ℕ → List Numbered → Table → Option Joined
join_all fuel [] t = some (Joined.all t)
join_all fuel (r ∷ rs) t = and_then (merge fuel t (r.rule ∷ [])) (after_one (join_all fuel rs))

-- what is answered is what the rules come to
module _ (t : Table) (r : Numbered) (rs : List Numbered) where
  joins_later : {u : Table} → Merges t (r.rule ∷ []) fits u → (j : Joined) → Joins u rs j → Joins t (r ∷ rs) (later j)
  joins_later m (Joined.all w) k = Meets.next m k
  joins_later m (Joined.stop i) k = (k.0, Stops.later m k.1)

  one_joined : (rest : Table → Option Joined) → ((u : Table) → Whatever (Joins u rs) (rest u)) → (v : Verdict) (u : Table) → Merges t (r.rule ∷ []) v u → Whatever (Joins t (r ∷ rs)) (after_one rest (v, u))
  one_joined rest right fits u m = whatever_then (Joins u rs) _ (λ j. some (later j)) (joins_later m) (rest u) (right u)
  one_joined rest right clash u m = (u, Stops.here m)

pub all_joined : (fuel : ℕ) (rs : List Numbered) (t : Table) → Whatever (Joins t rs) (join_all fuel rs t)
all_joined fuel [] t = Meets.done
all_joined fuel (r ∷ rs) t =
    whatever_then _ _ (after_one (join_all fuel rs)) (λ m k. one_joined t r rs (join_all fuel rs) (all_joined fuel rs) m.0 m.1 k) (merge fuel t (r.rule ∷ [])) (merge_merges fuel t (r.rule ∷ []))
