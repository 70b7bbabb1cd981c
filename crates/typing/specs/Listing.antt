-- The listing: each type once, in the order in which a walk first completes it, and the arrows. Document 01, "Job and listing".
use Rattle.std.proofs.Math.Logic.{ite}
use Rattle.std.specs.Prelude.{List, [], ◌∷◌, ◌++◌, ℕ, suc, ◌+◌, ◌*◌, length}
use Rattle.typing.specs.Types.{Ty, Ty-discrete}

-- where t stands in ts; the length of ts where it does not
abbrev pub place_of : List Ty → Ty → ℕ
place_of [] t = 0
place_of (x ∷ ts) t = ite (Ty-discrete x t) 0 (suc (place_of ts t))

-- ts, with t at its end where it did not stand
abbrev pub with_type : List Ty → Ty → List Ty
with_type [] t = t ∷ []
with_type (x ∷ ts) t = ite (Ty-discrete x t) (x ∷ ts) (x ∷ with_type ts t)

-- the walk through a type: left part, right part, the type
abbrev pub walked : List Ty → Ty → List Ty
walked ts Ty.one = with_type ts Ty.one
walked ts (Ty.sum l r) = with_type (walked (walked ts l) r) (Ty.sum l r)
walked ts (Ty.product l r) = with_type (walked (walked ts l) r) (Ty.product l r)

-- a node's source and target
pub record TypeArrow : Type 0 where
  pub source : Ty
  pub target : Ty

-- nodes in order, source then target
abbrev pub types_of : List Ty → List TypeArrow → List Ty
types_of ts [] = ts
types_of ts (a ∷ rest) = types_of (walked (walked ts a.source) a.target) rest

-- 0 unit, 1 sum, 2 product; left; right; zeros for unit
abbrev pub triple : List Ty → Ty → List ℕ
triple ts Ty.one = 0 ∷ 0 ∷ 0 ∷ []
triple ts (Ty.sum l r) = 1 ∷ place_of ts l ∷ place_of ts r ∷ []
triple ts (Ty.product l r) = 2 ∷ place_of ts l ∷ place_of ts r ∷ []

abbrev pub triples : List Ty → List Ty → List ℕ
triples ts [] = []
triples ts (t ∷ us) = triple ts t ++ triples ts us

abbrev pub pairs : List Ty → List TypeArrow → List ℕ
pairs ts [] = []
pairs ts (a ∷ rest) = place_of ts a.source ∷ place_of ts a.target ∷ pairs ts rest

-- nodes n, types t, offset of types, offset of arrows, the triples, the pairs
unfoldable pub listing : List TypeArrow → List ℕ
listing arrows =
    let ts = types_of [] arrows in
    length arrows ∷ length ts ∷ 4 ∷ (4 + 3 * length ts) ∷ (triples ts ts ++ pairs ts arrows)
