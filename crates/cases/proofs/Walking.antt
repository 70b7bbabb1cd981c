-- The model of a walk down the classes: the type of an entry as a tree, or the news that a class on the path was met again.
use mathlib.Core.Path.{◌≡◌, refl, ◌∙◌}
use mathlib.Core.Option.{Option, none, some}
use mathlib.Core.List.Memᴰ
use mathlib.Core.List.{List, [], ◌∷◌, Memᴰ}
use Prim.Native.Nat.{ℕ, ◌<◌}
use Rattle.classes.specs.Forced.{Rule, Forced}
use Rattle.classes.specs.Table.{Table, root, shown, shown_at, bounds}
use Rattle.classes.specs.Made.{Stands}
use Rattle.classes.specs.declared.Bound.{Bound}
use Rattle.classes.specs.declared.Bound.TheVariants.{Free, Unit, Sum, Product}
use Rattle.typing.specs.Types.{Ty}
use Rattle.typing.specs.Finite.{Finite}
use Rattle.typing.specs.Endless.{Part, Endless}
use Rattle.typing.proofs.FromTable.{sum_parts_there, product_parts_there}
use Rattle.closing.specs.Visiting.{Path}
use Rattle.closing.proofs.Cycles.{part_equal, endless_equal, loop_is_endless}
use Rattle.closing.proofs.Splitting.{forced_root, shown_free, shown_unit}
use Rattle.cases.proofs.Whatever.{Whatever, whatever_map, and_then, whatever_then}
use Rattle.cases.proofs.Joining.{top, top_is_root}
use Rattle.cases.proofs.Deciding.{is_there}

-- the type of an entry, or none, as the walk came back to a class that it is in
pub data Seen : Type 0 where
  type : Ty → Seen
  again : Seen

-- two parts seen, and the whole
abbrev with_right : (Ty → Ty → Ty) → Ty → Seen → Seen
with_right form x (Seen.type y) = Seen.type (form x y)
with_right form x Seen.again = Seen.again

abbrev with_left : (Ty → Ty → Ty) → Option Seen → Seen → Option Seen
with_left form right (Seen.type x) = and_then right (λ y. some (with_right form x y))
with_left form right Seen.again = some Seen.again

abbrev both : (Ty → Ty → Ty) → Option Seen → Option Seen → Option Seen
both form left right = and_then left (with_left form right)

-- down from a class that shows this bound, with it on the path
abbrev down : (List ℕ → ℕ → Option Seen) → List ℕ → Bound → Option Seen
down onward path Free = some (Seen.type Ty.one)
down onward path Unit = some (Seen.type Ty.one)
down onward path (Sum l r) = both Ty.sum (onward path l) (onward path r)
down onward path (Product l r) = both Ty.product (onward path l) (onward path r)

-- a class that is on the path already, or a new one
abbrev enter : (List ℕ → ℕ → Option Seen) → Table → (path : List ℕ) (r : ℕ) → Dec (Memᴰ r path) → Option Seen
enter onward t path r d = elim d [ yes met ↦ some Seen.again | no new ↦ down onward (r ∷ path) (shown_at t r) ]

-- the walk from entry a, with the classes that it is in on the path
abbrev pub walk : ℕ → Table → List ℕ → ℕ → Option Seen
walk ℕ.zero t path a = none
walk (ℕ.suc n) t path a = enter (walk n t) t path (top t a) (is_there (top t a) path)

-- what is seen of entry a, on a walk that began at `bottom`
module _ {t : Table} {rules : List Rule} (s : Stands t rules) (bottom : ℕ) where
  abbrev pub Sees : ℕ → Seen → Type 0
  Sees a (Seen.type x) = Finite (bounds t) rules a x
  Sees a Seen.again = Endless (bounds t) rules bottom

  -- how the walk came to entry a: it began there, or a is a part of the class last entered
  abbrev pub Came : List ℕ → ℕ → Type 0
  Came [] a = root t a ≡ bottom
  Came (b ∷ rest) a = Path (bounds t) rules bottom (b ∷ rest) × Part (bounds t) rules b a

  -- its class is new, and is entered
  path_on : (path : List ℕ) (a : ℕ) → a < t.entries → Came path a → (Memᴰ (root t a) path → ⊥) → Path (bounds t) rules bottom (root t a ∷ path)
  path_on [] a h e new = rw e Path.first
  path_on (b ∷ rest) a h c new = Path.deeper c.0 c.1 (forced_root s a h) new

  -- its class is on the path
  path_met : (path : List ℕ) (a : ℕ) → a < t.entries → Came path a → Memᴰ (root t a) path → Endless (bounds t) rules bottom
  path_met [] a h e m = absurd (Memᴰ.not-nil m)
  path_met (b ∷ rest) a h c m = loop_is_endless c.0 c.1 (forced_root s a h) m

  -- both parts of a
  module _ (a l r : ℕ) (form : Ty → Ty → Ty)
      (made : (x y : Ty) → Finite (bounds t) rules l x → Finite (bounds t) rules r y → Finite (bounds t) rules a (form x y)) where
    right_seen : {x : Ty} → Finite (bounds t) rules l x → (y : Seen) → Sees r y → Sees a (with_right form x y)
    right_seen {x} fx (Seen.type y) fy = made x y fx fy
    right_seen fx Seen.again e = e

    left_seen : (right : Option Seen) → Whatever (Sees r) right → (x : Seen) → Sees l x → Whatever (Sees a) (with_left form right x)
    left_seen right w (Seen.type x) fx = whatever_then (Sees r) (Sees a) (λ y. some (with_right form x y)) (right_seen fx) right w
    left_seen right w Seen.again e = e

    both_seen : (left right : Option Seen) → Whatever (Sees l) left → Whatever (Sees r) right → Whatever (Sees a) (both form left right)
    both_seen left right v w = whatever_then (Sees l) (Sees a) (with_left form right) (left_seen right w) left v

  module _ (onward : List ℕ → ℕ → Option Seen) (right : (path : List ℕ) (a : ℕ) → a < t.entries → Came path a → Whatever (Sees a) (onward path a))
      (a : ℕ) (h : a < t.entries) where
    -- an entry's part is a part of its class
    part_of_class : {b : ℕ} → Part (bounds t) rules a b → Part (bounds t) rules (root t a) b
    part_of_class p = part_equal (Forced.turned (forced_root s a h)) p

    down_right : (path : List ℕ) → Path (bounds t) rules bottom (root t a ∷ path) → (b : Bound) → shown t a ≡ b → Whatever (Sees a) (down onward (root t a ∷ path) b)
    down_right path p Free e = shown_free s a h e
    down_right path p Unit e = shown_unit s a h e
    down_right path p (Sum l r) e =
        let (m, there, f, is) = s.member a h in
        let (low, high) = sum_parts_there s m l r (is ∙ e) in
        both_seen a l r Ty.sum (λ x y fx fy. Finite.sum f (is ∙ e) fx fy) (onward (root t a ∷ path) l) (onward (root t a ∷ path) r)
        (right (root t a ∷ path) l low (p, part_of_class (Part.sum_left f (is ∙ e))))
        (right (root t a ∷ path) r high (p, part_of_class (Part.sum_right f (is ∙ e))))
    down_right path p (Product l r) e =
        let (m, there, f, is) = s.member a h in
        let (low, high) = product_parts_there s m l r (is ∙ e) in
        both_seen a l r Ty.product (λ x y fx fy. Finite.product f (is ∙ e) fx fy) (onward (root t a ∷ path) l) (onward (root t a ∷ path) r)
        (right (root t a ∷ path) l low (p, part_of_class (Part.product_left f (is ∙ e))))
        (right (root t a ∷ path) r high (p, part_of_class (Part.product_right f (is ∙ e))))

    enter_right : (path : List ℕ) → Came path a → (d : Dec (Memᴰ (root t a) path)) → Whatever (Sees a) (enter onward t path (root t a) d)
    enter_right path c (yes met) = path_met path a h c met
    enter_right path c (no new) = down_right path (path_on path a h c new) (shown t a) refl

  walk_right : (n : ℕ) (path : List ℕ) (a : ℕ) → a < t.entries → Came path a → Whatever (Sees a) (walk n t path a)
  walk_right ℕ.zero path a h c = tt
  walk_right (ℕ.suc n) path a h c = rw (top_is_root t a) (enter_right (walk n t) (walk_right n) a h path c (is_there (root t a) path))

-- a walk that begins at entry a: its type, or it is endless
abbrev pub Visits : Table → List Rule → ℕ → Seen → Type 0
Visits t rules a (Seen.type x) = Finite (bounds t) rules a x
Visits t rules a Seen.again = Endless (bounds t) rules a

pub walk_visits : (n : ℕ) {t : Table} {rules : List Rule} → Stands t rules → (a : ℕ) → a < t.entries → Whatever (Visits t rules a) (walk n t [] a)
walk_visits n {t} {rules} s a h = whatever_map _ (Visits t rules a) bring (walk n t [] a) (walk_right s (root t a) n [] a h refl)
  where
    bring : (x : Seen) → Sees s (root t a) a x → Visits t rules a x
    bring (Seen.type x) f = f
    bring Seen.again e = endless_equal (forced_root s a h) e
