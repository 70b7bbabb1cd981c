-- Functions that may answer nothing, and what holds of whatever they answer.
use mathlib.Core.Option.{Option, none, some}

module _ {A : Type 0} where
  -- whatever is answered has P
  abbrev pub Whatever : (A → Type 0) → Option A → Type 0
  Whatever P none = Prim.Unit {0}
  Whatever P (some a) = P a

  pub whatever_map : (P Q : A → Type 0) → ((a : A) → P a → Q a) → (o : Option A) → Whatever P o → Whatever Q o
  whatever_map P Q f none w = tt
  whatever_map P Q f (some a) w = f a w

module _ {A B : Type 0} where
  -- one after the other
  abbrev pub and_then : Option A → (A → Option B) → Option B
  and_then none f = none
  and_then (some a) f = f a

  pub whatever_then : (P : A → Type 0) (Q : B → Type 0) (f : A → Option B) → ((a : A) → P a → Whatever Q (f a)) → (o : Option A) → Whatever P o → Whatever Q (and_then o f)
  whatever_then P Q f each none w = tt
  whatever_then P Q f each (some a) w = each a w
