-- Laws of the columns of a list of rows: how long they are, what stands in them, and what a store to the list does to each. They hold
-- for any width.
use mathlib.Core.Path.{◌≡◌, refl, sym, ap, ◌∙◌}
use mathlib.Core.Logic.{◌≢◌, by_cases}
use mathlib.Core.List.{List, [], ◌∷◌}
use Prim.Native.Nat.{ℕ, suc, ◌+◌, ◌*◌, ◌/◌, ◌%◌, ◌≤◌, ◌<◌}
use native.Mathlib.Decide.{ℕ_discrete}
use native.Mathlib.Omega.{arith}
use lib.ListN.{length, get_or, set, replicate, length-set, length-replicate, get_or-replicate}
use lib.Seq.{get_or-set_same, get_or-set_other, ext_get_or}
use Rattle.classes.specs.Columns.{width, listed, column, height}

length_listed : (n : ℕ) (f : ℕ → ℕ) → length (listed n f) ≡ n
unfolding listed
length_listed ℕ.zero f = refl
length_listed (ℕ.suc n) f = ap suc (length_listed n (λ i. f (suc i)))

get_or_listed : (n : ℕ) (f : ℕ → ℕ) (i : ℕ) → i < n → get_or (listed n f) i 0 ≡ f i
unfolding listed
get_or_listed ℕ.zero f i h = absurd (omega arith)
get_or_listed (ℕ.suc n) f ℕ.zero h = refl
get_or_listed (ℕ.suc n) f (ℕ.suc i) h = get_or_listed n (λ j. f (suc j)) i (omega arith)

-- a column has a number for each whole row
pub length_column : (k : ℕ) (rows : List ℕ) → length (column k rows) ≡ height rows
unfolding column
length_column k rows = length_listed _ _

-- and it is the row's
pub cell : (k : ℕ) (rows : List ℕ) (i : ℕ) → i < height rows → get_or (column k rows) i 0 ≡ get_or rows (width * i + k) 0
unfolding column
cell k rows i h = get_or_listed (height rows) _ i h

-- a row that a column has
pub is_row : (k : ℕ) (rows : List ℕ) (i : ℕ) → i < length (column k rows) → i < height rows
is_row k rows i h = omega (arith, length_column k rows)

-- the numbers of a row that is there are in the list
pub in_rows : (rows : List ℕ) (i k : ℕ) → i < height rows → k < width → width * i + k < length rows
in_rows rows i k h small = omega arith

pub same_long : (k : ℕ) (these those : List ℕ) → length these ≡ length those → length (column k these) ≡ length (column k those)
same_long k these those e = omega (arith, length_column k these, length_column k those)

-- a store to the list is a store to its column, and leaves the others
module _ (rows : List ℕ) (i k v : ℕ) (small : k < width) where
  abbrev after : List ℕ
  after = set rows (width * i + k) v

  tall : height after ≡ height rows
  tall = ap (λ (n : ℕ). n / width) (length-set rows (width * i + k) v)

  long : (l : ℕ) → length (column l after) ≡ length (column l rows)
  long l = length_column l after ∙ tall ∙ sym (length_column l rows)

  pub column_set : column k after ≡ set (column k rows) i v
  column_set = ext_get_or 0 _ _ (long k ∙ sym (length-set (column k rows) i v)) (λ j h.
      let row : j < height rows = omega (arith, is_row k after j h, tall) in
      cell k after j (is_row k after j h) ∙
      by_cases (ℕ_discrete j i)
      (λ e.
      let there : i < height rows = omega arith in
      rw (e, get_or-set_same rows (width * i + k) v 0 (in_rows rows i k there small), get_or-set_same (column k rows) i v 0 (omega (arith, length_column k rows))))
      (λ ne.
      rw (get_or-set_other rows (width * i + k) (width * j + k) v 0 (omega arith), get_or-set_other (column k rows) i j v 0 ne) (sym (cell k rows j row))))

  pub column_kept : (l : ℕ) → l < width → l ≢ k → column l after ≡ column l rows
  column_kept l little other = ext_get_or 0 _ _ (long l) (λ j h.
      let row : j < height rows = omega (arith, is_row l after j h, tall) in
      cell l after j (is_row l after j h) ∙ get_or-set_other rows (width * i + k) (width * j + l) v 0 (omega arith) ∙ sym (cell l rows j row))

-- numbers written into row i, from place k on
unfoldable pub written : ℕ → List ℕ → ℕ → List ℕ → List ℕ
written k rows i [] = rows
written k rows i (v ∷ vs) = written (suc k) (set rows (width * i + k) v) i vs

-- what they leave of the columns before them
before_written : (k : ℕ) (rows : List ℕ) (i : ℕ) (vs : List ℕ) → k + length vs ≤ width → (l : ℕ) → l < k → column l (written k rows i vs) ≡ column l rows
unfolding written
before_written k rows i [] fits l past = refl
before_written k rows i (v ∷ vs) fits l past =
    before_written (suc k) (set rows (width * i + k) v) i vs (omega arith) l (omega arith)
    ∙ column_kept rows i k v (omega arith) l (omega arith) (omega arith)

-- each is a store to its column
written_from : (k : ℕ) (rows : List ℕ) (i : ℕ) (vs : List ℕ) → k + length vs ≤ width → (j : ℕ) → j < length vs →
    column (k + j) (written k rows i vs) ≡ set (column (k + j) rows) i (get_or vs j 0)
unfolding written
written_from k rows i [] fits j h = absurd (omega arith)
written_from k rows i (v ∷ vs) fits ℕ.zero h =
    before_written (suc k) (set rows (width * i + k) v) i vs (omega arith) (k + 0) (omega arith)
    ∙ ap (λ (l : ℕ). column l (set rows (width * i + k) v)) (omega arith)
    ∙ column_set rows i k v (omega arith)
    ∙ ap (λ (l : ℕ). set (column l rows) i v) (omega arith)
written_from k rows i (v ∷ vs) fits (ℕ.suc j) h =
    let on : k + suc j ≡ suc k + j = omega arith in
    ap (λ (l : ℕ). column l (written (suc k) (set rows (width * i + k) v) i vs)) on
    ∙ written_from (suc k) (set rows (width * i + k) v) i vs (omega arith) j (omega arith)
    ∙ ap (λ (c : List ℕ). set c i (get_or vs j 0)) (column_kept rows i k v (omega arith) (suc k + j) (omega arith) (omega arith))
    ∙ ap (λ (l : ℕ). set (column l rows) i (get_or vs j 0)) (sym on)

-- a row written anew
abbrev pub rewritten : List ℕ → ℕ → List ℕ → List ℕ
rewritten rows i vs = written 0 rows i vs

pub rewritten_column : (rows : List ℕ) (i : ℕ) (vs : List ℕ) → length vs ≡ width → (k : ℕ) → k < width →
    column k (rewritten rows i vs) ≡ set (column k rows) i (get_or vs k 0)
rewritten_column rows i vs whole k small =
    let same : k ≡ 0 + k = omega arith in
    ap (λ (l : ℕ). column l (rewritten rows i vs)) same
    ∙ written_from 0 rows i vs (omega arith) k (omega arith)
    ∙ ap (λ (l : ℕ). set (column l rows) i (get_or vs k 0)) (sym same)

-- blank rows have blank columns
pub column_blank : (k n : ℕ) → k < width → column k (replicate (width * n) 0) ≡ replicate n 0
column_blank k n small =
    let tall : height (replicate (width * n) 0) ≡ n = omega (arith, length-replicate {A = ℕ} (width * n) 0) in
    ext_get_or 0 _ _ (length_column k _ ∙ tall ∙ sym (length-replicate n 0)) (λ i h.
    let row = is_row k (replicate (width * n) 0) i h in
    cell k (replicate (width * n) 0) i row ∙ get_or-replicate (width * n) (width * i + k) 0 0 (omega arith) ∙ sym (get_or-replicate n i 0 0 (omega arith)))

-- lists of whole rows are equal if their columns are
pub same_columns : (n : ℕ) (these those : List ℕ) → length these ≡ width * n → length those ≡ width * n →
    ((k : ℕ) → k < width → column k these ≡ column k those) → these ≡ those
same_columns n these those long also same = ext_get_or 0 _ _ (long ∙ sym also) (λ i h.
    let at : width * (i / width) + i % width ≡ i = omega arith in
    ap (λ (j : ℕ). get_or these j 0) (sym at)
    ∙ sym (cell (i % width) these (i / width) (omega arith))
    ∙ ap (λ (l : List ℕ). get_or l (i / width) 0) (same (i % width) (omega arith))
    ∙ cell (i % width) those (i / width) (omega arith)
    ∙ ap (λ (j : ℕ). get_or those j 0) at)
