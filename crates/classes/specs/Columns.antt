-- The component table as it is lent: a row of numbers for each entry. The numbers at one place of every row are a column, and the
-- lists of the class table are read off the columns. How wide a row is, and what stands where in it, is said here alone.
use Rattle.std.specs.Prelude.{List, [], ◌∷◌, ℕ, suc, ◌+◌, ◌*◌, ◌/◌, length, get_or, ◌≡◌}
use Rattle.classes.specs.Table.{Table, table, given_in}
use Rattle.classes.specs.Undoing.{Removable}
use Rattle.classes.specs.declared.Bound.{Bound}
use Rattle.classes.specs.declared.Mark.{Mark}

-- numbers in a row, and where each stands
abbrev pub width : ℕ
width = 4

abbrev pub kind_at : ℕ
kind_at = 0

abbrev pub left_at : ℕ
left_at = 1

abbrev pub right_at : ℕ
right_at = 2

abbrev pub shape_at : ℕ
shape_at = 3

-- how many entries there are rows for
abbrev pub height : List ℕ → ℕ
height rows = length rows / width

-- the first n values of f
unfoldable pub listed : ℕ → (ℕ → ℕ) → List ℕ
listed ℕ.zero f = []
listed (ℕ.suc n) f = f 0 ∷ listed n (λ i. f (suc i))

-- the numbers at one place of every row
unfoldable pub column : ℕ → List ℕ → List ℕ
column k rows = listed (height rows) (λ i. get_or rows (width * i + k) 0)

abbrev pub kinds : List ℕ → List ℕ
kinds = column kind_at

abbrev pub lefts : List ℕ → List ℕ
lefts = column left_at

abbrev pub rights : List ℕ → List ℕ
rights = column right_at

abbrev pub shapes : List ℕ → List ℕ
shapes = column shape_at

-- the class table that the lent slices hold, with these counts
abbrev pub laid : List ℕ → List ℕ → List ℕ → List ℕ → ℕ → ℕ → Table
laid parent rank rows trail entries links =
    table parent rank (shapes rows) (kinds rows) (lefts rows) (rights rows) trail entries links

abbrev pub lent : List ℕ → List ℕ → List ℕ → List ℕ → Mark → Table
lent parent rank rows trail live = laid parent rank rows trail live.entries live.links

-- the bound that entry `a` was given
abbrev pub given_row : List ℕ → ℕ → Bound
given_row rows a = given_in (kinds rows) (lefts rows) (rights rows) a

-- the premises and promises of private functions: two lists of rows have the same bounds; every row that goes is there
abbrev pub SameBounds : List ℕ → List ℕ → Type 0
SameBounds these those = (kinds these ≡ kinds those) × (lefts these ≡ lefts those) × (rights these ≡ rights those)

abbrev pub Clearable : List ℕ → List ℕ → List ℕ → ℕ → Type 0
Clearable parent rank rows entries = Removable parent rank (shapes rows) (kinds rows) (lefts rows) (rights rows) entries
