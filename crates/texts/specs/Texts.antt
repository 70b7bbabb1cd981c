-- The rule texts, byte for byte: document 01, "Types, entries and nodes". A `×` is the two bytes 195, 151.
use Rattle.std.specs.Prelude.{List, [], ◌∷◌, ◌++◌, ℕ, ◌≤◌, ◌<◌, length, get_or, drop, Result, Ok, Err}
use Rattle.texts.specs.declared.Unwritten.{Unwritten}
use Rattle.texts.specs.declared.Unwritten.TheVariants.{NoRoom, NoRule}

-- 1: comp combinator: left target = right source
abbrev pub text_1 : List ℕ
text_1 =
    99 ∷ 111 ∷ 109 ∷ 112 ∷ 32 ∷ 99 ∷ 111 ∷ 109 ∷ 98 ∷ 105 ∷ 110 ∷ 97 ∷ 116 ∷ 111 ∷ 114 ∷ 58 ∷ 32 ∷ 108 ∷ 101 ∷ 102 ∷
    116 ∷ 32 ∷ 116 ∷ 97 ∷ 114 ∷ 103 ∷ 101 ∷ 116 ∷ 32 ∷ 61 ∷ 32 ∷ 114 ∷ 105 ∷ 103 ∷ 104 ∷ 116 ∷ 32 ∷ 115 ∷ 111 ∷
    117 ∷ 114 ∷ 99 ∷ 101 ∷ []

-- 2: pair combinator: left source = right source
abbrev pub text_2 : List ℕ
text_2 =
    112 ∷ 97 ∷ 105 ∷ 114 ∷ 32 ∷ 99 ∷ 111 ∷ 109 ∷ 98 ∷ 105 ∷ 110 ∷ 97 ∷ 116 ∷ 111 ∷ 114 ∷ 58 ∷ 32 ∷ 108 ∷ 101 ∷ 102 ∷
    116 ∷ 32 ∷ 115 ∷ 111 ∷ 117 ∷ 114 ∷ 99 ∷ 101 ∷ 32 ∷ 61 ∷ 32 ∷ 114 ∷ 105 ∷ 103 ∷ 104 ∷ 116 ∷ 32 ∷ 115 ∷ 111 ∷
    117 ∷ 114 ∷ 99 ∷ 101 ∷ []

-- 3: case combinator: left source = A × C
abbrev pub text_3 : List ℕ
text_3 =
    99 ∷ 97 ∷ 115 ∷ 101 ∷ 32 ∷ 99 ∷ 111 ∷ 109 ∷ 98 ∷ 105 ∷ 110 ∷ 97 ∷ 116 ∷ 111 ∷ 114 ∷ 58 ∷ 32 ∷ 108 ∷ 101 ∷ 102 ∷
    116 ∷ 32 ∷ 115 ∷ 111 ∷ 117 ∷ 114 ∷ 99 ∷ 101 ∷ 32 ∷ 61 ∷ 32 ∷ 65 ∷ 32 ∷ 195 ∷ 151 ∷ 32 ∷ 67 ∷ []

-- 4: case combinator: left source = B × C
abbrev pub text_4 : List ℕ
text_4 =
    99 ∷ 97 ∷ 115 ∷ 101 ∷ 32 ∷ 99 ∷ 111 ∷ 109 ∷ 98 ∷ 105 ∷ 110 ∷ 97 ∷ 116 ∷ 111 ∷ 114 ∷ 58 ∷ 32 ∷ 108 ∷ 101 ∷ 102 ∷
    116 ∷ 32 ∷ 115 ∷ 111 ∷ 117 ∷ 114 ∷ 99 ∷ 101 ∷ 32 ∷ 61 ∷ 32 ∷ 66 ∷ 32 ∷ 195 ∷ 151 ∷ 32 ∷ 67 ∷ []

-- 5: case combinator: left target = right target
abbrev pub text_5 : List ℕ
text_5 =
    99 ∷ 97 ∷ 115 ∷ 101 ∷ 32 ∷ 99 ∷ 111 ∷ 109 ∷ 98 ∷ 105 ∷ 110 ∷ 97 ∷ 116 ∷ 111 ∷ 114 ∷ 58 ∷ 32 ∷ 108 ∷ 101 ∷ 102 ∷
    116 ∷ 32 ∷ 116 ∷ 97 ∷ 114 ∷ 103 ∷ 101 ∷ 116 ∷ 32 ∷ 61 ∷ 32 ∷ 114 ∷ 105 ∷ 103 ∷ 104 ∷ 116 ∷ 32 ∷ 116 ∷ 97 ∷ 114 ∷
    103 ∷ 101 ∷ 116 ∷ []

-- 6: disconnect combinator: left source = 2^256 × A
abbrev pub text_6 : List ℕ
text_6 =
    100 ∷ 105 ∷ 115 ∷ 99 ∷ 111 ∷ 110 ∷ 110 ∷ 101 ∷ 99 ∷ 116 ∷ 32 ∷ 99 ∷ 111 ∷ 109 ∷ 98 ∷ 105 ∷ 110 ∷ 97 ∷ 116 ∷
    111 ∷ 114 ∷ 58 ∷ 32 ∷ 108 ∷ 101 ∷ 102 ∷ 116 ∷ 32 ∷ 115 ∷ 111 ∷ 117 ∷ 114 ∷ 99 ∷ 101 ∷ 32 ∷ 61 ∷ 32 ∷ 50 ∷ 94 ∷
    50 ∷ 53 ∷ 54 ∷ 32 ∷ 195 ∷ 151 ∷ 32 ∷ 65 ∷ []

-- 7: disconnect combinator: left target = B × C
abbrev pub text_7 : List ℕ
text_7 =
    100 ∷ 105 ∷ 115 ∷ 99 ∷ 111 ∷ 110 ∷ 110 ∷ 101 ∷ 99 ∷ 116 ∷ 32 ∷ 99 ∷ 111 ∷ 109 ∷ 98 ∷ 105 ∷ 110 ∷ 97 ∷ 116 ∷
    111 ∷ 114 ∷ 58 ∷ 32 ∷ 108 ∷ 101 ∷ 102 ∷ 116 ∷ 32 ∷ 116 ∷ 97 ∷ 114 ∷ 103 ∷ 101 ∷ 116 ∷ 32 ∷ 61 ∷ 32 ∷ 66 ∷ 32 ∷
    195 ∷ 151 ∷ 32 ∷ 67 ∷ []

-- the text of a rule; a number that names none has no bytes
abbrev pub text : ℕ → List ℕ
text rule = get_or ([] ∷ text_1 ∷ text_2 ∷ text_3 ∷ text_4 ∷ text_5 ∷ text_6 ∷ text_7 ∷ []) rule []

-- no text is longer
abbrev pub longest : ℕ
longest = 47

-- words at the front of a buffer that has room for them; a shorter one is as it was. Either way it is said how many they are
pub data AtFront (words out : List ℕ) : Result ℕ Unwritten → List ℕ → Type 0 where
  fits : length words ≤ length out → AtFront words out (Ok (length words)) (words ++ drop (length words) out)
  no_room : length out < length words → AtFront words out (Err (NoRoom (length words))) out

-- the text of a rule written; a number that names none writes nothing
pub data Written (rule : ℕ) (out : List ℕ) : Result ℕ Unwritten → List ℕ → Type 0 where
  written : {r : Result ℕ Unwritten} {out' : List ℕ} → 1 ≤ rule → rule ≤ 7 → AtFront (text rule) out r out' → Written rule out r out'
  no_rule : (1 ≤ rule → rule ≤ 7 → ⊥) → Written rule out (Err NoRule) out
