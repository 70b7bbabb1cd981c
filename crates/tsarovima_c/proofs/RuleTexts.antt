-- What `text::write` answered, as the call's number and buffer.
use mathlib.Core.Path.{refl, sym}
use mathlib.Core.Logic.{if_pos, if_neg}
use mathlib.Core.List.{List}
use Prim.Native.Nat.{ℕ, zero-le}
use native.Mathlib.Decide.{dec_le}
use native.Mathlib.Omega.{arith}
use Rattle.std.specs.Prelude.{Result, Ok, Err}
use Rattle.texts.specs.Texts.{Written}
use Rattle.texts.specs.Texts.AtFront.{fits, no_room}
use Rattle.texts.specs.Texts.Written.{written, no_rule}
use Rattle.texts.specs.declared.Unwritten.{Unwritten}
use Rattle.texts.specs.declared.Unwritten.TheVariants.{NoRoom, NoRule}
use Rattle.texts.proofs.Texts.{no_text}
use Rattle.tsarovima_c.specs.Lent.{TextBy}

-- how many bytes the text has, by the answer
abbrev pub bytes_of : Result ℕ Unwritten → ℕ
bytes_of (Ok n) = n
bytes_of (Err (NoRoom n)) = n
bytes_of (Err NoRule) = 0

pub text_by : (rule : ℕ) {lent lent' : List ℕ} {w : Result ℕ Unwritten} → Written rule lent w lent' → TextBy rule lent (bytes_of w) lent'
text_by rule (written from to (fits room)) = (refl, sym (if_pos (dec_le _ _) room _ _))
text_by rule (written from to (no_room short)) = (refl, sym (if_neg (dec_le _ _) (λ room. omega (arith, room, short)) _ _))
text_by rule (no_rule none) = rw (no_text rule none) (refl, sym (if_pos (dec_le _ _) zero-le _ _))
