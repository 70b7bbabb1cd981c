-- The premise of the record calls can be met: tables that came from opening and these calls meet it, whatever else is lent.
use mathlib.Core.List.{List}
use Prim.Native.Nat.{ℕ}
use Rattle.types.specs.Limits.{most_nodes}
use Rattle.types.specs.States.{Opened}
use Rattle.tsarovima_c.specs.Lent.{Tables, state_of, OpenedBy, Lent, OpenedIfLong, RecordedBy}

pub opened_meets_the_premise : (x : Lent) (bytes : List ℕ) → Opened most_nodes (state_of x.tables) → OpenedIfLong x bytes
opened_meets_the_premise x bytes o = λ long. o

pub opening_opens : {was is : Tables} → OpenedBy was 0 is → Opened most_nodes (state_of is)
opening_opens (OpenedBy.done sized long o none) = o

-- also after a wrong length
pub recording_stays_opened : {was is : Lent} {bytes : List ℕ} {r : ℕ} → RecordedBy was bytes r is →
    Opened most_nodes (state_of was.tables) → Opened most_nodes (state_of is.tables)
recording_stays_opened (RecordedBy.done long sized puts) o = (puts o).called.after
recording_stays_opened (RecordedBy.wrong_length not) o = o
