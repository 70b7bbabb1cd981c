-- No second outcome where no other crate says so: of the calls on the state by value, and of a record put by a host.
use mathlib.Core.Path.{◌≡◌, sym, ◌∙◌, subst}
use mathlib.Core.List.{List}
use Prim.Native.Nat.{ℕ}
use lib.ListN.{get_or}
use Rattle.nodes.specs.declared.Record.{Record}
use Rattle.types.specs.Limits.{most_nodes}
use Rattle.types.specs.States.{Opened}
use Rattle.types.proofs.Fixed.{same_nodes_same_state}
use Rattle.calls.specs.Values.{state_of}
use Rattle.calls.specs.declared.Owned.{Owned as Value}
use Rattle.tsarovima_c.specs.Lent.{Tables, Lent, lent, RecordedBy}
use Rattle.tsarovima_c.specs.Lent as Host
use Rattle.tsarovima_c.proofs.Once.{recorded_once}
use Rattle.demands.specs.Kinds.{Said, Arrays, FreshValue, ValueCall}
use Rattle.demands.proofs.Chained.{same_step}
use Rattle.demands.proofs.Meanings.{same_value, value_calls}

-- `calls::open`
pub no_second_value_is_opened : {v w : Value} → FreshValue v → FreshValue w → v ≡ w
no_second_value_is_opened (long, (o, none)) (also, (p, nothing)) =
    same_value long also (same_nodes_same_state o p (none ∙ sym nothing) (long.parents ∙ sym also.parents))

-- `calls::offer`, `calls::take_back`, `calls::close`
pub no_second_answer_by_value : {v w w' : Value} {r : Record} {x x' : Said} → Arrays v →
    Opened most_nodes (state_of v) → ValueCall v r x w → ValueCall v r x' w' → (x ≡ x') × (w ≡ w')
no_second_answer_by_value long o a b = same_step value_calls long o a b

-- `tsarovima_record` on tables that are the same, where the same buffers are lent: all is left alike, but for what
-- docs/EXCEPTIONS.md names
pub same_buffers_are_left_alike : {x y : Tables} (work listing answer bytes : List ℕ) {r r' : ℕ} {is is' : Lent} →
    x ≡ y →
    Opened most_nodes (Host.state_of x) → RecordedBy (lent x work listing answer) bytes r is →
    RecordedBy (lent y work listing answer) bytes r' is' →
    (r ≡ r') × (is.tables ≡ is'.tables) × (is.answer ≡ is'.answer)
    × ((get_or is.answer 0 0 ≡ 5 → ⊥) → is.listing ≡ is'.listing)
same_buffers_are_left_alike work listing answer bytes {r' = r'} {is' = is'} same o a b =
    recorded_once (λ long. o) a
    (subst (λ (z : Tables). RecordedBy (lent z work listing answer) bytes r' is') (sym same) b)
