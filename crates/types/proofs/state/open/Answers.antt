-- `types::state::open` meets its contract. The invariant: adding the standing entries that are left from here gives what adding all gives from the start.
use mathlib.Core.Path.{◌≡◌, refl, ◌∙◌}
use Prim.Native.Nat.{ℕ, ◌<◌}
use native.Mathlib.Omega.{arith}
use lib.ListN.{length}
use Rattle.std.proofs.Common.{rules}
use Rattle.std.specs.Prelude.{Some}
use Rattle.nodes.specs.Layout.{standing}
use Rattle.combinators.specs.Entering.{Part, part}
use Rattle.combinators.proofs.EachEntry.{adding_answer, adding_again}
use Rattle.types.proofs.Stood.{standing_length}
use Rattle.types.proofs.Opening.{opening_begins, opening_ends}
use Rattle.types.proofs.state.open.Goals as goal
use Rattle.types.proofs.state.open.Goals.{After-add}

-- a turn: its entry is there, and it is added
module _ (c : After-add) where
  there : c.loop-i.i < length standing
  there = omega (arith, c.loop-i-test.true, standing_length)

  abbrev then : ℕ → Part
  then n = part c.add.new.parent c.add.new.rows n 0

  answer : c.add.result ≡ Some c.loop-i.i
  answer = adding_answer c.loop-i.invariant.2 there then c.standing_bound.ensures (λ rank trail. refl) c.add.ensures

pub loop-i-init : goal.loop-i-init
loop-i-init c = (refl, refl, opening_begins c.requires.1 c.requires.2 c.requires.3 c.requires.4)

pub add-requires : goal.add-requires
add-requires c = (c.loop-i.invariant.2.room.0, c.loop-i.invariant.2.room.1, c.loop-i.invariant.2.room.2.made)

pub unwrap-requires : goal.unwrap-requires
unwrap-requires c = rw (answer (goal.at.unwrap-requires c).After-add) (search rules)

pub loop-i-preserved : goal.loop-i-preserved
loop-i-preserved c =
    (c.add.auto.parent ∙ c.loop-i.invariant.0, c.add.auto.rows ∙ c.loop-i.invariant.1, adding_again c.loop-i.invariant.2 (there (goal.at.loop-i-preserved c).After-add) (then (goal.at.loop-i-preserved c).After-add) c.standing_bound.ensures (λ rank trail. refl) c.add.ensures)

pub returns : goal.returns
returns c =
    (refl, opening_ends c.requires.1 c.requires.2 c.requires.3 c.requires.4 _ _ c.loop-i.invariant.2 c.loop-i-test.false)
