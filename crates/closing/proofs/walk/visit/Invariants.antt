-- `closing::walk::visit` meets its contract. The invariant: what holds between the steps of a walk that began with the class of a.
use mathlib.Core.Path.{◌≡◌}
use mathlib.Core.List.{List}
use Prim.Native.Nat.{ℕ, ◌+◌, ◌*◌, ◌<◌}
use lib.ListN.{length}
use Rattle.classes.specs.Columns.{laid}
use Rattle.classes.specs.Forced.{Rule}
use Rattle.classes.specs.Table.{root_in}
use Rattle.classes.specs.Made.{Stands}
use Rattle.typing.specs.Types.{Ty}
use Rattle.closing.specs.Walking.{mark_at, path_in, opened}
use Rattle.closing.specs.Visiting.{unseen, Settled}
use Rattle.closing.proofs.Walks.{Walking}
use Rattle.closing.proofs.walk.visit.Given as goal

abbrev pub invariant-loop-at : goal.invariant-loop-at
invariant-loop-at l =
    ((length l.work ≡ length l.initial.work) × (length l.listing ≡ length l.initial.listing))
    × ((begun rank trail : List ℕ) (links : ℕ) (rules : List Rule) (ts₀ : List Ty) →
    Stands (laid l.parent rank l.rows trail l.entries links) rules →
    Settled (laid l.parent rank l.rows trail l.entries links) rules begun l.initial.listing l.count ts₀ →
    l.a < l.entries → mark_at begun (root_in l.parent l.a) ≡ 0 → l.initial.work ≡ opened begun 0 (root_in l.parent l.a) →
    ((ts : List Ty) × Walking (laid l.parent rank l.rows trail l.entries links) rules begun l.initial.listing l.count ts₀ (root_in l.parent l.a) l.work l.listing (path_in l.work l.at.depth) l.at.types ts))

abbrev pub decreases-loop-at : goal.decreases-loop-at
decreases-loop-at l = 2 * unseen l.work l.entries + l.at.depth
