-- `closing::listing::visit_all` meets its contract. The invariant: the first `i` nodes have types, and these are numbered.
use mathlib.Core.Path.{◌≡◌}
use mathlib.Core.List.{List, []}
use Prim.Native.Nat.{ℕ}
use lib.ListN.{length}
use Rattle.classes.specs.Columns.{laid}
use Rattle.classes.specs.Forced.{Rule}
use Rattle.classes.specs.Made.{Stands}
use Rattle.closing.specs.Visiting.{Settled}
use Rattle.closing.specs.Writing.{Through}
use Rattle.closing.proofs.listing.visit_all.Given as goal

abbrev pub invariant-loop-i : goal.invariant-loop-i
invariant-loop-i l =
    ((length l.work ≡ length l.initial.work) × (length l.listing ≡ length l.initial.listing))
    × ((rank trail : List ℕ) (links : ℕ) (rules : List Rule) →
    Stands (laid l.parent rank l.rows trail l.entries links) rules →
    Settled (laid l.parent rank l.rows trail l.entries links) rules l.initial.work l.initial.listing 0 [] →
    Through (laid l.parent rank l.rows trail l.entries links) rules l.nodes l.initial.listing l.i l.work l.listing l.count)
