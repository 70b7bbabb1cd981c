-- `combinators::each::enter_case` meets its contract: the six entries, then the products.
use mathlib.Core.List.{List, []}
use Rattle.classes.specs.declared.Bound.{Bound}
use Rattle.nodes.specs.Layout.{case_entries}
use Rattle.combinators.specs.Entering.{Part, part}
use Rattle.combinators.proofs.Added.{front, rest, both}
use Rattle.combinators.proofs.each.enter_case.Given.{Over}
use Rattle.combinators.proofs.each.enter_case.Goals.{Start}
use borrow.Author.Rules.{rules}
use Rattle.combinators.proofs.each.enter_case.Goals as goal

-- the table that was lent, and the six entries of any case
abbrev lent : {g : Over} → Start g → Part
lent c = part c.args.parent.now c.args.rows.now c.args.e c.args.links

abbrev six : {g : Over} → Start g → List Bound
six c = case_entries c.args.e []

pub add_case-six-requires : goal.add_case-six-requires
add_case-six-requires g c =
    record { entries_bound = c.requires.entries_bound; room = front (lent (goal.at.add_case-six-requires g c).Start) (six (goal.at.add_case-six-requires g c).Start) c.args.products c.requires.room }

pub add-entries-requires : goal.add-entries-requires
add-entries-requires g c =
    (search rules, rest (lent (goal.at.add-entries-requires g c).Start) (six (goal.at.add-entries-requires g c).Start) c.args.products _ c.add_case-six.ensures c.requires.room)

pub returns-clause-entries : goal.returns-clause-entries
returns-clause-entries g c =
    both (lent (goal.at.returns-clause-entries g c).Start) (six (goal.at.returns-clause-entries g c).Start) c.args.products _ c.add_case-six.ensures _ c.add-entries.ensures
