-- `combinators::entries::add` meets its contract. A turn: its entry is there, and it is added.
use mathlib.Core.Path.{◌≡◌, refl}
use Prim.Native.Nat.{ℕ}
use lib.ListN.{length}
use Rattle.combinators.specs.Entering.{Part, part}
use Rattle.combinators.proofs.EachEntry.{adding_begins, adding_answer, adding_small, adding_again, adding_ends}
use Rattle.combinators.proofs.entries.add.Goals as goal
use Rattle.combinators.proofs.entries.add.Given.{Over}
use Rattle.combinators.proofs.entries.add.Goals.{After-add}
use borrow.Author.Rules.{rules}

-- the table after the call, with so many entries
abbrev then : {g : Over} → After-add g → ℕ → Part
then c n = part c.add.new.parent c.add.new.rows n c.args.links

pub loop-b-init : goal.loop-b-init
loop-b-init g c = adding_begins c.requires

pub unwrap-requires : goal.unwrap-requires
unwrap-requires g c =
    let all : length c.args.bounds ≡ g.row.N = search rules in
    let answer = adding_answer c.loop-b.invariant (rw all c.loop-b-test.true) (then (goal.at.unwrap-requires g c).After-add) refl (λ rank trail. refl) c.add.ensures in
    rw answer (search rules)

pub overflow_add-entries : goal.overflow_add-entries
overflow_add-entries g c =
    let all : length c.args.bounds ≡ g.row.N = search rules in
    record { fits = adding_small c.loop-b.invariant (rw all c.loop-b-test.true) (then (goal.at.overflow_add-entries g c).After-add) refl (λ rank trail. refl) c.add.ensures }

pub loop-b-preserved : goal.loop-b-preserved
loop-b-preserved g c =
    let all : length c.args.bounds ≡ g.row.N = search rules in
    adding_again c.loop-b.invariant (rw all c.loop-b-test.true) (then (goal.at.loop-b-preserved g c).After-add) refl (λ rank trail. refl) c.add.ensures

pub returns : goal.returns
returns g c = let all : length c.args.bounds ≡ g.row.N = search rules in adding_ends c.loop-b.invariant (rw all c.loop-b-test.false)
