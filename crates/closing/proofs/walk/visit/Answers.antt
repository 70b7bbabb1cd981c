-- `closing::walk::visit` meets its contract. The invariant: what holds between the steps of a walk that began with the class of a.
use mathlib.Core.Path.{◌≡◌, refl, sym, ◌∙◌, ap, subst, subst₂}
use mathlib.Core.List.{List, []}
use Prim.Native.Nat.{ℕ, ◌+◌, ◌*◌, ◌<◌}
use native.Mathlib.Omega.{arith}
use Rattle.classes.specs.Columns.{laid}
use Rattle.classes.specs.Forced.{Rule}
use Rattle.classes.specs.Table.{Table, root_in}
use Rattle.classes.specs.Made.{Stands}
use Rattle.typing.specs.Types.{Ty}
use Rattle.closing.specs.Walking.{path_in, opened}
use Rattle.closing.specs.Visiting.{unseen, Settled}
use Rattle.closing.specs.declared.walk.Reached.{Reached}
use Rattle.std.specs.Prelude.{Ok, Err}
use Rattle.std.proofs.lemmas.Result.{err_from_is_err_and}
use Rattle.classes.proofs.Laws.{made_good, made_rooted, root_live, is_row}
use Rattle.closing.proofs.Walks.{Walking, After, top_there}
use Rattle.classes.specs.Columns.{kind_at, shape_at}
use Rattle.closing.proofs.Visits.{seeable, seen_low, steppable, walked_on, walking_begins, visited_done, visited_endless}
use Rattle.closing.proofs.walk.visit.Goals as goal
use Rattle.closing.proofs.walk.visit.Goals.{At-loop-at, In-loop-at, In_ok-at, In_err-at}

pub root-requires : goal.root-requires
root-requires c = made_rooted c.requires.by_index.5.made _ c.requires.a_lt_entries

pub open-at-requires : goal.open-at-requires
open-at-requires c =
    let low : c.root.result < c.args.entries = rw c.root.ensures (root_live (made_good c.requires.by_index.5.made).forest _ c.requires.a_lt_entries) in
    (omega (arith, low, c.requires.by_index.6.types.chains.work_room), omega (arith, low, c.requires.by_index.6.types.chains.work_room), omega arith)

-- no class on the path
ended : {t : Table} {rules : List Rule} {work₀ listing₀ work listing : List ℕ} {count₀ : ℕ} {ts₀ ts : List Ty} {bottom count : ℕ} (depth : ℕ) → depth ≡ 0 →
    Walking t rules work₀ listing₀ count₀ ts₀ bottom work listing (path_in work depth) count ts → Walking t rules work₀ listing₀ count₀ ts₀ bottom work listing [] count ts
unfolding path_in
ended {t} {rules} {work₀} {listing₀} {work} {listing} {count₀} {ts₀} {ts} {bottom} {count} depth e w =
    subst (λ (d : ℕ). Walking t rules work₀ listing₀ count₀ ts₀ bottom work listing (path_in work d) count ts) e w

module _ (c : At-loop-at) where
  abbrev lent : List ℕ → List ℕ → ℕ → Table
  lent rank trail links =
      laid c.args.parent.now rank c.args.rows.now trail c.args.entries links

  walking : {rank trail : List ℕ} {links : ℕ} {rules : List Rule} {ts₀ : List Ty} → Stands (lent rank trail links) rules →
      Settled (lent rank trail links) rules c.args.work.now c.args.listing.now c.args.count ts₀ →
      (ts : List Ty) × Walking (lent rank trail links) rules c.args.work.now c.args.listing.now c.args.count ts₀ (root_in c.args.parent.now c.args.a) c.loop-at.work c.loop-at.listing (path_in c.loop-at.work c.loop-at.at.depth) c.loop-at.at.types ts
  walking {rank} {trail} {links} {rules} {ts₀} s q =
      c.loop-at.invariant.1 c.args.work.now rank trail links rules ts₀ s q c.requires.a_lt_entries c.requires.a_value
      (c.open-at.ensures.0 ∙ ap (opened c.args.work.now 0) c.root.ensures)

pub loop-at-init : goal.loop-at-init
loop-at-init c = (
  (refl, refl),
  λ begun rank trail links rules ts₀ s q there fresh is. (
    ts₀,
    subst₂ (λ (w : List ℕ) (g : Reached). Walking (laid c.args.parent.now rank c.args.rows.now trail c.args.entries links) rules begun c.args.listing.now c.args.count ts₀ (root_in c.args.parent.now c.args.a) w c.args.listing.now (path_in w g.depth) g.types ts₀)
        (sym is) (sym c.open-at.ensures.1) (walking_begins s q c.args.a there fresh (omega (arith, there))),
  ),
)

pub returns : goal.returns
returns c =
    λ rank trail links rules ts s q.
    let (us, w) = walking (goal.at.returns c).At-loop-at s q in
    visited_done s q c.args.a c.requires.a_lt_entries (ended c.loop-at.at.depth (omega (arith, c.loop-at-test.false)) w)

pub step-requires : goal.step-requires
step-requires c =
    let (us, w) = walking (goal.at.step-requires c).At-loop-at c.requires.by_index.5 c.requires.by_index.6 in
    let there = top_there c.requires.by_index.5 w c.loop-at-test.true in
    let (shaped, given, rooted) = seeable c.requires.by_index.5 _ there.0 there.2 in record { steppable = steppable c.requires.by_index.5 w c.loop-at-test.true; fact = (record { shaped = is_row shape_at c.args.rows.now _ shaped; given = is_row kind_at c.args.rows.now _ given; rooted = rooted }, seen_low c.requires.by_index.5 _ there.0 there.2) }

pub returns-in_err-at : goal.returns-in_err-at
returns-in_err-at c =
    let p = err_from_is_err_and c.from_residual.result c.from_residual.ensures.1 in
    rw (p.1) (λ rank trail links rules ts s q.
    let (us, w) = walking (goal.at.returns-in_err-at c).At-loop-at s q in
    visited_endless s q c.args.a c.requires.a_lt_entries (walked_on s w c.loop-at-test.true (Err _) _ _ c.in_err-at.ensures))

-- a step nearer to the end
module _ (c : In_ok-at) where
  onward : {rank trail : List ℕ} {links : ℕ} {rules : List Rule} {work₀ listing₀ : List ℕ} {count₀ : ℕ} {ts₀ ts : List Ty} {bottom : ℕ} → Stands (lent (goal.at.In_ok-at c).At-loop-at rank trail links) rules →
      Walking (lent (goal.at.In_ok-at c).At-loop-at rank trail links) rules work₀ listing₀ count₀ ts₀ bottom c.loop-at.work c.loop-at.listing (path_in c.loop-at.work c.loop-at.at.depth) c.loop-at.at.types ts →
      After (lent (goal.at.In_ok-at c).At-loop-at rank trail links) rules work₀ listing₀ count₀ ts₀ bottom (2 * unseen c.loop-at.work c.args.entries + c.loop-at.at.depth) (Ok c.in_ok-at.at) c.step.new.work c.step.new.listing
  onward s w = walked_on s w c.loop-at-test.true (Ok c.in_ok-at.at) _ _ c.in_ok-at.ensures

pub loop-at-smaller : goal.loop-at-smaller
loop-at-smaller c =
    let (us, w) = walking (goal.at.loop-at-smaller c).At-loop-at c.requires.by_index.5 c.requires.by_index.6 in
    (onward c c.requires.by_index.5 w).2

pub loop-at-preserved : goal.loop-at-preserved
loop-at-preserved c = (
  (c.step.auto.work ∙ c.loop-at.invariant.0.0, c.step.auto.listing ∙ c.loop-at.invariant.0.1),
  λ was rank trail links rules ts₀ s q there fresh is.
      let (us, w) = c.loop-at.invariant.1 was rank trail links rules ts₀ s q there fresh is in
      let (vs, x, less) = onward c s w in
      (vs, x),
)
