-- `jobs::run_on_fresh_tables` meets its contract: all the records are put, and what is shown is handed over.
use mathlib.Core.Path.{◌≡◌, refl, sym, ◌∙◌}
use mathlib.Core.List.{List}
use Prim.Native.Nat.{ℕ, ◌-◌, ◌/◌}
use native.Mathlib.Omega.{arith}
use lib.ListN.{length, length-replicate}
use Rattle.nodes.specs.declared.Node.{Node}
use Rattle.types.specs.Limits.{longest_listing, most_entries, most_nodes, work_long}
use Rattle.types.specs.States.{State}
use Rattle.types.specs.Lent.{held_by}
use Rattle.types.proofs.Begun.{opened_first}
use Rattle.headers.specs.Header.{judged}
use Rattle.std.specs.Prelude.{Ok}
use Rattle.std.proofs.lemmas.Result.{err_from_is_err_and}
use Rattle.headers.proofs.Judging.{Ready, ready}
use Rattle.jobs.specs.Jobs.{Job}
use Rattle.jobs.proofs.Running.{Ran, ran}
use Rattle.jobs.proofs.Finishing.{can_be_shown, finished}
use Rattle.jobs.proofs.run_on_fresh_tables.Goals as goal
use Rattle.jobs.proofs.run_on_fresh_tables.Goals.{After-run, Start}

ready_at : (c : Start) → Ready c.args.job.now (length c.args.answers.now) (length c.args.listing.now)
ready_at c = ready _ _ _ c.requires

pub open-live-requires : goal.open-live-requires
open-live-requires c = (most_entries, omega arith, omega arith, refl, refl)

pub run-requires : goal.run-requires
run-requires c =
    let ready = ready_at (goal.at.run-requires c).Start in record {
      opened = (opened_first most_nodes most_entries (omega arith) (omega arith) c.open-live.ensures.0 c.open-live.ensures.1).0;
      room = record {
        pairs = omega (arith, c.open-live.auto.parent, length-replicate {A = ℕ} most_entries 0, length-replicate {A = ℕ} work_long 0);
        marks = omega (arith, length-replicate {A = ℕ} work_long 0);
        numbers = omega (arith, c.clear.auto.listed, length-replicate {A = ℕ} longest_listing 0);
      };
      count_in_bounds = (omega (arith, ready.long), omega (arith, ready.long, ready.room));
    }

-- all the records are put: `start` is what was lent, `told` that the job can be run
module _ (c : After-run) where
  abbrev then : List ℕ
  then = c.run.new.answers

  abbrev listed : List ℕ
  listed = c.run.new.listed

  abbrev left : State
  left = held_by c.run.new.state

  all-put : (kept : List Node) × Ran c.args.job.now ((length c.args.job.now - 16) / 8) c.args.answers.now then listed kept
  all-put =
      ran {s' = left} (opened_first most_nodes most_entries (omega arith) (omega arith) c.open-live.ensures.0 c.open-live.ensures.1) c.clear.ensures c.run.ensures.puts

  listed_long : length listed ≡ longest_listing
  listed_long = c.run.auto.listed ∙ c.clear.auto.listed ∙ length-replicate {A = ℕ} longest_listing 0

pub show-requires : goal.show-requires
show-requires c =
    can_be_shown (all-put (goal.at.show-requires c).After-run).1 (listed_long (goal.at.show-requires c).After-run) (ready_at (goal.at.show-requires c).Start).numbers

pub returns : goal.returns
returns c =
    finished (all-put (goal.at.returns c).After-run).1 c.requires (omega (arith, (ready_at (goal.at.returns c).Start).long)) c.show.ensures
