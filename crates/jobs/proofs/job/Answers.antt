-- `jobs::job` meets its contract: it refuses, or runs the job on fresh tables.
use mathlib.Core.Path.{sym, ◌∙◌}
use Rattle.std.proofs.lemmas.Result.{err_from_is_err_and}
use Rattle.jobs.specs.Jobs.{Job}
use Rattle.jobs.proofs.job.Goals as goal

pub returns-in_err-judge : goal.returns-in_err-judge
returns-in_err-judge c =
    let p = err_from_is_err_and c.from_residual.result c.from_residual.ensures.1 in
    rw (p.1, p.2) (Job.refused (sym c.judge.ensures ∙ c.in_err-judge.was) (λ e. absurd cc))

pub run_on_fresh_tables-requires : goal.run_on_fresh_tables-requires
run_on_fresh_tables-requires c = sym c.judge.ensures ∙ c.in_ok-judge.was
