-- `runs::put_bytes` meets its contract: what its calls promise, one after the other.
use Rattle.runs.proofs.Leaving.{recorded}
use Rattle.runs.proofs.put_bytes.Goals as goal

pub returns-clause-recorded : goal.returns-clause-recorded
returns-clause-recorded c =
    λ o.
    let told = c.put-answer.ensures.put o in
    recorded o c.args.bytes.now c.args.from told.1 told.2 c.write.ensures
