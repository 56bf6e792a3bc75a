use Rattle.cvc_run.specs.declared.stage.Refused.{Refused}
use Rattle.cvc_run.proofs.Ending.{job_answers}
use Rattle.cvc_run.proofs.Loading.{at_any}
use Rattle.cvc_run.proofs.run.check.Goals as goal

pub returns-clause-answer : goal.returns-clause-answer
returns-clause-answer g c =
    let run = c.judge_files-run in
    job_answers (g.S.Shelf.files c.args.shelf.now) c.args.job.now run.result (g.S.Shelf.faults c.args.shelf.now) (g.S.Shelf.faults run.new.shelf) _ c.tell_run.result run.ensures.said run.ensures.checked run.ensures.telling run.ensures.cause c.tell_run.ensures.told

pub tell_run-requires-clause-refusal : goal.tell_run-requires-clause-refusal
tell_run-requires-clause-refusal g c = at_any c.judge_files-run.result (λ (r : Refused). Unit {0}) (λ refusal. tt)
