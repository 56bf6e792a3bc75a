use Rattle.cvc_run.specs.declared.stage.Refused.{Refused}
use Rattle.cvc_run.proofs.Ending.{survey_answers}
use Rattle.cvc_run.proofs.Loading.{at_any}
use Rattle.cvc_run.proofs.run.survey.Goals as goal

pub returns-clause-answer : goal.returns-clause-answer
returns-clause-answer g c =
    let run = c.judge_generated-run in
    survey_answers c.args.seed c.args.size run.result _ c.tell_run.result run.ensures.said run.ensures.checked run.ensures.telling run.ensures.unread c.tell_run.ensures.told

pub tell_run-requires-clause-refusal : goal.tell_run-requires-clause-refusal
tell_run-requires-clause-refusal g c = at_any c.judge_generated-run.result (λ (r : Refused). Unit {0}) (λ refusal. tt)
