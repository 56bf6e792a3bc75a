-- What the runs of a job and of a survey answer.
use Rattle.std.proofs.Common.{◌≡◌, ℕ, inl, inr, List, [], ◌∷◌, Option, Some, None, refl, sym, ap, subst}
use Rattle.std.specs.Prelude.{IfSome, IfOk, IsOk, IsSomeAnd, Result, Ok, Err}
use Rattle.cvc_base.specs.declared.finding.Finding.{Finding}
use Rattle.cvc_io.specs.Files.{Counts, Files}
use Rattle.cvc_law.specs.declared.interval.Interval.{Interval}
use Rattle.cvc_law.specs.Rules.{findings_of}
use Rattle.cvc_run.specs.Due.{DueFailed}
use Rattle.cvc_run.specs.Outcome.{Behind, IsEnd, IsJobOutcome, IsOfFiles, JobOutcome, job_run, refused_ending, report_of, status_of, survey_run, survey_said}
use Rattle.cvc_run.specs.Outside.{Ending, Taken, ending}
use Rattle.cvc_run.specs.Run.{Answers, no_shelf}
use Rattle.cvc_run.specs.Said.{Whole, bound_of_job}
use Rattle.cvc_run.specs.Stages.{status_at}
use Rattle.cvc_run.specs.Stops.{Says, ReadOnlyWhere}
use Rattle.cvc_run.specs.Telling.{IsAccepted, IsChecked, IsTold, Stands, TellsRun, checked_ending, checked_whole, told_by}
use Rattle.cvc_run.specs.declared.checked.Checked.{Checked}
use Rattle.cvc_run.specs.declared.checked.Telling.{Telling}
use Rattle.cvc_run.specs.declared.checked.Telling.TheVariants.{Report, Summary}
use Rattle.cvc_run.specs.declared.stage.Refused.{Refused}
use Rattle.cvc_run.specs.declared.stage.Stage.{Stage}
use Rattle.cvc_run.specs.declared.status.Status.{Status}
use Rattle.cvc_run.specs.declared.stop.RunStop.{RunStop}
use Rattle.cvc_run.specs.declared.stop.RunStop.TheVariants.{At, Read, NoMemory}
use Rattle.cvc_run.proofs.Answering.{accepted_findings, run_answers, told_findings, told_refused}
use Rattle.cvc_words.specs.declared.command.Job.{Job}

told_checked : (c : Checked) → IsTold (checked_ending c).status
told_checked c = told_findings c.judged.findings

-- ## Accepted input

-- an accepted end has a status of accepted input
end_accepted : (told : Whole → List Interval → List ℕ) (said : Result Whole Refused) (e : Ending) → IsOk said → Behind refused_ending said (IsEnd told) e → IsAccepted e.status
end_accepted told (Ok w) e ok end = accepted_findings (findings_of w.circuit end.0) e.status (ap (λ x. x.status) end.2)
end_accepted told (Err refusal) e ok end = cc

job_accepted : (files : Option Files) (job : Job) (e : Ending) → IsSomeAnd files (λ fs. IsOk (bound_of_job fs job)) → JobOutcome files job e → IsAccepted e.status
job_accepted None job e ok end = absurd ok
job_accepted (Some fs) job e ok end = end_accepted (report_of job.nets) (bound_of_job fs job) e ok end.1

-- ## A run of what the files say

-- how it ends, where its answer is told so
ended : (telling : Telling) (c : Checked) (said : Result Whole Refused) → IsChecked c → c.telling ≡ telling → said ≡ Ok (checked_whole c) → Behind refused_ending said (IsEnd (told_by telling)) (checked_ending c)
ended telling c said checked same says =
    subst (λ (r : Result Whole Refused). Behind refused_ending r (IsEnd (told_by telling)) (checked_ending c)) (sym says)
    (c.judged.family, checked.judged.least, λ i. ending (status_of (checked.judged.found i)) (told_by (same i) (checked_whole c) c.judged.family))

refused_so : (told : Whole → List Interval → List ℕ) (r : Refused) (said : Result Whole Refused) → said ≡ Err r → Behind refused_ending said (IsEnd told) (refused_ending r)
refused_so told r said says = subst (λ (w : Result Whole Refused). Behind refused_ending w (IsEnd told) (refused_ending r)) (sym says) refl

of_findings : (found : List Finding) → IsOfFiles (status_of found)
of_findings [] = inl refl
of_findings (x ∷ xs) = inr (inl refl)

of_stage : (stage : Stage) → IsOfFiles (status_at stage)
of_stage stage = inr (inr (stage, refl))

of_told : (files : Option Files) (P Q : Files → Type 0) → ((fs : Files) → P fs → Q fs) → IfSome files P → IfSome files Q
of_told None P Q f h = tt
of_told (Some fs) P Q f h = f fs h

job_stands : (files : Option Files) (job : Job) (run : Result Checked (RunStop Refused)) → IfSome files (λ fs. Says checked_whole run (bound_of_job fs job)) → IfOk run IsChecked → IfOk run (λ c. c.telling ≡ Report job.nets)
    → Stands checked_ending refused_ending run (JobOutcome files job)
job_stands files job (Ok c) says checked same =
    (of_findings c.judged.findings, of_told files (λ fs. bound_of_job fs job ≡ Ok (checked_whole c)) (λ fs. IsJobOutcome fs job (checked_ending c)) (λ fs h. ended (Report job.nets) c (bound_of_job fs job) checked same h) says)
job_stands files job (Err (At r)) says checked same =
    (of_stage r.stage, of_told files (λ fs. bound_of_job fs job ≡ Err r) (λ fs. IsJobOutcome fs job (refused_ending r)) (λ fs h. refused_so (report_of job.nets) r (bound_of_job fs job) h) says)
job_stands files job (Err Read) says checked same = tt
job_stands files job (Err NoMemory) says checked same = tt

survey_stands : (seed size : ℕ) (run : Result Checked (RunStop Refused)) → Says checked_whole run (survey_said seed size) → IfOk run IsChecked → IfOk run (λ c. c.telling ≡ Summary seed size)
    → Stands checked_ending refused_ending run (survey_run seed size).outcome
survey_stands seed size (Ok c) says checked same = ended (Summary seed size) c (survey_said seed size) checked same says
survey_stands seed size (Err (At r)) says checked same = refused_so (told_by (Summary seed size)) r (survey_said seed size) says
survey_stands seed size (Err Read) says checked same = tt
survey_stands seed size (Err NoMemory) says checked same = tt

-- ## What a run answers

pub job_answers : (files : Option Files) (job : Job) (run : Result Checked (RunStop Refused)) (before after : Counts) (t : Taken) (result : Status) → IfSome files (λ fs. Says checked_whole run (bound_of_job fs job)) → IfOk run IsChecked
    → IfOk run (λ c. c.telling ≡ Report job.nets) → ReadOnlyWhere run (DueFailed (job_run files job).due before after) → TellsRun checked_ending refused_ending run t result → Answers (job_run files job) before after t result
job_answers files job run before after t result says checked same cause told =
    run_answers checked_ending refused_ending told_checked told_refused (job_run files job) run before after t result (λ e accepted end. job_accepted files job e accepted end) (job_stands files job run says checked same) cause told

pub survey_answers : (seed size : ℕ) (run : Result Checked (RunStop Refused)) (t : Taken) (result : Status) → Says checked_whole run (survey_said seed size) → IfOk run IsChecked → IfOk run (λ c. c.telling ≡ Summary seed size)
    → ReadOnlyWhere run ⊥ → TellsRun checked_ending refused_ending run t result → Answers (survey_run seed size) no_shelf no_shelf t result
survey_answers seed size run t result says checked same cause told =
    run_answers checked_ending refused_ending told_checked told_refused (survey_run seed size) run no_shelf no_shelf t result (λ e accepted end. end_accepted (told_by (Summary seed size)) (survey_said seed size) e accepted end)
    (survey_stands seed size run says checked same) cause told
