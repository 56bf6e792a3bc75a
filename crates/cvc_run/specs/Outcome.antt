-- The outcome of a job and of a survey: a status and the text that is written. A refusal has its status and its line. What is accepted has the report,
-- or the summary, of the least family, and the status tells whether there are findings. Refused words have their status and their line too.
use Rattle.std.specs.Prelude.{◌≡◌, ℕ, List, [], ◌∷◌, Option, None, Bool, Result, Ok, Err, IfSome, IsSomeAnd, IsOk, ◌⊎◌}
use Rattle.cvc_base.specs.declared.finding.Finding.{Finding}
use Rattle.cvc_io.specs.Files.{Files}
use Rattle.cvc_gen.specs.Stages.{netlist_text, model_lines, power_lines, text_of}
use Rattle.cvc_law.specs.declared.interval.Interval.{Interval}
use Rattle.cvc_law.specs.Least.{IsLeast}
use Rattle.cvc_law.specs.Rules.{findings_of}
use Rattle.cvc_report.specs.Refusals.{refusal, word_refusal}
use Rattle.cvc_report.specs.Report.{report}
use Rattle.cvc_report.specs.Summary.{summary}
use Rattle.cvc_run.specs.Due.{job_due, no_file}
use Rattle.cvc_run.specs.Outside.{Ending, Outcome, ending}
use Rattle.cvc_run.specs.Run.{Run}
use Rattle.cvc_run.specs.Said.{Whole, bound_of, bound_of_job}
use Rattle.cvc_run.specs.Stages.{status_at}
use Rattle.cvc_run.specs.declared.stage.Refused.{Refused}
use Rattle.cvc_run.specs.declared.stage.Stage.{Stage}
use Rattle.cvc_run.specs.declared.status.Status.{Status}
use Rattle.cvc_run.specs.declared.status.Status.TheVariants.{Clean, Errors, Words}
use Rattle.cvc_words.specs.Faults.{word_of}
use Rattle.cvc_words.specs.declared.command.Job.{Job}
use Rattle.cvc_words.specs.declared.fault.WordFault.{WordFault}

abbrev pub status_of : List Finding → Status
status_of [] = Clean
status_of (x ∷ xs) = Errors

-- a refusal: the status of its stage, and its line
abbrev pub refused_ending : Refused → Ending
refused_ending r = ending (status_at r.stage) (refusal r.fault)

-- refused words
abbrev pub words_ending : WordFault → Ending
words_ending fault = ending Words (word_refusal (word_of fault))

-- how a run ends where its input is refused so, and else as the next step says
abbrev pub Behind : {A F : Type 0} → (F → Ending) → Result A F → (A → Outcome) → Outcome
Behind told (Err refusal) next e = e ≡ told refusal
Behind told (Ok x) next e = next x e

-- told so of the least family
abbrev pub IsEnd : (Whole → List Interval → List ℕ) → Whole → Outcome
IsEnd told w e = (f : List Interval) × IsLeast w.circuit f × (e ≡ ending (status_of (findings_of w.circuit f)) (told w f))

-- ## A job

abbrev pub report_of : Bool → Whole → List Interval → List ℕ
report_of with_nets w f = report w.circuit w.flat f with_nets

abbrev pub IsJobOutcome : Files → Job → Outcome
IsJobOutcome fs job = Behind refused_ending (bound_of_job fs job) (IsEnd (report_of job.nets))

-- the statuses that say something of the files: accepted, or refused at some stage
abbrev pub IsOfFiles : Status → Type 0
IsOfFiles status = (status ≡ Clean) ⊎ ((status ≡ Errors) ⊎ ((stage : Stage) × (status ≡ status_at stage)))

-- The outcome of a job. Where the files aren't told, it is still one of files, and none of words.
abbrev pub JobOutcome : Option Files → Job → Outcome
JobOutcome files job e = IsOfFiles e.status × IfSome files (λ fs. IsJobOutcome fs job e)

abbrev pub job_run : Option Files → Job → Run
job_run files job = record { outcome = JobOutcome files job; due = job_due files job; accepted = IsSomeAnd files (λ fs. IsOk (bound_of_job fs job)) }

-- ## A survey of a generated circuit

abbrev pub summary_of : ℕ → ℕ → Whole → List Interval → List ℕ
summary_of seed size w f = summary seed size w.circuit (findings_of w.circuit f)

abbrev pub survey_said : ℕ → ℕ → Result Whole Refused
survey_said seed size = bound_of None (netlist_text seed size) (text_of model_lines) (text_of power_lines)

abbrev pub survey_run : ℕ → ℕ → Run
survey_run seed size = record { outcome = Behind refused_ending (survey_said seed size) (IsEnd (summary_of seed size)); due = no_file; accepted = IsOk (survey_said seed size) }
