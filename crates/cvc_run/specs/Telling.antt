-- How a run tells what it found, or why it stopped.
use Rattle.std.specs.Prelude.{◌≡◌, ℕ, List, length, map, Result, Ok, Err, ◌⊎◌}
use Rattle.cvc_judge.specs.Judged.{IsJudged}
use Rattle.cvc_law.specs.declared.interval.Interval.{Interval}
use Rattle.cvc_law.specs.Bound.{IsBound}
use Rattle.cvc_run.specs.Outside.{Ending, Outcome, Taken, Ends, WroteNothing, ending}
use Rattle.cvc_run.specs.Outcome.{report_of, status_of, summary_of}
use Rattle.cvc_run.specs.Said.{Whole, whole}
use Rattle.cvc_run.specs.declared.checked.Checked.{Checked}
use Rattle.cvc_run.specs.declared.checked.Telling.{Telling}
use Rattle.cvc_run.specs.declared.checked.Telling.TheVariants.{Report, Summary}
use Rattle.cvc_run.specs.declared.status.Status.{Status}
use Rattle.cvc_run.specs.declared.status.Status.TheVariants as statuses
use Rattle.cvc_run.specs.declared.stop.RunStop.{RunStop}
use Rattle.cvc_run.specs.declared.stop.RunStop.TheVariants.{At, Read, NoMemory}

-- the text of a circuit under a family
abbrev pub told_by : Telling → Whole → List Interval → List ℕ
told_by (Report nets) = report_of nets
told_by (Summary seed size) = summary_of seed size

-- ## A judged circuit

abbrev pub checked_whole : Checked → Whole
checked_whole c = whole c.flat.list c.judged.circuit

-- it is bound from its flat list, and judged
pub record IsChecked (c : Checked) : Type 0 where
  pub bound : IsBound (length c.flat.list.nets) (map (λ d. d.pins) c.flat.list.devices) c.judged.circuit
  pub judged : IsJudged c.judged

abbrev pub checked_ending : Checked → Ending
checked_ending c = ending (status_of c.judged.findings) (told_by c.telling (checked_whole c) c.judged.family)

-- ## A run

-- the end of a run whose answer or refusal is told so
abbrev pub TellsRun : {A F : Type 0} → (A → Ending) → (F → Ending) → Result A (RunStop F) → Taken → Status → Type 0
TellsRun answer refusal (Ok x) t result = Ends (answer x) t result
TellsRun answer refusal (Err (At r)) t result = Ends (refusal r) t result
TellsRun answer refusal (Err Read) t result = (result ≡ statuses.ReadFault) × WroteNothing t
TellsRun answer refusal (Err NoMemory) t result = (result ≡ statuses.NoMemory) × WroteNothing t

-- what a run tells is its outcome
abbrev pub Stands : {A F : Type 0} → (A → Ending) → (F → Ending) → Result A (RunStop F) → Outcome → Type 0
Stands answer refusal (Ok x) outcome = outcome (answer x)
Stands answer refusal (Err (At r)) outcome = outcome (refusal r)
Stands answer refusal (Err Read) outcome = Unit {0}
Stands answer refusal (Err NoMemory) outcome = Unit {0}

-- ## Statuses

-- those that come with their whole text
abbrev pub IsTold : Status → Type 0
IsTold statuses.ReadFault = ⊥
IsTold statuses.WriteFault = ⊥
IsTold statuses.NoMemory = ⊥
IsTold _ = Unit {0}

-- those of accepted input
abbrev pub IsAccepted : Status → Type 0
IsAccepted status = (status ≡ statuses.Clean) ⊎ (status ≡ statuses.Errors)
