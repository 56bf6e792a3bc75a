-- A run: how it may end, which of its files are due, and whether its input is accepted. What it answers is one of its endings, or a fault of the outside,
-- or want of memory; and accepted input is answered.
use Rattle.std.specs.Prelude.{◌≡◌, ◌⊎◌}
use Rattle.cvc_io.specs.Files.{Counts}
use Rattle.cvc_run.specs.Due.{Due, DueFailed}
use Rattle.cvc_run.specs.Outside.{Taken, Outcome, EndsAs, MayAnswer, SinkFailed}
use Rattle.cvc_run.specs.declared.status.Status.{Status}
use Rattle.cvc_run.specs.declared.status.Status.TheVariants.{Clean, Errors, NoMemory}

pub record Run : Type 1 where
  pub outcome : Outcome
  pub due : Due
  pub accepted : Type 0

-- with its outcome and without a fault, or want of memory
abbrev pub IsAnswered : Outcome → Taken → Status → Type 0
IsAnswered outcome t status = (status ≡ NoMemory) ⊎ (((status ≡ Clean) ⊎ (status ≡ Errors)) × EndsAs outcome t status)

-- accepted input, unless the outside failed
abbrev pub AcceptedIsAnswered : Run → Type 0 → Taken → Status → Type 0
AcceptedIsAnswered run failed t status = run.accepted → (failed → ⊥) → (SinkFailed t → ⊥) → IsAnswered run.outcome t status

-- what a run may answer, between these counts of the shelf
abbrev pub Answers : Run → Counts → Counts → Taken → Status → Type 0
Answers run before after t status = MayAnswer run.outcome (DueFailed run.due before after) t status × AcceptedIsAnswered run (DueFailed run.due before after) t status

-- no name has failed where there is no shelf
abbrev pub no_shelf : Counts
no_shelf name = 0
