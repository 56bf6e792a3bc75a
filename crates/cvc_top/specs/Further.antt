-- What the runs of further commands share: refusals of lines of their files, and what may be said where the files aren't told.
use Rattle.std.specs.Prelude.{◌≡◌, Option, IfSome, Result, Ok, Err, ◌⊎◌}
use Rattle.cvc_base.specs.declared.cause.Cause.{Cause}
use Rattle.cvc_io.specs.Files.{Files}
use Rattle.cvc_rows.specs.declared.refused.LineFault.{LineFault}
use Rattle.cvc_rows.specs.declared.refused.Refused.{Refused as RowsRefused}
use Rattle.cvc_rows.specs.declared.refused.Refused.TheVariants as rows
use Rattle.cvc_run.specs.Lines.{refused_line}
use Rattle.cvc_run.specs.Outcome.{IsOfFiles}
use Rattle.cvc_run.specs.Outside.{Outcome}
use Rattle.cvc_run.specs.declared.lines.LineCause.TheVariants.{Text}
use Rattle.cvc_run.specs.declared.lines.RunRefused.{RunRefused}
use Rattle.cvc_run.specs.declared.lines.RunRefused.TheVariants.{Line}
use Rattle.cvc_run.specs.declared.lines.Subject.{Subject}
use Rattle.cvc_run.specs.declared.status.Status.{Status}
use Rattle.cvc_run.specs.declared.stop.RunStop.{RunStop}
use Rattle.cvc_run.specs.declared.stop.RunStop.TheVariants.{At, NoMemory}

-- the refusal at a line of such a file
abbrev pub refused_about : Subject → LineFault Cause → RunRefused
refused_about subject fault = Line (refused_line subject fault.line (Text fault.cause))

-- what the file says, or its refusal
abbrev pub about : {A : Type 0} → Subject → Result A (LineFault Cause) → Result A RunRefused
about subject (Ok x) = Ok x
about subject (Err fault) = Err (refused_about subject fault)

abbrev pub stop_about : Subject → RowsRefused (LineFault Cause) → RunStop RunRefused
stop_about subject (rows.At fault) = At (refused_about subject fault)
stop_about subject rows.NoMemory = NoMemory

-- Where the files aren't told, a run ends still with a status of the three files, or with its own.
abbrev pub OfFilesOr : Status → Option Files → (Files → Outcome) → Outcome
OfFilesOr own files told e = (IsOfFiles e.status ⊎ (e.status ≡ own)) × IfSome files (λ fs. told fs e)
