-- Refusals of the files that a command reads besides the netlist, the models and the power file: of a line, with the word of its cause.
use Rattle.std.specs.Prelude.{ℕ, List, [], ◌∷◌, codes}
use Rattle.cvc_base.specs.Words.{word_of}
use Rattle.cvc_report.specs.Refusals.{line_refusal}
use Rattle.cvc_run.specs.Outcome.{refused_ending}
use Rattle.cvc_run.specs.Outside.{Ending, ending}
use Rattle.cvc_run.specs.declared.lines.LineCause.{LineCause}
use Rattle.cvc_run.specs.declared.lines.LineCause.TheVariants as causes
use Rattle.cvc_run.specs.declared.lines.LineRefused.{LineRefused}
use Rattle.cvc_run.specs.declared.lines.RunRefused.{RunRefused}
use Rattle.cvc_run.specs.declared.lines.RunRefused.TheVariants as refusals
use Rattle.cvc_run.specs.declared.lines.Subject.{Subject}
use Rattle.cvc_run.specs.declared.lines.Subject.TheVariants as subjects
use Rattle.cvc_run.specs.declared.stage.Refused.{Refused}
use Rattle.cvc_run.specs.declared.status.Status.{Status}
use Rattle.cvc_run.specs.declared.status.Status.TheVariants.{Certificate, Expected, Modes, Edits}
use Rattle.cvc_run.specs.declared.stop.RunStop.{RunStop}
use Rattle.cvc_run.specs.declared.stop.RunStop.TheVariants.{At, Read, NoMemory}

abbrev pub word_about : Subject → List ℕ
word_about subjects.Log = codes "log"
word_about subjects.Report = codes "report"
word_about subjects.Expected = codes "expected"
word_about subjects.Modes = codes "modes"
word_about subjects.Edits = codes "edits"

abbrev pub status_about : Subject → Status
status_about subjects.Log = Certificate
status_about subjects.Report = Certificate
status_about subjects.Expected = Expected
status_about subjects.Modes = Modes
status_about subjects.Edits = Edits

abbrev pub word_in : LineCause → List ℕ
word_in (causes.Text cause) = word_of cause
word_in causes.TooManyModes = codes "too-many-modes"
word_in causes.NotThere = codes "not-there"

abbrev pub refused_line : Subject → ℕ → LineCause → LineRefused
refused_line subject number cause = record { subject = subject; line = number; cause = cause }

-- its status and its line
abbrev pub line_ending : LineRefused → Ending
line_ending r = ending (status_about r.subject) (line_refusal (word_about r.subject ∷ []) r.line (word_in r.cause))

abbrev pub run_refused_ending : RunRefused → Ending
run_refused_ending (refusals.At r) = refused_ending r
run_refused_ending (refusals.Line r) = line_ending r

-- a stop of the three files, as one of such a run
abbrev pub stop_of : RunStop Refused → RunStop RunRefused
stop_of (At r) = At (refusals.At r)
stop_of Read = Read
stop_of NoMemory = NoMemory
