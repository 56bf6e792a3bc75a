-- The runs of `prove` and `verify`. Both bind the netlist, the models and the power file. `prove` then writes some derivation log of the least family; which
-- one isn't said. `verify` reads a log and then a report, and says its verdict on them: a yes means that the report is that of the least family, whoever wrote
-- the two.
use Rattle.std.specs.Prelude.{◌≡◌, ℕ, ◌<◌, ◌+◌, ◌^◌, nat_lt, List, [], ◌∷◌, length, take, Option, Some}
use Rattle.std.specs.Prelude.{None, Bool, true, Result, Ok, Err, is_ok, IfSome, IsSomeAnd, IsOk, codes, decimal, if◌then◌else◌}
use Rattle.std.specs.List.{count_by}
use Rattle.cvc_base.specs.declared.cause.Cause.{Cause}
use Rattle.cvc_base.specs.declared.cause.Cause.TheVariants.{FileTooLong}
use Rattle.cvc_chain.specs.Reading.{is_line_feed, limit, log_of}
use Rattle.cvc_chain.specs.Replay.{IsJustifiedLog}
use Rattle.cvc_chain.specs.Text.{log_text}
use Rattle.cvc_chain.specs.Verdict.{IsRightWhereYes, Says}
use Rattle.cvc_chain.specs.declared.verdict.Verdict.{Verdict}
use Rattle.cvc_chain.specs.declared.verdict.Verdict.TheVariants.{Yes, Line, Device, Byte}
use Rattle.cvc_flat.specs.Flat.{FlatList}
use Rattle.cvc_flat.specs.Held.{device, printed_device}
use Rattle.cvc_io.specs.Files.{Files, content}
use Rattle.cvc_law.specs.Network.{Network}
use Rattle.cvc_rows.specs.declared.refused.LineFault.{LineFault}
use Rattle.cvc_run.specs.Due.{Reading, bound_due, files_due}
use Rattle.cvc_run.specs.Lines.{run_refused_ending}
use Rattle.cvc_run.specs.Outcome.{Behind, IsJobOutcome, IsOfFiles, refused_ending}
use Rattle.cvc_run.specs.Outside.{Ending, Outcome, ending}
use Rattle.cvc_run.specs.Run.{Run}
use Rattle.cvc_run.specs.Said.{Whole, bound_of}
use Rattle.cvc_run.specs.declared.lines.RunRefused.{RunRefused}
use Rattle.cvc_run.specs.declared.lines.Subject.TheVariants as subjects
use Rattle.cvc_run.specs.declared.stage.Refused.{Refused}
use Rattle.cvc_run.specs.declared.status.Status.{Status}
use Rattle.cvc_run.specs.declared.status.Status.TheVariants as statuses
use Rattle.cvc_serial.specs.Derivation.{AllWiden, IsComplete, declared_family}
use Rattle.cvc_serial.specs.declared.log.LogLine.{LogLine}
use Rattle.cvc_text.specs.Lines.{line}
use Rattle.cvc_top.specs.declared.prove.Proof.{Proof}
use Rattle.cvc_top.specs.declared.verify.Judgement.{Judgement}
use Rattle.cvc_top.specs.Further.{OfFilesOr, about}
use Rattle.cvc_words.specs.declared.command.Job.{Job}

-- ## Proving

-- the lines derive the least family of the circuit, each of them widens, and their numbers fit 32 bits
pub record IsProof (c : Network) (log : List LogLine) : Type 0 where
  pub justified : IsJustifiedLog c log
  pub widen : AllWiden c (declared_family c) log
  pub complete : IsComplete c log
  pub few : length log < 2 ^ 32

abbrev pub log_ending : List LogLine → Ending
log_ending log = ending statuses.Clean (log_text log)

abbrev pub proof_ending : Proof → Ending
proof_ending p = log_ending p.log

-- told so of some such log
abbrev pub IsProved : Whole → Outcome
IsProved w e = (log : List LogLine) × IsProof w.circuit log × (e ≡ log_ending log)

abbrev pub IsProveOutcome : Files → Option (List ℕ) → List ℕ → List ℕ → List ℕ → Outcome
IsProveOutcome fs top netlist models power = Behind refused_ending (bound_of top (content fs netlist) (content fs models) (content fs power)) IsProved

-- Where the files aren't told, the status is still one of the three files.
abbrev pub ProveOutcome : Option Files → Option (List ℕ) → List ℕ → List ℕ → List ℕ → Outcome
ProveOutcome files top netlist models power e = IsOfFiles e.status × IfSome files (λ fs. IsProveOutcome fs top netlist models power e)

abbrev pub prove_run : Option Files → Option (List ℕ) → List ℕ → List ℕ → List ℕ → Run
prove_run files top netlist models power = record {
  outcome = ProveOutcome files top netlist models power;
  due = files_due files top netlist models power;
  accepted = IsSomeAnd files (λ fs. IsOk (bound_of top (content fs netlist) (content fs models) (content fs power)));
}

-- ## Verdicts

abbrev pub rejection : List ℕ → List ℕ → List ℕ
rejection subject place = line (codes "rejected" ∷ subject ∷ place ∷ [])

abbrev pub verdict_ending : FlatList → Verdict → Ending
verdict_ending f Yes = ending statuses.Clean (line (codes "verified" ∷ []))
verdict_ending f (Line k) = ending statuses.Errors (rejection (codes "line") (decimal k))
verdict_ending f (Device d) = ending statuses.Errors (rejection (codes "device") (printed_device (device f d.0)))
verdict_ending f (Byte b) = ending statuses.Errors (rejection (codes "byte") (decimal b))

abbrev pub judgement_ending : Judgement → Ending
judgement_ending j = verdict_ending j.flat.list j.verdict

-- the device of a verdict is one of the flat list
abbrev pub IsNamed : FlatList → Verdict → Type 0
IsNamed f (Device d) = d.0 < length f.devices
IsNamed f _ = Unit {0}

abbrev pub CanTell : Judgement → Type 0
CanTell j = IsNamed j.flat.list j.verdict

-- told so of the verdict on the log and the report; and where it is yes, the report is that of the least family
abbrev pub IsVerdictOn : Bool → Whole → List LogLine → List ℕ → Outcome
IsVerdictOn nets w log report e =
    (v : Verdict) × Says w.circuit w.flat log nets report v × IsRightWhereYes w.circuit w.flat nets report v × (e ≡ verdict_ending w.flat v)

-- ## Reports that are too long

-- the line of the first byte past the limit, which is that of a log
abbrev pub line_past : List ℕ → ℕ
line_past bytes = count_by is_line_feed (take limit bytes) + 1

-- the report in these bytes, or its refusal
abbrev pub report_in : List ℕ → Result (List ℕ) (LineFault Cause)
report_in bytes = if nat_lt limit (length bytes) then Err (record { line = line_past bytes; cause = FileTooLong }) else Ok bytes

-- ## Verifying

-- the files by their names, and whether the report has net lines
pub record VerifyFiles : Type 0 where
  pub netlist : List ℕ
  pub models : List ℕ
  pub power : List ℕ
  pub log : List ℕ
  pub report : List ℕ
  pub top : Option (List ℕ)
  pub nets : Bool

abbrev pub verify_files : List ℕ → List ℕ → List ℕ → List ℕ → List ℕ → Option (List ℕ) → Bool → VerifyFiles
verify_files netlist models power log report top nets =
    record { netlist = netlist; models = models; power = power; log = log; report = report; top = top; nets = nets }

abbrev pub bound_of_files : Files → VerifyFiles → Result Whole Refused
bound_of_files fs x = bound_of x.top (content fs x.netlist) (content fs x.models) (content fs x.power)

abbrev pub log_of_files : Files → VerifyFiles → Result (List LogLine) RunRefused
log_of_files fs x = about subjects.Log (log_of (content fs x.log))

abbrev pub report_of_files : Files → VerifyFiles → Result (List ℕ) RunRefused
report_of_files fs x = about subjects.Report (report_in (content fs x.report))

abbrev pub IsVerifyOutcome : Files → VerifyFiles → Outcome
IsVerifyOutcome fs x =
    Behind refused_ending (bound_of_files fs x) (λ w. Behind run_refused_ending (log_of_files fs x) (λ log.
    Behind run_refused_ending (report_of_files fs x) (IsVerdictOn x.nets w log)))

-- the log is due where the three files are bound, and the report where the log is accepted
abbrev pub is_log_accepted : Option Files → VerifyFiles → Bool
is_log_accepted None x = true
is_log_accepted (Some fs) x = is_ok (log_of_files fs x)

abbrev pub report_reading : VerifyFiles → Reading
report_reading x = record { name = x.report; accepted = true }

abbrev pub claim_readings : Option Files → VerifyFiles → List Reading
claim_readings files x = record { name = x.log; accepted = is_log_accepted files x } ∷ report_reading x ∷ []

-- all files are accepted
abbrev pub IsClaim : Files → VerifyFiles → Type 0
IsClaim fs x = IsOk (bound_of_files fs x) × IsOk (log_of_files fs x) × IsOk (report_of_files fs x)

abbrev pub verify_run : Option Files → VerifyFiles → Run
verify_run files x = record {
  outcome = OfFilesOr statuses.Certificate files (λ fs. IsVerifyOutcome fs x);
  due = bound_due files x.top x.netlist x.models x.power (claim_readings files x);
  accepted = IsSomeAnd files (λ fs. IsClaim fs x);
}

-- ## What is verified

-- the check of the same three files, with or without net lines
abbrev pub job_of : VerifyFiles → Job
job_of x = record { netlist = x.netlist; models = x.models; power = x.power; top = x.top; workers = 1; nets = x.nets }

-- the report file has the bytes that a check of the files writes
abbrev pub IsOwnReport : Files → VerifyFiles → Type 0
IsOwnReport fs x = (status : Status) × IsJobOutcome fs (job_of x) (ending status (content fs x.report))
