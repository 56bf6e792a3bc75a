-- The run of an edit session: the netlist, the models, the power file and the edits are read, in this order. The rows of the power file are numbered by their
-- places; the edits are done to them in order, with a check where one asks for it; and it ends as a check of the rows ends that they leave. A fault of binding is
-- met by checks alone, so only the last one refuses the session.
use Rattle.std.specs.Prelude.{◌≡◌, ℕ, Bool, true, List, [], ◌∷◌, All, Option, IsSomeAnd, Result, Ok, Err, IsOk, ◌⊎◌}
use Rattle.cvc_base.specs.declared.fault.Refusal.{Refusal}
use Rattle.cvc_base.specs.declared.fault.Refusal.TheVariants as refused_rows
use Rattle.cvc_base.specs.Order.{◌>>=◌}
use Rattle.cvc_delta.specs.declared.edit.Edit.{Edit}
use Rattle.cvc_delta.specs.declared.fault.EditsCause.{EditsCause}
use Rattle.cvc_delta.specs.declared.fault.EditsCause.TheVariants as edits
use Rattle.cvc_delta.specs.Edits.{AreApart, IsOrderedEdit, after_all, numbered}
use Rattle.cvc_delta.specs.Reading.{edits_of}
use Rattle.cvc_io.specs.Files.{Files, content}
use Rattle.cvc_model.specs.Bindable.{AreBindable}
use Rattle.cvc_model.specs.Models.{models_of}
use Rattle.cvc_power.specs.declared.row.PowerRow.{PowerRow}
use Rattle.cvc_power.specs.Power.{IsOrdered, power_of}
use Rattle.cvc_rows.specs.declared.refused.LineFault.{LineFault}
use Rattle.cvc_rows.specs.declared.refused.Refused.{Refused as RowsRefused}
use Rattle.cvc_rows.specs.declared.refused.Refused.TheVariants as rows
use Rattle.cvc_run.specs.Due.{Due, Named, reading}
use Rattle.cvc_run.specs.Lines.{refused_line, run_refused_ending}
use Rattle.cvc_run.specs.Outcome.{Behind, IsEnd, IsOfFiles, refused_ending, report_of}
use Rattle.cvc_run.specs.Outside.{Ending, Outcome}
use Rattle.cvc_run.specs.Run.{Run}
use Rattle.cvc_run.specs.Said.{Parts, bound_with, design_of, flat_of_file, parts}
use Rattle.cvc_run.specs.Stages.{at_stage, refused}
use Rattle.cvc_run.specs.declared.lines.LineCause.{LineCause}
use Rattle.cvc_run.specs.declared.lines.LineCause.TheVariants as causes
use Rattle.cvc_run.specs.declared.lines.RunRefused.{RunRefused}
use Rattle.cvc_run.specs.declared.lines.RunRefused.TheVariants as refusals
use Rattle.cvc_run.specs.declared.lines.Subject.TheVariants as subjects
use Rattle.cvc_run.specs.declared.stage.Refused.{Refused}
use Rattle.cvc_run.specs.declared.stage.Stage.TheVariants as stages
use Rattle.cvc_run.specs.declared.status.Status.{Status}
use Rattle.cvc_run.specs.declared.status.Status.TheVariants as statuses
use Rattle.cvc_run.specs.declared.stop.RunStop.{RunStop}
use Rattle.cvc_run.specs.declared.stop.RunStop.TheVariants.{At, NoMemory}
use Rattle.cvc_top.specs.declared.rechecks.Recheck.{Recheck}
use Rattle.cvc_top.specs.declared.session.Inputs.{Inputs}
use Rattle.cvc_top.specs.Further.{OfFilesOr}
use Rattle.cvc_top.specs.Rechecks.{AreRechecks, told_session}

-- ## Refusals

-- a refusal of the netlist, the models or the power file, as one of such a run
abbrev pub at_files : {A : Type 0} → Result A Refused → Result A RunRefused
at_files (Ok x) = Ok x
at_files (Err r) = Err (refusals.At r)

abbrev pub edits_cause : EditsCause → LineCause
edits_cause (edits.Text cause) = causes.Text cause
edits_cause edits.NotThere = causes.NotThere

abbrev pub edits_refused : LineFault EditsCause → RunRefused
edits_refused fault = refusals.Line (refused_line subjects.Edits fault.line (edits_cause fault.cause))

-- what the edits file says, or its refusal
abbrev pub about_edits : {A : Type 0} → Result A (LineFault EditsCause) → Result A RunRefused
about_edits (Ok x) = Ok x
about_edits (Err fault) = Err (edits_refused fault)

abbrev pub power_stop : Refusal → RunStop RunRefused
power_stop (refused_rows.At fault) = At (refusals.At (refused stages.Power fault))
power_stop refused_rows.NoMemory = NoMemory

abbrev pub edits_stop : RowsRefused (LineFault EditsCause) → RunStop RunRefused
edits_stop (rows.At fault) = At (edits_refused fault)
edits_stop rows.NoMemory = NoMemory

-- ## The files

-- the files by their names
pub record SessionFiles : Type 0 where
  pub netlist : List ℕ
  pub models : List ℕ
  pub power : List ℕ
  pub edits : List ℕ
  pub top : Option (List ℕ)

abbrev pub session_files : List ℕ → List ℕ → List ℕ → List ℕ → Option (List ℕ) → SessionFiles
session_files netlist models power edits top = record { netlist = netlist; models = models; power = power; edits = edits; top = top }

-- what a session begins with, and its edits
pub record InputsView : Type 0 where
  pub parts : Parts
  pub rows : List PowerRow
  pub edits : List Edit

abbrev pub supplies_in : List ℕ → Result (List PowerRow) RunRefused
supplies_in bytes = at_files (at_stage stages.Power (power_of bytes))

-- all that the files say, or the first refusal
unfoldable pub inputs_in : Files → SessionFiles → Result InputsView RunRefused
inputs_in fs x = do
  d ← at_files (design_of x.top (content fs x.netlist) (content fs x.models))
  supplies ← supplies_in (content fs x.power)
  done ← about_edits (edits_of supplies (content fs x.edits))
  Ok (record { parts = d; rows = supplies; edits = done })

abbrev pub inputs_view : Inputs → InputsView
inputs_view i = record { parts = parts i.design.flat.list i.design.models; rows = i.power; edits = i.edits }

-- what a session asks of them
pub record IsReady (i : Inputs) : Type 0 where
  pub bindable : AreBindable i.design.models
  pub ordered : All IsOrdered i.power
  pub apart : AreApart i.power
  pub edits : All IsOrderedEdit i.edits

-- ## The outcome

-- what a check of the design with these rows ends with
abbrev pub IsCheckEnd : Bool → Parts → List PowerRow → Outcome
IsCheckEnd nets d supplies = Behind refused_ending (bound_with d supplies) (IsEnd (report_of nets))

abbrev pub OfEdits : Bool → InputsView → Outcome
OfEdits nets i e = (found : List Recheck) × (last : Ending) × AreRechecks i.parts.flat i.parts.rows (numbered i.rows) i.edits 1 found
    × IsCheckEnd nets i.parts (after_all (numbered i.rows) i.edits) last × (e ≡ told_session found last)

abbrev pub IsSessionOutcome : Files → SessionFiles → Bool → Outcome
IsSessionOutcome fs x nets = Behind run_refused_ending (inputs_in fs x) (OfEdits nets)

-- a status of files, or that of refused edits
abbrev pub IsOfSession : Status → Type 0
IsOfSession status = IsOfFiles status ⊎ (status ≡ statuses.Edits)

-- ## The run

abbrev pub session_due : Option Files → SessionFiles → Due
session_due files x =
    Named (reading (flat_of_file x.top) files x.netlist ∷ reading models_of files x.models ∷ reading power_of files x.power ∷ record { name = x.edits; accepted = true } ∷ [])

-- the files are accepted, and the rows that the edits leave are bound
abbrev pub IsAcceptedSession : Files → SessionFiles → Type 0
IsAcceptedSession fs x = (i : InputsView) × (inputs_in fs x ≡ Ok i) × IsOk (bound_with i.parts (after_all (numbered i.rows) i.edits))

abbrev pub session_run : Option Files → SessionFiles → Bool → Run
session_run files x nets = record {
  outcome = OfFilesOr statuses.Edits files (λ fs. IsSessionOutcome fs x nets);
  due = session_due files x;
  accepted = IsSomeAnd files (λ fs. IsAcceptedSession fs x);
}
