-- The run of modes: the netlist and the models, the list of modes, each mode's power file in the order of the list, and each mode's binding in that order. The
-- first that is refused decides. What is accepted has the text of all modes with their least families, and the status tells whether any has findings.
use Rattle.std.specs.Prelude.{◌≡◌, ℕ, zero, suc, List, [], ◌∷◌, ◌++◌, length, map, All, Option, Some, None, Result, Ok, Err, IsSomeAnd, IsOk, is_ok, ◌⊎◌, codes, slice_index_or}
use Rattle.cvc_base.specs.Order.{◌>>=◌}
use Rattle.cvc_base.specs.Words.{word_of}
use Rattle.cvc_flat.specs.Flat.{FlatList}
use Rattle.cvc_io.specs.Causes.{Rose}
use Rattle.cvc_io.specs.Files.{Counts, Files, content}
use Rattle.cvc_judge.specs.Judged.{IsJudged}
use Rattle.cvc_judge.specs.declared.judged.Judged.{Judged}
use Rattle.cvc_law.specs.Network.{Network}
use Rattle.cvc_model.specs.Models.{models_of}
use Rattle.cvc_modes.specs.Checked.{Unbound, circuit_in, circuits_of}
use Rattle.cvc_modes.specs.Modes.{modes_of}
use Rattle.cvc_modes.specs.Text.{modes_text, total}
use Rattle.cvc_modes.specs.declared.fault.ListCause.{ListCause}
use Rattle.cvc_modes.specs.declared.fault.ListCause.TheVariants as list_causes
use Rattle.cvc_modes.specs.declared.row.ModeRow.{ModeRow}
use Rattle.cvc_power.specs.declared.row.PowerRow.{PowerRow}
use Rattle.cvc_power.specs.Power.{power_of}
use Rattle.cvc_report.specs.Printed.{file_word}
use Rattle.cvc_report.specs.Refusals.{line_refusal}
use Rattle.cvc_rows.specs.declared.refused.LineFault.{LineFault}
use Rattle.cvc_run.specs.Due.{AnyName, Due, Named, OneFailed, Reading, reading}
use Rattle.cvc_run.specs.Lines.{refused_line, run_refused_ending}
use Rattle.cvc_run.specs.Outcome.{Behind, IsOfFiles}
use Rattle.cvc_run.specs.Outside.{Ending, Outcome, ending}
use Rattle.cvc_run.specs.Run.{Run}
use Rattle.cvc_run.specs.Said.{Parts, design_of, flat_of_file}
use Rattle.cvc_run.specs.Stages.{at_stage, refused, status_at}
use Rattle.cvc_run.specs.declared.lines.LineCause.{LineCause}
use Rattle.cvc_run.specs.declared.lines.LineCause.TheVariants as causes
use Rattle.cvc_run.specs.declared.lines.RunRefused.{RunRefused}
use Rattle.cvc_run.specs.declared.lines.RunRefused.TheVariants as refusals
use Rattle.cvc_run.specs.declared.lines.Subject.TheVariants as subjects
use Rattle.cvc_run.specs.declared.stage.Refused.{Refused}
use Rattle.cvc_run.specs.declared.stage.Stage.TheVariants.{Power, Binding}
use Rattle.cvc_rows.specs.declared.refused.Refused.{Refused as Listless}
use Rattle.cvc_rows.specs.declared.refused.Refused.TheVariants as lists
use Rattle.cvc_modes.specs.declared.checked.ModeRefusal.{ModeRefusal}
use Rattle.cvc_modes.specs.declared.checked.ModeRefusal.TheVariants as modes
use Rattle.cvc_run.specs.declared.stop.RunStop.{RunStop}
use Rattle.cvc_run.specs.declared.stop.RunStop.TheVariants.{At, Read, NoMemory}
use Rattle.cvc_run.specs.declared.status.Status.{Status}
use Rattle.cvc_run.specs.declared.status.Status.TheVariants.{Clean, Errors, Modes}
use Rattle.cvc_top.specs.Further.{OfFilesOr}
use Rattle.cvc_top.specs.declared.modes.ModeRefused.{ModeRefused}

-- ## The design and the list

-- a refusal of the netlist or the models, as one of such a run
abbrev pub of_design : {A : Type 0} → Result A Refused → Result A RunRefused
of_design (Ok x) = Ok x
of_design (Err r) = Err (refusals.At r)

-- why a line of a list is refused
abbrev pub line_cause : ListCause → LineCause
line_cause (list_causes.Text cause) = causes.Text cause
line_cause list_causes.TooMany = causes.TooManyModes

abbrev pub list_refused : LineFault ListCause → RunRefused
list_refused fault = refusals.Line (refused_line subjects.Modes fault.line (line_cause fault.cause))

-- a list, or its refusal
abbrev pub of_list : {A : Type 0} → Result A (LineFault ListCause) → Result A RunRefused
of_list (Ok x) = Ok x
of_list (Err fault) = Err (list_refused fault)

-- a design and its modes
pub record ListedParts : Type 0 where
  pub parts : Parts
  pub rows : List ModeRow

unfoldable pub listed_of : Option (List ℕ) → List ℕ → List ℕ → List ℕ → Result ListedParts RunRefused
listed_of top netlist models list = do
  parts ← of_design (design_of top netlist models)
  rows ← of_list (modes_of list)
  Ok record { parts = parts; rows = rows }

-- ## The modes

abbrev pub mode_refused : ℕ → Refused → ModeRefused
mode_refused mode r = record { mode = mode; refused = r }

-- what is refused of a mode, by its place in the list, from 0
abbrev pub in_mode : {A : Type 0} → ℕ → Result A Refused → Result A ModeRefused
in_mode mode (Ok x) = Ok x
in_mode mode (Err r) = Err (mode_refused mode r)

-- these power rows, of the first modes, and those of the power files of the modes behind them; or the first power file that is refused
unfoldable pub powers_behind : Files → List (List PowerRow) → List ModeRow → Result (List (List PowerRow)) ModeRefused
powers_behind fs powers [] = Ok powers
powers_behind fs powers (row ∷ rows) = do
  power ← in_mode (length powers) (at_stage Power (power_of (content fs row.file)))
  powers_behind fs (powers ++ power ∷ []) rows

-- the binding of a mode that is refused
abbrev pub at_binding : {A : Type 0} → Result A Unbound → Result A ModeRefused
at_binding (Ok x) = Ok x
at_binding (Err u) = Err (mode_refused u.mode (refused Binding u.fault))

-- the circuit of each mode, or the first mode that is refused: all power files come before all bindings
unfoldable pub bound_modes : Files → ListedParts → Result (List Network) ModeRefused
bound_modes fs l = do
  powers ← powers_behind fs [] l.rows
  at_binding (circuits_of l.parts.flat l.parts.rows powers)

-- ## Stops

-- why there is no list
abbrev pub list_stop : Listless (LineFault ListCause) → RunStop RunRefused
list_stop (lists.At fault) = At (list_refused fault)
list_stop lists.NoMemory = NoMemory

-- a stop at the power file of a mode
abbrev pub mode_stop : ℕ → RunStop Refused → RunStop ModeRefused
mode_stop mode (At r) = At (mode_refused mode r)
mode_stop mode Read = Read
mode_stop mode NoMemory = NoMemory

-- why modes are not checked
abbrev pub binding_stop : ModeRefusal → RunStop ModeRefused
binding_stop (modes.At mode fault) = At (mode_refused mode (refused Binding fault))
binding_stop modes.NoMemory = NoMemory

-- ## How it ends

abbrev pub no_row : ModeRow
no_row = record { name = []; file = []; line = 0 }

-- the name of a mode by its place
abbrev pub name_at : List ModeRow → ℕ → List ℕ
name_at rows mode = (slice_index_or rows mode no_row).name

-- a refusal of the mode with this name: the status of its stage, and its line
abbrev pub named_ending : List ℕ → Refused → Ending
named_ending name r =
    ending (status_at r.stage) (line_refusal (codes "mode" ∷ name ∷ file_word r.fault.place.file ∷ []) r.fault.place.line (word_of r.fault.cause))

abbrev pub mode_ending : List ModeRow → ModeRefused → Ending
mode_ending rows r = named_ending (name_at rows r.mode) r.refused

-- of all findings
abbrev pub total_status : ℕ → Status
total_status zero = Clean
total_status (suc n) = Errors

-- what all modes tell
abbrev pub modes_ending : FlatList → List ModeRow → List Judged → Ending
modes_ending flat rows js = ending (total_status (total js)) (modes_text flat rows js)

-- told so of circuits with their least families
abbrev pub IsModesEnd : ListedParts → List Network → Outcome
IsModesEnd l circuits e = (js : List Judged) × (circuits ≡ map circuit_in js) × All IsJudged js × (e ≡ modes_ending l.parts.flat l.rows js)

abbrev pub listed_in : Files → Option (List ℕ) → List ℕ → List ℕ → List ℕ → Result ListedParts RunRefused
listed_in fs top netlist models list = listed_of top (content fs netlist) (content fs models) (content fs list)

abbrev pub IsModesOutcome : Files → Option (List ℕ) → List ℕ → List ℕ → List ℕ → Outcome
IsModesOutcome fs top netlist models list =
    Behind run_refused_ending (listed_in fs top netlist models list) (λ l. Behind (mode_ending l.rows) (bound_modes fs l) (IsModesEnd l))

-- a status of files, or that of a refused list
abbrev pub IsOfModes : Status → Type 0
IsOfModes status = IsOfFiles status ⊎ (status ≡ Modes)

-- ## Which files are due

-- the modes of a list, none where it is refused
abbrev pub rows_in : Result (List ModeRow) (LineFault ListCause) → List ModeRow
rows_in (Ok rows) = rows
rows_in (Err fault) = []

-- the power file of a mode
abbrev pub power_reading : Files → ModeRow → Reading
power_reading fs row = reading power_of (Some fs) row.file

-- the power files of these modes
abbrev pub power_readings : Files → List ModeRow → List Reading
power_readings fs rows = map (power_reading fs) rows

abbrev pub list_reading : Files → List ℕ → Reading
list_reading fs list = record { name = list; accepted = is_ok (modes_of (content fs list)) }

-- The netlist, the models, the list, and the power files that its rows name. Where the shelf doesn't tell its files the list may name any.
abbrev pub modes_due : Option Files → Option (List ℕ) → List ℕ → List ℕ → List ℕ → Due
modes_due None top netlist models list = AnyName
modes_due (Some fs) top netlist models list =
    Named (reading (flat_of_file top) (Some fs) netlist ∷ reading models_of (Some fs) models ∷ list_reading fs list ∷ power_readings fs (rows_in (modes_of (content fs list))))

-- the count of one of these power files rose, as far as those before are accepted; where the files aren't told, that of any name
abbrev pub PowerFailed : Option Files → List ModeRow → Counts → Counts → Type 0
PowerFailed None rows before after = (name : List ℕ) × Rose (before name) (after name)
PowerFailed (Some fs) rows before after = OneFailed (power_readings fs rows) before after

-- ## The run

abbrev pub IsModesAccepted : Files → Option (List ℕ) → List ℕ → List ℕ → List ℕ → Type 0
IsModesAccepted fs top netlist models list = (l : ListedParts) × (listed_in fs top netlist models list ≡ Ok l) × IsOk (bound_modes fs l)

abbrev pub modes_run : Option Files → Option (List ℕ) → List ℕ → List ℕ → List ℕ → Run
modes_run files top netlist models list = record {
  outcome = OfFilesOr Modes files (λ fs. IsModesOutcome fs top netlist models list);
  due = modes_due files top netlist models list;
  accepted = IsSomeAnd files (λ fs. IsModesAccepted fs top netlist models list);
}
