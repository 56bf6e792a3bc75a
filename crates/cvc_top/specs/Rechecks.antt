-- The edits of a session done in order, and what the checks of its rows find: one where an edit asks for it, and a last one at the end. Those that are asked for
-- are numbered from 1. And the text: a line for each of these, and then what a check writes of the rows that the edits leave.
use Rattle.std.specs.Prelude.{◌≡◌, ℕ, suc, Bool, List, [], ◌∷◌, ◌++◌, length, map, Option, Some, None, IsSomeAnd, Ok, Err, codes, decimal}
use Rattle.std.specs.List.{flat_map}
use Rattle.cvc_base.specs.declared.fault.Fault.{Fault}
use Rattle.cvc_base.specs.Words.{word_of}
use Rattle.cvc_bind.specs.Bound.{circuit_of}
use Rattle.cvc_delta.specs.declared.edit.Edit.{Edit}
use Rattle.cvc_delta.specs.declared.edit.Edit.TheVariants as edits
use Rattle.cvc_delta.specs.Edits.{after, after_all}
use Rattle.cvc_delta.specs.Session.{IsCheckOf, SessionView}
use Rattle.cvc_flat.specs.Flat.{FlatList}
use Rattle.cvc_judge.specs.declared.judged.Judged.{Judged}
use Rattle.cvc_judge.specs.Judged.{IsJudged}
use Rattle.cvc_law.specs.declared.interval.Interval.{Interval}
use Rattle.cvc_law.specs.Bound.{IsBound}
use Rattle.cvc_law.specs.Least.{IsLeast}
use Rattle.cvc_law.specs.Network.{Network}
use Rattle.cvc_law.specs.Rules.{findings_of}
use Rattle.cvc_model.specs.declared.row.ModelRow.{ModelRow}
use Rattle.cvc_power.specs.declared.row.PowerRow.{PowerRow}
use Rattle.cvc_report.specs.Printed.{file_word}
use Rattle.cvc_run.specs.Outcome.{refused_ending, report_of, status_of}
use Rattle.cvc_run.specs.Outside.{Ending, ending}
use Rattle.cvc_run.specs.Said.{whole}
use Rattle.cvc_run.specs.Stages.{refused}
use Rattle.cvc_run.specs.declared.stage.Stage.TheVariants.{Binding}
use Rattle.cvc_run.specs.declared.status.Status.TheVariants.{Clean}
use Rattle.cvc_text.specs.Lines.{line}
use Rattle.cvc_top.specs.declared.rechecks.Finished.{Finished}
use Rattle.cvc_top.specs.declared.rechecks.Found.{Found}
use Rattle.cvc_top.specs.declared.rechecks.Found.TheVariants.{Errors, Refused}
use Rattle.cvc_top.specs.declared.rechecks.Recheck.{Recheck}

-- ## What checks find

-- a check of these rows finds so many findings of the least family, or the first fault of binding
abbrev pub IsFoundIn : FlatList → List ModelRow → List PowerRow → Found → Type 0
IsFoundIn f models rows (Errors n) = (c : Network) × (family : List Interval) × (circuit_of f models rows ≡ Ok c) × IsLeast c family × (n ≡ length (findings_of c family))
IsFoundIn f models rows (Refused fault) = circuit_of f models rows ≡ Err fault

-- what these edits of the rows ask for was found, from this number on
abbrev pub AreRechecks : FlatList → List ModelRow → List PowerRow → List Edit → ℕ → List Recheck → Type 0
AreRechecks f models rows [] k found = found ≡ []
AreRechecks f models rows (edits.Recheck ∷ later) k [] = ⊥
AreRechecks f models rows (edits.Recheck ∷ later) k (r ∷ found) = (r.number ≡ k) × IsFoundIn f models rows r.found × AreRechecks f models rows later (suc k) found
AreRechecks f models rows (edits.Set name low high ∷ later) k found = AreRechecks f models (after rows (edits.Set name low high)) later k found
AreRechecks f models rows (edits.Unset name ∷ later) k found = AreRechecks f models (after rows (edits.Unset name)) later k found

-- an edit of these rows adds what it asks for, with this number
abbrev pub IsDone : FlatList → List ModelRow → List PowerRow → ℕ → Edit → List Recheck → List Recheck → Type 0
IsDone f models rows number edits.Recheck before found = (r : Recheck) × (found ≡ before ++ r ∷ []) × (r.number ≡ number) × IsFoundIn f models rows r.found
IsDone f models rows number (edits.Set name low high) before found = found ≡ before
IsDone f models rows number (edits.Unset name) before found = found ≡ before

-- what a session holds behind a check of its rows, which found this fault or none
abbrev pub IsChecked : SessionView → Option Fault → Type 0
IsChecked s None = IsSomeAnd s.kept (IsCheckOf s.flat s.models s.rows)
IsChecked s (Some fault) = circuit_of s.flat s.models s.rows ≡ Err fault

-- ## Text

abbrev pub head_line : List ℕ
head_line = line (codes "CVC" ∷ codes "session" ∷ [])

abbrev pub errors_line : ℕ → ℕ → List ℕ
errors_line number count = line (codes "recheck" ∷ decimal number ∷ codes "errors" ∷ decimal count ∷ [])

abbrev pub refused_line : ℕ → Fault → List ℕ
refused_line number x =
    line (codes "recheck" ∷ decimal number ∷ codes "refused" ∷ file_word x.place.file ∷ codes "line" ∷ decimal x.place.line ∷ word_of x.cause ∷ [])

abbrev pub found_line : ℕ → Found → List ℕ
found_line number (Errors count) = errors_line number count
found_line number (Refused fault) = refused_line number fault

abbrev pub recheck_line : Recheck → List ℕ
recheck_line r = found_line r.number r.found

-- with the text of the last check
unfoldable pub session_text : List Recheck → List ℕ → List ℕ
session_text rechecks last = head_line ++ flat_map recheck_line rechecks ++ last

-- a session ends as its last check does
abbrev pub told_session : List Recheck → Ending → Ending
told_session rechecks last = ending last.status (session_text rechecks last.text)

-- ## A session whose edits are done

-- the report of a result that is kept; a session whose last check was accepted keeps one
abbrev pub kept_ending : FlatList → Bool → Option Judged → Ending
kept_ending f nets (Some j) = ending (status_of j.findings) (report_of nets (whole f j.circuit) j.family)
kept_ending f nets None = ending Clean []

-- how the last check ends, by its fault
abbrev pub check_ending : FlatList → Bool → Option Judged → Option Fault → Ending
check_ending f nets kept (Some fault) = refused_ending (refused Binding fault)
check_ending f nets kept None = kept_ending f nets kept

abbrev pub last_ending : Finished → Ending
last_ending x = check_ending x.flat.now.list x.nets x.session.kept x.refused

abbrev pub finished_ending : Finished → Ending
finished_ending x = told_session x.rechecks (last_ending x)

-- a result with which a report may be written
pub record IsReportable (f : FlatList) (j : Judged) : Type 0 where
  pub bound : IsBound (length f.nets) (map (λ d. d.pins) f.devices) j.circuit
  pub judged : IsJudged j

abbrev pub CanTellCheck : FlatList → Option Judged → Option Fault → Type 0
CanTellCheck f kept (Some fault) = Unit {0}
CanTellCheck f kept None = IsSomeAnd kept (IsReportable f)

abbrev pub CanTell : Finished → Type 0
CanTell x = CanTellCheck x.flat.now.list x.session.kept x.refused

-- the edits of these rows are done, and the rows are checked that they leave
pub record IsFinished (f : FlatList) (models : List ModelRow) (rows : List PowerRow) (done : List Edit) (with_nets : Bool) (x : Finished) : Type 0 where
  pub flat : x.flat.now.list ≡ f
  pub nets : x.nets ≡ with_nets
  pub rechecks : AreRechecks f models rows done 1 x.rechecks
  pub own_flat : x.session.flat ≡ f
  pub own_models : x.session.models ≡ models
  pub own_rows : x.session.rows ≡ after_all rows done
  pub last : IsChecked x.session x.refused
