-- The run of expected bounds: the netlist, the models and the power file are bound, then the file of expected bounds is read, and then the bounds of the least
-- family are compared. A name that finds no net, or the net of an earlier row, is refused as a line of that file.
use Rattle.std.specs.Prelude.{◌≡◌, ℕ, List, [], ◌∷◌, All, map, Option, Result, Ok, Err, IsOk, IsSomeAnd, true}
use Rattle.cvc_bind.specs.Nets.{nets_of}
use Rattle.cvc_expect.specs.declared.missed.Missed.{Missed}
use Rattle.cvc_expect.specs.declared.row.ExpectRow.{ExpectRow}
use Rattle.cvc_expect.specs.Missed.{missed_of}
use Rattle.cvc_expect.specs.Rows.{expected_of, name_of}
use Rattle.cvc_expect.specs.Text.{IsTellable, missed_text}
use Rattle.cvc_io.specs.Files.{Files, content}
use Rattle.cvc_law.specs.declared.interval.Interval.{Interval}
use Rattle.cvc_law.specs.Least.{IsLeast}
use Rattle.cvc_base.specs.declared.cause.Cause.{Cause}
use Rattle.cvc_rows.specs.declared.refused.LineFault.{LineFault}
use Rattle.cvc_run.specs.Due.{Reading, bound_due}
use Rattle.cvc_run.specs.Lines.{run_refused_ending}
use Rattle.cvc_run.specs.Outcome.{Behind, refused_ending}
use Rattle.cvc_run.specs.Outside.{Ending, Outcome, ending}
use Rattle.cvc_run.specs.Run.{Run}
use Rattle.cvc_run.specs.Said.{Whole, bound_of}
use Rattle.cvc_run.specs.declared.lines.RunRefused.{RunRefused}
use Rattle.cvc_run.specs.declared.lines.Subject.TheVariants as subjects
use Rattle.cvc_run.specs.declared.stage.Refused.{Refused}
use Rattle.cvc_run.specs.declared.status.Status.{Status}
use Rattle.cvc_run.specs.declared.status.Status.TheVariants as statuses
use Rattle.cvc_top.specs.declared.expect.Compared.{Compared}
use Rattle.cvc_top.specs.Further.{OfFilesOr, about, refused_about}

-- ## What is told

abbrev pub status_of : List Missed → Status
status_of [] = statuses.Clean
status_of (m ∷ ms) = statuses.Errors

abbrev pub told_of : List ExpectRow → List Missed → Ending
told_of rows missed = ending (status_of missed) (missed_text rows missed)

abbrev pub compared_ending : Compared → Ending
compared_ending c = told_of c.expected c.missed

abbrev pub IsCompared : Compared → Type 0
IsCompared c = All (IsTellable c.expected) c.missed

-- ## The outcome

-- the end of a comparison: what is missed, or the refusal of a name
abbrev pub comparison_ending : List ExpectRow → Result (List Missed) (LineFault Cause) → Ending
comparison_ending rows (Ok missed) = told_of rows missed
comparison_ending rows (Err fault) = run_refused_ending (refused_about subjects.Expected fault)

-- told so of the least family
abbrev pub IsComparison : Whole → List ExpectRow → Outcome
IsComparison w rows e = (f : List Interval) × IsLeast w.circuit f × (e ≡ comparison_ending rows (missed_of w.flat f rows))

-- the files by their names
pub record ExpectFiles : Type 0 where
  pub netlist : List ℕ
  pub models : List ℕ
  pub power : List ℕ
  pub expected : List ℕ
  pub top : Option (List ℕ)

abbrev pub expect_files : List ℕ → List ℕ → List ℕ → List ℕ → Option (List ℕ) → ExpectFiles
expect_files netlist models power expected top = record { netlist = netlist; models = models; power = power; expected = expected; top = top }

abbrev pub bound_of_files : Files → ExpectFiles → Result Whole Refused
bound_of_files fs x = bound_of x.top (content fs x.netlist) (content fs x.models) (content fs x.power)

abbrev pub rows_of_files : Files → ExpectFiles → Result (List ExpectRow) RunRefused
rows_of_files fs x = about subjects.Expected (expected_of (content fs x.expected))

abbrev pub IsExpectOutcome : Files → ExpectFiles → Outcome
IsExpectOutcome fs x = Behind refused_ending (bound_of_files fs x) (λ w. Behind run_refused_ending (rows_of_files fs x) (IsComparison w))

-- ## The run

abbrev pub expected_reading : ExpectFiles → Reading
expected_reading x = record { name = x.expected; accepted = true }

-- all files are accepted, and each name finds a net of its own
abbrev pub AreComparable : Files → ExpectFiles → Type 0
AreComparable fs x = (w : Whole) × (rows : List ExpectRow) × (bound_of_files fs x ≡ Ok w) × (rows_of_files fs x ≡ Ok rows) × IsOk (nets_of w.flat (map name_of rows))

abbrev pub expect_run : Option Files → ExpectFiles → Run
expect_run files x = record {
  outcome = OfFilesOr statuses.Expected files (λ fs. IsExpectOutcome fs x);
  due = bound_due files x.top x.netlist x.models x.power (expected_reading x ∷ []);
  accepted = IsSomeAnd files (λ fs. AreComparable fs x);
}
