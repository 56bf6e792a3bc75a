-- The text of modes: how many there are, then for each, in the order of the list, its name and its whole report without lines of nets, and last the number
-- of all findings.
use Rattle.std.specs.Prelude.{ℕ, ◌+◌, false, List, [], ◌∷◌, ◌++◌, length, codes, decimal, zip}
use Rattle.std.specs.List.{flat_map}
use Rattle.cvc_flat.specs.Flat.{FlatList}
use Rattle.cvc_judge.specs.declared.judged.Judged.{Judged}
use Rattle.cvc_report.specs.Report.{report}
use Rattle.cvc_text.specs.Lines.{line}
use Rattle.cvc_modes.specs.declared.row.ModeRow.{ModeRow}

abbrev pub mode_text : FlatList → ModeRow × Judged → List ℕ
mode_text f (row, j) = line (codes "mode" ∷ row.name ∷ []) ++ report j.circuit f j.family false

-- the number of all findings
abbrev pub total : List Judged → ℕ
total [] = 0
total (j ∷ js) = length j.findings + total js

abbrev pub head_line : List ModeRow → List ℕ
head_line rows = line (codes "CVC" ∷ codes "modes" ∷ decimal (length rows) ∷ [])

abbrev pub total_line : List Judged → List ℕ
total_line js = line (codes "total" ∷ decimal (total js) ∷ [])

unfoldable pub modes_text : FlatList → List ModeRow → List Judged → List ℕ
modes_text f rows js = head_line rows ++ flat_map (mode_text f) (zip rows js) ++ total_line js
