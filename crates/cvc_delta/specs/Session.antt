-- Sessions: a design, the declared rows, and the result of the last recheck, if it is kept.
use Rattle.std.specs.Prelude.{◌≡◌, List, Option, None, Result, Ok, Err, IsSomeAnd, length, map}
use Rattle.cvc_base.specs.declared.fault.Refusal.{Refusal}
use Rattle.cvc_bind.specs.Bound.{circuit_of}
use Rattle.cvc_flat.specs.Flat.{FlatList}
use Rattle.cvc_judge.specs.declared.judged.Judged.{Judged}
use Rattle.cvc_judge.specs.Judged.{IsJudged}
use Rattle.cvc_law.specs.Bound.{IsBound}
use Rattle.cvc_model.specs.declared.row.ModelRow.{ModelRow}
use Rattle.cvc_power.specs.declared.row.PowerRow.{PowerRow}
use Rattle.cvc_delta.specs.declared.fault.EditRefusal.{EditRefusal}

-- what is seen of a session
pub record SessionView : Type 0 where
  pub flat : FlatList
  pub models : List ModelRow
  pub rows : List PowerRow
  pub kept : Option Judged

-- the result of a check of the rows: their circuit, its least family and its findings
pub record IsCheckOf (f : FlatList) (models : List ModelRow) (rows : List PowerRow) (j : Judged) : Type 0 where
  pub circuit : circuit_of f models rows ≡ Ok j.circuit
  pub bound : IsBound (length f.nets) (map (λ d. d.pins) f.devices) j.circuit
  pub judged : IsJudged j

-- a call, and what it answered
pub data Call : Type 0 where
  Began : Call
  Edited : Result (Unit {0}) EditRefusal → Call
  Rechecked : Result (Unit {0}) Refusal → Call

-- What a session keeps after a call, which is none of the calls that read it: nothing after it began, nothing after an edit, what was kept before after a refused
-- edit, its own result after a recheck, and nothing after a refused one.
abbrev pub Keeps : Call → Option Judged → SessionView → Type 0
Keeps Began before s = s.kept ≡ None
Keeps (Edited (Ok done)) before s = s.kept ≡ None
Keeps (Edited (Err refusal)) before s = s.kept ≡ before
Keeps (Rechecked (Ok done)) before s = IsSomeAnd s.kept (IsCheckOf s.flat s.models s.rows)
Keeps (Rechecked (Err refusal)) before s = s.kept ≡ None
