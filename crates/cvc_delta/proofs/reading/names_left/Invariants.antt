use Rattle.std.proofs.Common.{◌≡◌, ℕ, List, take}
use Rattle.cvc_delta.specs.Left.{has_name}
use Rattle.cvc_delta.specs.Edits.{has_row}
use Rattle.cvc_delta.proofs.reading.names_left.Given as goal

abbrev pub invariant-loop-row : goal.invariant-loop-row
invariant-loop-row l = (name : List ℕ) → has_name l.left name ≡ has_row (take l.row-index l.power) name
