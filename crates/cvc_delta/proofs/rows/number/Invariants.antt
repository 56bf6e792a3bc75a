use Rattle.std.proofs.Common.{◌≡◌, ◌++◌, length, take, drop}
use Rattle.cvc_delta.specs.Edits.{numbered}
use Rattle.cvc_delta.proofs.rows.number.Given as goal

-- the first ones have their lines
abbrev pub invariant-loop-place : goal.invariant-loop-place
invariant-loop-place l = record {
  rows : l.rows ≡ take l.place (numbered l.fn.rows) ++ drop l.place l.fn.rows;
  size : length l.rows ≡ length l.fn.rows;
}
