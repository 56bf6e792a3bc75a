use Rattle.std.proofs.Common.{◌≡◌, length, drop}
use Rattle.cvc_bind.proofs.Spreading.{AreDeclared}
use Rattle.cvc_bind.proofs.declared.spread.Given as goal

abbrev pub invariant-loop-place : goal.invariant-loop-place
invariant-loop-place l = record {
  sized : length l.fixed.items ≡ l.count;
  put : AreDeclared (drop l.place l.nets) (drop l.place l.rows) l.fixed.items;
}
