use Rattle.std.proofs.Common.{◌≡◌, ◌-◌, ◌≤◌, length}
use Rattle.cvc_lex.specs.Physical.{first_place, is_lone_dollar}
use Rattle.cvc_lex.proofs.physical.lone_dollar.Given as goal

abbrev pub invariant-loop-len : goal.invariant-loop-len
invariant-loop-len l = (l.i ≤ length l.text) × (first_place (is_lone_dollar l.text) l.i (length l.text - l.i) ≡ first_place (is_lone_dollar l.text) 0 (length l.text))

abbrev pub decreases-loop-len : goal.decreases-loop-len
decreases-loop-len l = length l.text - l.i
