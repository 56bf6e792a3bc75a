use Rattle.std.proofs.Common.{◌-◌, length}
use Rattle.cvc_lex.specs.Bytes.{is_blank}
use Rattle.cvc_lex.specs.Skips.{SkipsTo}
use Rattle.cvc_lex.proofs.physical.blank_blocks.Given as goal

abbrev pub invariant-loop-i : goal.invariant-loop-i
invariant-loop-i l = SkipsTo is_blank l.text l.i

abbrev pub decreases-loop-i : goal.decreases-loop-i
decreases-loop-i l = length l.text - l.i
