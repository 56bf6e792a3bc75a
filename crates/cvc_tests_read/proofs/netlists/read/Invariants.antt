use Rattle.std.proofs.Common.{length}
use Rattle.cvc_tests_read.proofs.netlists.read.Given as goal

abbrev pub decreases-loop-line : goal.decreases-loop-line
decreases-loop-line l = length l.lexer.waiting
