use Rattle.std.proofs.Common.{◌≡◌, false}
use Rattle.cvc_tests_read.proofs.lines.feed_often.Given as goal

abbrev pub invariant-loop : goal.invariant-loop
invariant-loop l = l.lexer.finished ≡ false
