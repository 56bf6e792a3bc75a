use Rattle.std.proofs.Common.{◌≡◌, false}
use Rattle.cvc_tests_read.proofs.lines.twenty_megabytes_of_equals_signs.Given as goal

abbrev pub invariant-lines : goal.invariant-lines
invariant-lines g l = l.lexer.finished ≡ false
