use Rattle.std.proofs.Common.{◌≡◌, None}
use Rattle.cvc_io.specs.Memory.{standing_of}
use Rattle.cvc_tests_top.proofs.sessions.shelf_with.Given as goal

abbrev pub invariant-loop-name : goal.invariant-loop-name
invariant-loop-name l = standing_of l.shelf ≡ None
