use Rattle.std.specs.Prelude.{IsSome}
use Rattle.cvc_tests_parts.proofs.outside.read_all.Given as goal

abbrev pub invariant-loop : goal.invariant-loop
invariant-loop g l = IsSome (g.S.Shelf.standing l.shelf)
