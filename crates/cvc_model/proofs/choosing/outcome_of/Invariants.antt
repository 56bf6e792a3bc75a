use Rattle.std.proofs.Common.{◌≡◌, drop}
use Rattle.cvc_model.specs.Chosen.{outcome_of}
use Rattle.cvc_model.proofs.choosing.outcome_of.Given as goal

abbrev pub invariant-loop-test : goal.invariant-loop-test
invariant-loop-test l = outcome_of l.tests l.params ≡ outcome_of (drop l.test-index l.tests) l.params
