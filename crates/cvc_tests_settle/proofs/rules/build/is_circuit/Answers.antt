use Rattle.std.proofs.Common.{arith}
use Rattle.cvc_tests_settle.proofs.rules.build.is_circuit.Goals as goal

pub returns : goal.returns
returns c = λ yes. record {
  few_nets = omega arith;
  few_devices = omega arith;
  ordered = c.are_ordered.ensures c.if-not-are_ordered.false;
  sound = c.are_devices.ensures yes;
}
