use Rattle.std.proofs.Common.{◌≡◌, take}
use Rattle.cvc_plan.proofs.pins.port_names.Given as goal

abbrev pub invariant-loop-port : goal.invariant-loop-port
invariant-loop-port l = l.names ≡ take l.port-index l.ports
