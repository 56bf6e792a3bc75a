use Rattle.cvc_serial.specs.Settling.{IsOnward}
use Rattle.cvc_serial.proofs.engine.Engine.try_device.Given as goal

abbrev pub invariant-loop-slot : goal.invariant-loop-slot
invariant-loop-slot l = IsOnward l.circuit l.initial.self l.self
