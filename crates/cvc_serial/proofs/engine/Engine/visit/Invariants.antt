use Rattle.cvc_serial.specs.Settling.{IsOnward}
use Rattle.cvc_serial.proofs.engine.Engine.visit.Given as goal

abbrev pub invariant-loop-d : goal.invariant-loop-d
invariant-loop-d l = IsOnward l.circuit l.initial.self l.self
