use Rattle.cvc_serial.specs.Settling.{IsOnward, work_left}
use Rattle.cvc_serial.proofs.engine.Engine.spread.Given as goal

abbrev pub invariant-loop-bound : goal.invariant-loop-bound
invariant-loop-bound l = IsOnward l.circuit l.initial.self l.self

abbrev pub decreases-loop-bound : goal.decreases-loop-bound
decreases-loop-bound l = work_left l.circuit l.self
