use Rattle.cvc_serial.specs.Settling.{HasClimbed, room_left}
use Rattle.cvc_serial.proofs.engine.Engine.follow.Given as goal

abbrev pub invariant-loop-d : goal.invariant-loop-d
invariant-loop-d l = HasClimbed l.circuit l.initial.self l.self l.steps

abbrev pub decreases-loop-d : goal.decreases-loop-d
decreases-loop-d l = room_left l.circuit l.self
