use Rattle.std.proofs.Common.{◌≡◌}
use Rattle.std.specs.Prelude.{is_some}
use Rattle.cvc_serial.specs.Settling.{IsSettling, room_left}
use Rattle.cvc_serial.proofs.engine.Engine.settle.Given as goal

abbrev pub invariant-loop-sweeps : goal.invariant-loop-sweeps
invariant-loop-sweeps l = record {
  settling : IsSettling l.circuit l.self;
  log : is_some l.self.log ≡ is_some l.initial.self.log;
}

abbrev pub decreases-loop-sweeps : goal.decreases-loop-sweeps
decreases-loop-sweeps l = room_left l.circuit l.self
