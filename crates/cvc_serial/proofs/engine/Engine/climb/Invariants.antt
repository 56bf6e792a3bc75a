use Rattle.std.proofs.Common.{◌≡◌, ◌≤◌, ◌+◌, length}
use Rattle.std.specs.Prelude.{is_some}
use Rattle.cvc_serial.specs.Settling.{IsSettling, room_left}
use Rattle.cvc_serial.proofs.engine.Engine.climb.Given as goal

abbrev pub invariant-loop-step : goal.invariant-loop-step
invariant-loop-step l = record {
  settling : IsSettling l.circuit l.self;
  log : is_some l.self.log ≡ is_some l.fn.self.log;
  room : room_left l.circuit l.self + l.steps ≤ room_left l.circuit l.fn.self;
  waiting : length l.self.waiting ≤ length l.fn.self.waiting + l._step;
}
