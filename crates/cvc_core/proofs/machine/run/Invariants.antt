use Rattle.std.proofs.Common.{◌≡◌, take}
use Rattle.cvc_core.specs.Events.{AreEnabled, after_all}
use Rattle.cvc_core.specs.Measured.{measured, IsSoundOn}
use Rattle.cvc_core.proofs.machine.run.Given as goal

abbrev pub invariant-loop-i : goal.invariant-loop-i
invariant-loop-i l = record {
  enabled : AreEnabled l.circuit l.fn.state.machine (take l.i l.events);
  state_is : l.state ≡ measured l.circuit (after_all l.circuit l.fn.state.machine (take l.i l.events));
  sound : IsSoundOn l.circuit l.state;
}
