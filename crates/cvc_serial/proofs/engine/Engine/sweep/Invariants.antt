use Rattle.std.proofs.Common.{◌≡◌, ◌<◌, ◌/◌, ◌%◌, ℕ, true, false}
use Rattle.cvc_law.specs.Least.{reads_of, IsSlotClosed}
use Rattle.cvc_law.specs.Reach.{device_at}
use Rattle.cvc_serial.specs.Settling.{IsOnward, room_left}
use Rattle.cvc_serial.proofs.engine.Engine.sweep.Given as goal

abbrev pub invariant-loop-place : goal.invariant-loop-place
invariant-loop-place l = record {
  onward : IsOnward l.circuit l.initial.self l.self;
  widened : l.widened ≡ true → room_left l.circuit l.self < room_left l.circuit l.initial.self;
  closed : l.widened ≡ false → (p : ℕ) → p < l.place → IsSlotClosed l.circuit l.self.bounds.items (device_at l.circuit (p / 4)) (p % 4) (reads_of l.self.bounds.items (device_at l.circuit (p / 4)));
}
