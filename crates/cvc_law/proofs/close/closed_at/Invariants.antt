use Rattle.std.proofs.Common.{◌<◌, ℕ}
use Rattle.cvc_law.specs.Least.{IsSlotClosed}
use Rattle.cvc_law.specs.Reach.{device_at}
use Rattle.cvc_law.proofs.close.closed_at.Given as goal

abbrev pub invariant-loop-slot : goal.invariant-loop-slot
invariant-loop-slot l = (s : ℕ) → s < l.slot → IsSlotClosed l.circuit l.family (device_at l.circuit l.d.0) s l.reads
