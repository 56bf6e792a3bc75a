use Rattle.std.proofs.Common.{below_more}
use Rattle.cvc_law.specs.Least.{IsSlotClosed}
use Rattle.cvc_law.specs.Reach.{device_at}
use Rattle.cvc_law.proofs.close.closed_at.Goals as goal

pub loop-slot-preserved : goal.loop-slot-preserved
loop-slot-preserved c =
    below_more (λ s. IsSlotClosed c.args.circuit.now c.args.family.now (device_at c.args.circuit.now c.args.d.0) s c.reads-reads.result) c.loop-slot.slot c.loop-slot.invariant (c.is_slot_closed.ensures.0 c.if-not-is_slot_closed.false)
