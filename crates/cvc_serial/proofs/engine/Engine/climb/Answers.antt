use Rattle.std.proofs.Common.{◌<◌, ◌∷◌, length, arith, ap, sym, subst}
use Rattle.std.proofs.lemmas.List.Sorted.{length_permutation}
use Rattle.cvc_law.specs.Network.{nets}
use Rattle.cvc_base.specs.declared.ids.NetId.{NetId}
use Rattle.cvc_serial.proofs.Settles.{settling_pushed, settling_by}
use Rattle.cvc_serial.proofs.engine.Engine.climb.Goals.{in-Some-high+in_ok-push, in_default-high}
use Rattle.cvc_serial.proofs.engine.Engine.climb.Goals as goal

pub loop-step-init : goal.loop-step-init
loop-step-init c = let h = c.in_ok-steps.ensures in
    record { settling = h.settling; log = h.log; room = h.room; waiting = let same = ap length h.waiting in omega arith }

pub loop-step-preserved : goal.loop-step-preserved
loop-step-preserved c = let n = c.args.circuit.now in let e = c.loop-step.self in elim c.match-index.branch [
  | in-Some-high+in_ok-push w ↦
      let long = length_permutation (w.new.result ∷ e.waiting) w.push.new.self w.in_ok-push.ensures.permutation in
      rw w.self-is record {
        settling = settling_pushed n e c.leave.new.self w.new.result w.push.new.self c.loop-step.invariant.settling (subst (λ (x : NetId). x.0 < nets n) (sym w.new.ensures) c.in-Some.ensures) w.in_ok-push.ensures.permutation;
        log = c.loop-step.invariant.log;
        room = c.loop-step.invariant.room;
        waiting = omega (arith, c.loop-step.invariant.waiting);
      }
  | in_default-high w ↦ rw w.self-is record {
    settling = settling_by n e c.leave.new.self c.loop-step.invariant.settling;
    log = c.loop-step.invariant.log;
    room = c.loop-step.invariant.room;
    waiting = omega (arith, c.loop-step.invariant.waiting);
  }
]
