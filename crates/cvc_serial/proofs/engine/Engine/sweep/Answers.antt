use Rattle.std.proofs.Common.{◌/◌, ◌%◌, ℕ, sym, ◌∙◌, arith, below_more}
use Rattle.std.proofs.lemmas.Bool.{false≢true}
use Rattle.cvc_law.specs.Least.{reads_of, IsSlotClosed}
use Rattle.cvc_law.specs.Reach.{device_at}
use Rattle.cvc_serial.proofs.Settles.{was_widened, was_closed, onward_pushed, onward_more, onward_widened, closed_by_slots}
use Rattle.cvc_serial.proofs.engine.Engine.sweep.Goals.{in-Some+then-len-most+in_ok-push, in-Some+else-len-most, in_default}
use Rattle.cvc_serial.proofs.engine.Engine.sweep.Goals as goal

pub loop-place-preserved : goal.loop-place-preserved
loop-place-preserved c =
    let n = c.args.circuit.now in
    let a = c.args.self.now in
    let b = c.loop-place.self in
    let d = c.widen.new.self in
    let here = c.loop-place.place in
    elim c.match-branch-2.branch [
      | in-Some+then-len-most+in_ok-push w ↦
          let wide = was_widened n (here / 4) (here % 4) b d c.in_ok-bound.field-0 w.in-Some.bound c.in_ok-bound.ensures w.in-Some.is in
          rw w.self-is record {
            onward = onward_more n a b _ c.loop-place.invariant.onward (onward_pushed n b d w.in-Some.bound w.push.new.self wide w.in_ok-push.ensures.permutation);
            widened = λ is. omega (arith, c.loop-place.invariant.onward.room, wide.room);
            closed = λ is. absurd (false≢true (sym is ∙ w.widened-is));
          }
      | in-Some+else-len-most w ↦
          let wide = was_widened n (here / 4) (here % 4) b d c.in_ok-bound.field-0 w.in-Some.bound c.in_ok-bound.ensures w.in-Some.is in
          rw w.self-is record {
            onward = onward_more n a b d c.loop-place.invariant.onward (onward_widened n b d w.in-Some.bound wide);
            widened = λ is. omega (arith, c.loop-place.invariant.onward.room, wide.room);
            closed = λ is. absurd (false≢true (sym is ∙ w.widened-is));
          }
      | in_default w ↦
          let both = was_closed n (here / 4) (here % 4) b d c.in_ok-bound.field-0 c.in_ok-bound.ensures w.in_default.is in
          rw (w.self-is, both.0, w.widened-is) record {
            onward = c.loop-place.invariant.onward;
            widened = c.loop-place.invariant.widened;
            closed = λ is. below_more (λ (p : ℕ). IsSlotClosed n b.bounds.items (device_at n (p / 4)) (p % 4) (reads_of b.bounds.items (device_at n (p / 4)))) here (c.loop-place.invariant.closed is) both.1;
          }
    ]

pub returns-clause-closed : goal.returns-clause-closed
returns-clause-closed c = λ is.
    closed_by_slots c.args.circuit.now c.loop-place.self.bounds.items c.loop-place.place (omega (arith, c.devices-place-end.ensures.count, c.loop-place-test.false)) (c.loop-place.invariant.closed is)
