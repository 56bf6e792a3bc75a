use Rattle.std.proofs.Common.{◌≡◌, ◌<◌, ◌+◌, Option, length, take, arith, sym, ap, ◌∙◌}
use Rattle.cvc_law.specs.declared.interval.Fixed.{Fixed}
use Rattle.cvc_law.specs.Network.{greater, greatest_high}
use Rattle.cvc_law.proofs.CircuitParts.{high_more, with_high}
use Rattle.cvc_law.proofs.range.highest.Goals as goal
use Rattle.cvc_law.proofs.range.highest.Goals.{in-Some, in_default}

pub loop-declared-preserved : goal.loop-declared-preserved
loop-declared-preserved c =
    let lt : c.loop-declared.declared-index < length c.args.fixed.now = omega arith in
    let more : with_high c.declared-item.result (greatest_high (take c.loop-declared.declared-index c.args.fixed.now)) ≡ greatest_high (take (c.loop-declared.declared-index + 1) c.args.fixed.now) = high_more c.args.fixed.now c.loop-declared.declared-index c.declared-item.result lt c.declared-item.is in
    record {
      so_far = elim c.match-declared.branch [
        | in-Some w ↦ w.ceiling-is ∙ w.greater-ceiling.ensures.greater ∙ ap (greater w.in-Some.declared.high) c.loop-declared.invariant.so_far ∙ ap (λ (o : Option Fixed). with_high o (greatest_high (take c.loop-declared.declared-index c.args.fixed.now))) (sym w.in-Some.is) ∙ more
        | in_default w ↦ w.ceiling-is ∙ c.loop-declared.invariant.so_far ∙ ap (λ (o : Option Fixed). with_high o (greatest_high (take c.loop-declared.declared-index c.args.fixed.now))) (sym w.in_default.is) ∙ more
      ];
      in_million = elim c.match-declared.branch [
        | in-Some w ↦ rw w.ceiling-is (w.greater-ceiling.ensures.in_million c.loop-declared.invariant.in_million)
        | in_default w ↦ rw w.ceiling-is c.loop-declared.invariant.in_million
      ];
    }
