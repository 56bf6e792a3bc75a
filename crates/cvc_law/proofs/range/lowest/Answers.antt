use Rattle.std.proofs.Common.{◌≡◌, ◌<◌, ◌+◌, Option, length, take, arith, sym, ap, ◌∙◌}
use Rattle.cvc_law.specs.declared.interval.Fixed.{Fixed}
use Rattle.cvc_law.specs.Network.{lesser, least_low}
use Rattle.cvc_law.proofs.CircuitParts.{low_more, with_low}
use Rattle.cvc_law.proofs.range.lowest.Goals as goal
use Rattle.cvc_law.proofs.range.lowest.Goals.{in-Some, in_default}

pub loop-declared-preserved : goal.loop-declared-preserved
loop-declared-preserved c =
    let lt : c.loop-declared.declared-index < length c.args.fixed.now = omega arith in
    let more : with_low c.declared-item.result (least_low (take c.loop-declared.declared-index c.args.fixed.now)) ≡ least_low (take (c.loop-declared.declared-index + 1) c.args.fixed.now) = low_more c.args.fixed.now c.loop-declared.declared-index c.declared-item.result lt c.declared-item.is in
    record {
      so_far = elim c.match-declared.branch [
        | in-Some w ↦ w.floor-is ∙ w.lesser-floor.ensures.lesser ∙ ap (lesser w.in-Some.declared.low) c.loop-declared.invariant.so_far ∙ ap (λ (o : Option Fixed). with_low o (least_low (take c.loop-declared.declared-index c.args.fixed.now))) (sym w.in-Some.is) ∙ more
        | in_default w ↦ w.floor-is ∙ c.loop-declared.invariant.so_far ∙ ap (λ (o : Option Fixed). with_low o (least_low (take c.loop-declared.declared-index c.args.fixed.now))) (sym w.in_default.is) ∙ more
      ];
      in_million = elim c.match-declared.branch [
        | in-Some w ↦ rw w.floor-is (w.lesser-floor.ensures.in_million c.loop-declared.invariant.in_million)
        | in_default w ↦ rw w.floor-is c.loop-declared.invariant.in_million
      ];
    }
