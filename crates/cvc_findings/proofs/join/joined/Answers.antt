use Rattle.std.proofs.Common.{◌<◌, length, get_or}
use Rattle.std.proofs.lemmas.Option.{slice_get-get_or}
use Rattle.cvc_base.specs.declared.rule.Rule.TheVariants.{OvervoltageGs}
use Rattle.cvc_findings.proofs.Ranges.{next_rule}
use Rattle.cvc_findings.proofs.join.joined.Goals as goal

pub loop-place-preserved : goal.loop-place-preserved
loop-place-preserved g c = λ finds count all.
    let rules = g.S.RuleSet.rules in
    let k = c.loop-place.place in
    let inside : k < length rules = rw c.rules-place-end.ensures at c.loop-place-test.true in
    next_rule finds count k rules OvervoltageGs _ _ inside (c.loop-place.invariant finds count all)
    (c.in_ok-put_found.ensures finds rules count (get_or rules k OvervoltageGs) all (slice_get-get_or rules k OvervoltageGs inside))
