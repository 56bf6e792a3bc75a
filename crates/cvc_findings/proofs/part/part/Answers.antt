use Rattle.std.proofs.Common.{◌≤◌, List, length, arith}
use Rattle.std.proofs.lemmas.List.{take_all}
use Rattle.cvc_base.specs.declared.rule.Rule.{Rule}
use Rattle.cvc_base.specs.declared.finding.Finding.{Finding}
use Rattle.cvc_findings.specs.Listed.{IsFound}
use Rattle.cvc_findings.proofs.Places.{take_zip_more}
use Rattle.cvc_findings.proofs.part.part.Goals as goal

pub loop-rule-preserved : goal.loop-rule-preserved
loop-rule-preserved g c =
    rw c.in_ok-push.ensures.ok (take_zip_more (λ (rule : Rule) (l : List Finding). IsFound (g.S.RuleSet.finds c.args.circuit.now c.args.family.now rule) c.boundary-start.result c.boundary-end.result l) c.rules-rule-items.result.now c.loop-rule.lists c.loop-rule.rule-index _ _ c.loop-rule.invariant c.loop-rule-test.true c.in_ok-found_by.ensures)

pub returns : goal.returns
returns g c =
    let all : length c.rules-rule-items.result.now ≤ c.loop-rule.rule-index = omega (arith, c.loop-rule-test.false, c.loop-rule.auto.rule-index-end) in
    rw (c.rules-rule-items.ensures, c.boundary-start.ensures, c.boundary-end.ensures, c.devices-count.ensures.count) at (rw (take_all c.loop-rule.rule-index c.rules-rule-items.result.now all) at c.loop-rule.invariant)
