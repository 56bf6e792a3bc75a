use Rattle.cvc_findings.proofs.Ranges.{one_more}
use Rattle.cvc_findings.proofs.part.found_by.Goals as goal

pub loop-d-preserved : goal.loop-d-preserved
loop-d-preserved g c =
    one_more (g.S.RuleSet.finds c.args.circuit.now c.args.family.now c.args.rule) c.args.start c.loop-d.d _ _ c.loop-d.invariant (rw c.find.ensures at c.in_ok-put.ensures)
