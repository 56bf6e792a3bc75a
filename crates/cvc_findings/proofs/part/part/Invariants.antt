use Rattle.std.proofs.Common.{take}
use Rattle.std.specs.List.{AllZip}
use Rattle.cvc_findings.specs.Listed.{IsFound}
use Rattle.cvc_findings.proofs.part.part.Given as goal

abbrev pub invariant-loop-rule : goal.invariant-loop-rule
invariant-loop-rule g l = AllZip (λ rule list. IsFound (g.S.RuleSet.finds l.circuit l.family rule) l.start l.end list) (take l.rule-index l.rule-items) l.lists
