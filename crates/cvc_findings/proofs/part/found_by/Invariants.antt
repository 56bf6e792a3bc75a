use Rattle.cvc_findings.specs.Listed.{IsFound}
use Rattle.cvc_findings.proofs.part.found_by.Given as goal

abbrev pub invariant-loop-d : goal.invariant-loop-d
invariant-loop-d g l = IsFound (g.S.RuleSet.finds l.circuit l.family l.rule) l.start l.d l.found
