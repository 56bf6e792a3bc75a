use Rattle.std.proofs.Common.{◌≡◌, ℕ, take}
use Rattle.std.specs.Prelude.{Option}
use Rattle.cvc_base.specs.declared.rule.Rule.{Rule}
use Rattle.cvc_base.specs.declared.finding.Finding.{Finding}
use Rattle.cvc_findings.specs.Listed.{listed}
use Rattle.cvc_findings.specs.Parts.{AreParts}
use Rattle.cvc_findings.proofs.join.joined.Given as goal

abbrev pub invariant-loop-place : goal.invariant-loop-place
invariant-loop-place g l = (finds : Rule → ℕ → Option Finding) (count : ℕ) → AreParts finds g.S.RuleSet.rules count l.parts
    → l.all ≡ listed finds count (take l.place g.S.RuleSet.rules)
