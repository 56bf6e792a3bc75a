use Rattle.std.proofs.Common.{◌≡◌, ℕ, List, ◌++◌, slice_get, Some}
use Rattle.std.specs.Prelude.{Option}
use Rattle.cvc_base.specs.declared.rule.Rule.{Rule}
use Rattle.cvc_base.specs.declared.finding.Finding.{Finding}
use Rattle.cvc_findings.specs.Listed.{found_below}
use Rattle.cvc_findings.specs.Parts.{boundary, AreParts}
use Rattle.cvc_findings.proofs.join.put_found.Given as goal

abbrev pub invariant-loop-part : goal.invariant-loop-part
invariant-loop-part l = (finds : Rule → ℕ → Option Finding) (rules : List Rule) (count : ℕ) (rule : Rule) → AreParts finds rules count l.parts
    → slice_get rules l.place ≡ Some rule → l.all ≡ l.initial.all ++ found_below (finds rule) (boundary count l.part-index)
