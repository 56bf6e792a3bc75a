-- Rules that find what the law says of them.
use Rattle.std.proofs.Common.{◌≡◌, ℕ, zero, suc, List, ◌++◌, refl, ap, ◌∙◌}
use Rattle.std.specs.Option.{option_to_list}
use Rattle.cvc_base.specs.declared.rule.Rule.{Rule}
use Rattle.cvc_base.specs.declared.finding.Finding.{Finding}
use Rattle.cvc_law.specs.declared.interval.Interval.{Interval}
use Rattle.cvc_law.specs.Network.{Network, devices}
use Rattle.cvc_law.specs.Rules.{finding_at, findings_below, findings_by}
use Rattle.cvc_findings.specs.Listed.{found_below}

found_of_law : (c : Network) (f : List Interval) (rule : Rule) (n : ℕ) → found_below (finding_at c f rule) n ≡ findings_below c f rule n
found_of_law c f rule zero = refl
found_of_law c f rule (suc n) = ap (λ (l : List Finding). l ++ option_to_list (finding_at c f rule n)) (found_of_law c f rule n)

-- one rule before others
pub rule_of_law : (c : Network) (f : List Interval) (rule : Rule) {xs ys : List Finding} → xs ≡ ys → found_below (finding_at c f rule) (devices c) ++ xs ≡ findings_by c f rule ++ ys
rule_of_law c f rule {xs} {ys} others =
    ap (λ (l : List Finding). l ++ xs) (found_of_law c f rule (devices c)) ∙ ap (λ (l : List Finding). findings_by c f rule ++ l) others
