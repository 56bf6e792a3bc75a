-- The list of this crate's rules, as the law has it.
use Rattle.std.proofs.Common.{◌≡◌, List, refl}
use Rattle.cvc_base.specs.declared.rule.Rule.TheVariants.{OvervoltageGs, OvervoltageGd, OvervoltageDs, OvervoltageBs, OvervoltageBd, OvervoltageBg, ForwardBias, SourceBulk}
use Rattle.cvc_law.specs.declared.interval.Interval.{Interval}
use Rattle.cvc_law.specs.Network.{Network, devices}
use Rattle.cvc_law.specs.Rules.{bias_rules}
use Rattle.cvc_findings.specs.Listed.{listed}
use Rattle.cvc_findings.proofs.OfTheLaw.{rule_of_law}
use Rattle.cvc_bias.specs.Bias.{bias_finding, bias_findings}

pub all_rules : (c : Network) (f : List Interval) → listed (bias_finding c f) (devices c) bias_rules ≡ bias_findings c f
all_rules c f =
    rule_of_law c f OvervoltageGs (rule_of_law c f OvervoltageGd (rule_of_law c f OvervoltageDs (rule_of_law c f OvervoltageBs (rule_of_law c f OvervoltageBd (rule_of_law c f OvervoltageBg (rule_of_law c f ForwardBias (rule_of_law c f SourceBulk refl)))))))
