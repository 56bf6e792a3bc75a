-- The list of this crate's rules, as the law has it.
use Rattle.std.proofs.Common.{◌≡◌, List, refl}
use Rattle.cvc_base.specs.declared.rule.Rule.TheVariants.{PossibleLeak, SupplyPath, FloatingGate, SureLeak}
use Rattle.cvc_law.specs.declared.interval.Interval.{Interval}
use Rattle.cvc_law.specs.Network.{Network, devices}
use Rattle.cvc_law.specs.Rules.{leak_rules}
use Rattle.cvc_findings.specs.Listed.{listed}
use Rattle.cvc_findings.proofs.OfTheLaw.{rule_of_law}
use Rattle.cvc_leak.specs.Leak.{leak_finding, leak_findings}

pub all_rules : (c : Network) (f : List Interval) → listed (leak_finding c f) (devices c) leak_rules ≡ leak_findings c f
all_rules c f =
    rule_of_law c f PossibleLeak (rule_of_law c f SupplyPath (rule_of_law c f FloatingGate (rule_of_law c f SureLeak refl)))
