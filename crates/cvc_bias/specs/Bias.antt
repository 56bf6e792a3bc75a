-- The findings of the rules about voltages between pins: overvoltage, forward bias and bias of a source's or drain's junction.
-- Of one rule at one device, and of all eight rules in the report's order.
use Rattle.std.specs.Prelude.{ℕ, List, Option, None}
use Rattle.std.specs.List.{flat_map}
use Rattle.cvc_base.specs.declared.rule.Rule.{Rule}
use Rattle.cvc_base.specs.declared.rule.Rule.TheVariants.{PossibleLeak, SupplyPath, FloatingGate, SureLeak}
use Rattle.cvc_base.specs.declared.finding.Finding.{Finding}
use Rattle.cvc_law.specs.declared.interval.Interval.{Interval}
use Rattle.cvc_law.specs.Network.{Network}
use Rattle.cvc_law.specs.Rules.{finding_at, findings_by, bias_rules}

-- the finding of one of these rules at a device; nothing for the other rules
abbrev pub bias_finding : Network → List Interval → Rule → ℕ → Option Finding
bias_finding c f PossibleLeak i = None
bias_finding c f SupplyPath i = None
bias_finding c f FloatingGate i = None
bias_finding c f SureLeak i = None
bias_finding c f rule i = finding_at c f rule i

-- by rule, and of one rule by device
abbrev pub bias_findings : Network → List Interval → List Finding
bias_findings c f = flat_map (findings_by c f) bias_rules
