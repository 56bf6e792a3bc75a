-- The findings of the rules about leaks, paths between supplies and gates that nothing drives.
-- Of one rule at one device, and of all four rules in the report's order.
use Rattle.std.specs.Prelude.{ℕ, List, Option, None}
use Rattle.std.specs.List.{flat_map}
use Rattle.cvc_base.specs.declared.rule.Rule.{Rule}
use Rattle.cvc_base.specs.declared.rule.Rule.TheVariants.{PossibleLeak, SupplyPath, FloatingGate, SureLeak}
use Rattle.cvc_base.specs.declared.finding.Finding.{Finding}
use Rattle.cvc_law.specs.declared.interval.Interval.{Interval}
use Rattle.cvc_law.specs.Network.{Network}
use Rattle.cvc_law.specs.Rules.{finding_at, findings_by, leak_rules}

-- the finding of one of these rules at a device; nothing for the other rules
abbrev pub leak_finding : Network → List Interval → Rule → ℕ → Option Finding
leak_finding c f PossibleLeak i = finding_at c f PossibleLeak i
leak_finding c f SupplyPath i = finding_at c f SupplyPath i
leak_finding c f FloatingGate i = finding_at c f FloatingGate i
leak_finding c f SureLeak i = finding_at c f SureLeak i
leak_finding c f _ i = None

-- by rule, and of one rule by device
abbrev pub leak_findings : Network → List Interval → List Finding
leak_findings c f = flat_map (findings_by c f) leak_rules
