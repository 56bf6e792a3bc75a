-- The numbers of a finding, as the code holds them and as the rules state them.
use Rattle.std.specs.Prelude.{List, Option, None}
use Rattle.std.specs.Option.{option_map}
use Rattle.cvc_base.specs.declared.rule.Rule.{Rule}
use Rattle.cvc_base.specs.declared.rule.Rule.TheVariants.{PossibleLeak, SupplyPath, FloatingGate, SureLeak}
use Rattle.cvc_law.specs.declared.interval.Interval.{Interval}
use Rattle.cvc_law.specs.declared.device.Device.{Device}
use Rattle.cvc_law.specs.Network.{Network}
use Rattle.cvc_law.specs.Rules.{Numbers, holds}
use Rattle.cvc_leak.specs.declared.figures.Figures.{Figures}

abbrev pub numbers_of : Option Figures → Option Numbers
numbers_of = option_map (λ x. record { first = x.first; second = x.second; third = x.third; fourth = x.fourth })

-- where one of the rules of this crate holds of the device, the numbers of its finding
abbrev pub leak_numbers : Network → List Interval → Device → Rule → Option Numbers
leak_numbers c f d PossibleLeak = holds c f d PossibleLeak
leak_numbers c f d SupplyPath = holds c f d SupplyPath
leak_numbers c f d FloatingGate = holds c f d FloatingGate
leak_numbers c f d SureLeak = holds c f d SureLeak
leak_numbers c f d _ = None
