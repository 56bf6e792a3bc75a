-- What a rule about pins measures at a device: its limit, and how far two voltages can lie apart.
use Rattle.std.specs.Prelude.{List, Option, None}
use Rattle.std.specs.Option.{option_map}
use Rattle.cvc_base.specs.declared.rule.Rule.{Rule}
use Rattle.cvc_base.specs.declared.rule.Rule.TheVariants.{PossibleLeak, SupplyPath, FloatingGate, SureLeak}
use Rattle.cvc_law.specs.declared.interval.Interval.{Interval}
use Rattle.cvc_law.specs.declared.device.Device.{Device}
use Rattle.cvc_law.specs.Network.{Network}
use Rattle.cvc_law.specs.Rules.{Numbers, two_numbers, holds}
use Rattle.cvc_bias.specs.declared.excess.Excess.{Excess}

-- the numbers of a finding, from what was measured
abbrev pub numbers_of : Option Excess → Option Numbers
numbers_of = option_map (λ e. two_numbers e.limit e.found)

-- where one of the rules about pins holds of the device, the numbers of its finding
abbrev pub bias_numbers : Network → List Interval → Device → Rule → Option Numbers
bias_numbers c f d PossibleLeak = None
bias_numbers c f d SupplyPath = None
bias_numbers c f d FloatingGate = None
bias_numbers c f d SureLeak = None
bias_numbers c f d rule = holds c f d rule
