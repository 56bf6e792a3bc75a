-- A finding at a device, from the numbers of the rule there.
use Rattle.std.proofs.Common.{◌≡◌, ℕ, List, Some, refl, ap, sym, ◌∙◌}
use Rattle.std.specs.Prelude.{slice_get, Option}
use Rattle.cvc_base.specs.declared.rule.Rule.{Rule}
use Rattle.cvc_base.specs.declared.rule.Rule.TheVariants.{OvervoltageGs, OvervoltageGd, OvervoltageDs, OvervoltageBs, OvervoltageBd, OvervoltageBg, ForwardBias, SourceBulk, PossibleLeak, SupplyPath, FloatingGate, SureLeak}
use Rattle.cvc_law.specs.declared.interval.Interval.{Interval}
use Rattle.cvc_law.specs.declared.device.Device.{Device}
use Rattle.cvc_law.specs.Network.{Network}
use Rattle.cvc_law.specs.Rules.{holds, numbers_at, finding_with}
use Rattle.cvc_bias.specs.declared.excess.Excess.{Excess}
use Rattle.cvc_bias.specs.Bias.{bias_finding}
use Rattle.cvc_bias.specs.Measured.{numbers_of, bias_numbers}

one_rule : (c : Network) (f : List Interval) (i : ℕ) (d : Device) (rule : Rule) → slice_get c.devices i ≡ Some d → finding_with rule i (holds c f d rule) ≡ finding_with rule i (numbers_at c f rule (slice_get c.devices i))
one_rule c f i d rule at = ap (λ (o : Option Device). finding_with rule i (numbers_at c f rule o)) (sym at)

with_numbers : (c : Network) (f : List Interval) (i : ℕ) (d : Device) (rule : Rule) → slice_get c.devices i ≡ Some d → finding_with rule i (bias_numbers c f d rule) ≡ bias_finding c f rule i
with_numbers c f i d OvervoltageGs at = one_rule c f i d OvervoltageGs at
with_numbers c f i d OvervoltageGd at = one_rule c f i d OvervoltageGd at
with_numbers c f i d OvervoltageDs at = one_rule c f i d OvervoltageDs at
with_numbers c f i d OvervoltageBs at = one_rule c f i d OvervoltageBs at
with_numbers c f i d OvervoltageBd at = one_rule c f i d OvervoltageBd at
with_numbers c f i d OvervoltageBg at = one_rule c f i d OvervoltageBg at
with_numbers c f i d ForwardBias at = one_rule c f i d ForwardBias at
with_numbers c f i d SourceBulk at = one_rule c f i d SourceBulk at
with_numbers c f i d PossibleLeak at = refl
with_numbers c f i d SupplyPath at = refl
with_numbers c f i d FloatingGate at = refl
with_numbers c f i d SureLeak at = refl

-- what was measured at the device makes the finding
pub measured : (c : Network) (f : List Interval) (i : ℕ) (d : Device) (rule : Rule) (found : Option Excess) → slice_get c.devices i ≡ Some d → ((n : Network) → numbers_of found ≡ bias_numbers n f d rule) → finding_with rule i (numbers_of found) ≡ bias_finding c f rule i
measured c f i d rule found at numbers = ap (finding_with rule i) (numbers c) ∙ with_numbers c f i d rule at
