-- A finding at a device, from the numbers of the rule there.
use Rattle.std.proofs.Common.{◌≡◌, ℕ, List, Some, refl, ap, sym, ◌∙◌}
use Rattle.std.specs.Prelude.{slice_get, Option}
use Rattle.cvc_base.specs.declared.rule.Rule.{Rule}
use Rattle.cvc_base.specs.declared.rule.Rule.TheVariants.{OvervoltageGs, OvervoltageGd, OvervoltageDs, OvervoltageBs, OvervoltageBd, OvervoltageBg, ForwardBias, SourceBulk, PossibleLeak, SupplyPath, FloatingGate, SureLeak}
use Rattle.cvc_law.specs.declared.interval.Interval.{Interval}
use Rattle.cvc_law.specs.declared.device.Device.{Device}
use Rattle.cvc_law.specs.Network.{Network}
use Rattle.cvc_law.specs.Rules.{holds, numbers_at, finding_with}
use Rattle.cvc_leak.specs.declared.figures.Figures.{Figures}
use Rattle.cvc_leak.specs.Leak.{leak_finding}
use Rattle.cvc_leak.specs.Figures.{numbers_of, leak_numbers}

one_rule : (c : Network) (f : List Interval) (i : ℕ) (d : Device) (rule : Rule) → slice_get c.devices i ≡ Some d → finding_with rule i (holds c f d rule) ≡ finding_with rule i (numbers_at c f rule (slice_get c.devices i))
one_rule c f i d rule at = ap (λ (o : Option Device). finding_with rule i (numbers_at c f rule o)) (sym at)

with_numbers : (c : Network) (f : List Interval) (i : ℕ) (d : Device) (rule : Rule) → slice_get c.devices i ≡ Some d → finding_with rule i (leak_numbers c f d rule) ≡ leak_finding c f rule i
with_numbers c f i d PossibleLeak at = one_rule c f i d PossibleLeak at
with_numbers c f i d SupplyPath at = one_rule c f i d SupplyPath at
with_numbers c f i d FloatingGate at = one_rule c f i d FloatingGate at
with_numbers c f i d SureLeak at = one_rule c f i d SureLeak at
with_numbers c f i d OvervoltageGs at = refl
with_numbers c f i d OvervoltageGd at = refl
with_numbers c f i d OvervoltageDs at = refl
with_numbers c f i d OvervoltageBs at = refl
with_numbers c f i d OvervoltageBd at = refl
with_numbers c f i d OvervoltageBg at = refl
with_numbers c f i d ForwardBias at = refl
with_numbers c f i d SourceBulk at = refl

-- the figures at the device make the finding
pub told : (c : Network) (f : List Interval) (i : ℕ) (d : Device) (rule : Rule) (found : Option Figures) → slice_get c.devices i ≡ Some d → numbers_of found ≡ leak_numbers c f d rule → finding_with rule i (numbers_of found) ≡ leak_finding c f rule i
told c f i d rule found at numbers = ap (finding_with rule i) numbers ∙ with_numbers c f i d rule at
