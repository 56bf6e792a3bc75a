-- What a step does to a bound: it leaves it, or it is the widening of a slot whose target the bound is, and then the bound is what that slot gave and no narrower than before.
use Rattle.std.specs.Prelude.{◌≡◌, ℕ, ◌≤◌, List, slice_index, ◌⊎◌}
use Rattle.cvc_law.specs.Network.{Network}
use Rattle.cvc_law.specs.Reach.{target_place}
use Rattle.cvc_core.specs.declared.actor.Actor.{Actor}
use Rattle.cvc_core.specs.declared.actor.Intent.{Intent}
use Rattle.cvc_core.specs.declared.actor.Intent.TheVariants.{Widen}
use Rattle.cvc_core.specs.State.{Machine, device_of, offer, run_of}

-- by the step of an actor that is at a, after which the bounds are f
abbrev pub IsMoved : Network → Machine → Actor → Intent → ℕ → List ℕ → Type 0
IsMoved c s a i b f = (slice_index f b ≡ slice_index s.bounds b) ⊎ ((k : ℕ) × (i ≡ Widen k) × (b ≡ target_place (device_of c (run_of a)) k) × (slice_index f b ≡ offer c (run_of a) k) × (slice_index s.bounds b ≤ slice_index f b))
