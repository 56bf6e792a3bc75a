-- A state of the machine with the floor and the ceiling that its reaches are measured from, so that its bounds can be told in millivolts.
use Rattle.std.specs.Prelude.{◌≡◌, ℕ, ◌+◌, ◌*◌, ◌≤◌, ℤ, List, Option, slice_index}
use Rattle.cvc_base.specs.declared.ids.Side.{Side}
use Rattle.cvc_base.specs.declared.ids.Side.TheVariants.{Low, High}
use Rattle.cvc_law.specs.Network.{Network, floor_of, ceiling_of}
use Rattle.cvc_law.specs.Reach.{low_reach, low_of, high_of}
use Rattle.cvc_core.specs.State.{Machine}
use Rattle.cvc_core.specs.Sound.{Sound}

pub record Measured : Type 0 where
  pub floor : Option ℤ
  pub ceiling : Option ℤ
  pub machine : Machine

-- the machine on the scale of a circuit
abbrev pub measured : Network → Machine → Measured
measured c s = record { floor = floor_of c; ceiling = ceiling_of c; machine = s }

-- the bound of a net on a side, in millivolts
abbrev pub bound_at : Measured → ℕ → Side → Option ℤ
bound_at s n Low = low_of s.ceiling (slice_index s.machine.bounds (2 * n))
bound_at s n High = high_of s.floor (slice_index s.machine.bounds (2 * n + 1))

-- no bound reaches further than from the floor to the ceiling
abbrev pub AreMeasured : Option ℤ → Option ℤ → List ℕ → Type 0
AreMeasured floor ceiling bounds = (b : ℕ) → slice_index bounds b ≤ low_reach ceiling floor

-- a sound state of this circuit
pub record IsSoundOn (c : Network) (s : Measured) : Type 0 where
  pub floor : s.floor ≡ floor_of c
  pub ceiling : s.ceiling ≡ ceiling_of c
  pub sound : Sound c s.machine
