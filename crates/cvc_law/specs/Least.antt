-- Closed families and the least family. A family is closed where each value that a device gives, on the family's own bounds, to a net that isn't declared is covered.
-- The least family is closed and within every closed family.
use Rattle.std.specs.Prelude.{ℕ, ◌≡◌, ◌<◌, ◌%◌, ◌==◌, ℤ, ◌≤ℤ◌, List, Some, false, IsSomeAnd, slice_get}
use Rattle.std.specs.Bool.{MatchBool}
use Rattle.cvc_law.specs.declared.interval.Interval.{Interval}
use Rattle.cvc_law.specs.declared.interval.Reads.{Reads}
use Rattle.cvc_law.specs.declared.device.Device.{Device}
use Rattle.cvc_law.specs.Network.{Network, end_a, end_b, gate, is_declared}
use Rattle.cvc_law.specs.Family.{interval_at, IsFamily, IsWithin}
use Rattle.cvc_law.specs.Conduction.{given, target}

-- what a family says of the device's nets
abbrev pub reads_of : List Interval → Device → Reads
reads_of f d = record { a = interval_at f (end_a d); b = interval_at f (end_b d); g = interval_at f (gate d) }

-- even slots give a low, odd ones a high
abbrev pub Covers : Interval → ℕ → ℤ → Type 0
Covers i slot v = MatchBool (slot % 2 == 0) (IsSomeAnd i.low (λ low. low ≤ℤ v)) (IsSomeAnd i.high (λ high. v ≤ℤ high))

abbrev pub IsClosedAt : Network → List Interval → Device → Type 0
IsClosedAt c f d = (slot : ℕ) (v : ℤ) → slot < 4 → is_declared c (target d slot) ≡ false → given c d slot (reads_of f d) ≡ Some v → Covers (interval_at f (target d slot)) slot v

abbrev pub IsClosed : Network → List Interval → Type 0
IsClosed c f = (i : ℕ) (d : Device) → slice_get c.devices i ≡ Some d → IsClosedAt c f d

pub record IsLeast (c : Network) (f : List Interval) : Type 0 where
  pub family : IsFamily c f
  pub closed : IsClosed c f
  pub least : (g : List Interval) → IsFamily c g → IsClosed c g → IsWithin f g

-- closed at the device of a number
abbrev pub IsClosedAtNumber : Network → List Interval → ℕ → Type 0
IsClosedAtNumber c f i = (d : Device) → slice_get c.devices i ≡ Some d → IsClosedAt c f d

-- closed at a device as far as one of its slots goes, on these reads
abbrev pub IsSlotClosed : Network → List Interval → Device → ℕ → Reads → Type 0
IsSlotClosed c f d slot r = (v : ℤ) → is_declared c (target d slot) ≡ false → given c d slot r ≡ Some v → Covers (interval_at f (target d slot)) slot v
