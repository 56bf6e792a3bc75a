-- Voltage families: for each net of a circuit a low and a high bound, each of which may be unknown.
-- A declared net has its declared bounds, and every known bound lies from the floor to the ceiling.
use Rattle.std.specs.Prelude.{ℕ, ◌≡◌, ℤ, ◌≤ℤ◌, List, length, Some, None, slice_index_or, IfSome, IsSomeAnd}
use Rattle.cvc_law.specs.declared.interval.Interval.{Interval}
use Rattle.cvc_law.specs.declared.interval.Fixed.{Fixed}
use Rattle.cvc_law.specs.Network.{Network, nets, fixed_at, floor_of, ceiling_of}

abbrev pub unknown : Interval
unknown = record { low = None; high = None }

-- the bounds of a net
abbrev pub interval_at : List Interval → ℕ → Interval
interval_at f n = slice_index_or f n unknown

-- the value lies from the floor to the ceiling; nothing does where nothing is declared
abbrev pub IsInRange : Network → ℤ → Type 0
IsInRange c v = IsSomeAnd (floor_of c) (λ floor. floor ≤ℤ v) × IsSomeAnd (ceiling_of c) (λ ceiling. v ≤ℤ ceiling)

pub record IsFamily (c : Network) (f : List Interval) : Type 0 where
  pub every_net : length f ≡ nets c
  pub declared : (n : ℕ) (w : Fixed) → fixed_at c n ≡ Some w → interval_at f n ≡ record { low = Some w.low; high = Some w.high }
  pub low_in_range : (n : ℕ) → IfSome (interval_at f n).low (IsInRange c)
  pub high_in_range : (n : ℕ) → IfSome (interval_at f n).high (IsInRange c)

-- each bound that the first knows is known to the second, and is there as wide or wider
pub record IsWithin (f g : List Interval) : Type 0 where
  pub low : (n : ℕ) → IfSome (interval_at f n).low (λ x. IsSomeAnd (interval_at g n).low (λ y. y ≤ℤ x))
  pub high : (n : ℕ) → IfSome (interval_at f n).high (λ x. IsSomeAnd (interval_at g n).high (λ y. x ≤ℤ y))
