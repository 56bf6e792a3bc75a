-- What it is for reads to widen, and for one value to take in another.
use Rattle.std.specs.Prelude.{ℕ, ◌%◌, ◌==◌, ℤ, ◌≤ℤ◌, IfSome, IsSomeAnd}
use Rattle.std.specs.Bool.{MatchBool}
use Rattle.cvc_law.specs.declared.interval.Interval.{Interval}
use Rattle.cvc_law.specs.declared.interval.Reads.{Reads}
use Rattle.cvc_law.specs.Network.{Network}
use Rattle.cvc_law.specs.Family.{IsInRange}

-- each known bound lies from the floor to the ceiling
abbrev pub IsKnownInRange : Network → Interval → Type 0
IsKnownInRange c i = IfSome i.low (IsInRange c) × IfSome i.high (IsInRange c)

pub record AreInRange (c : Network) (r : Reads) : Type 0 where
  pub a : IsKnownInRange c r.a
  pub b : IsKnownInRange c r.b
  pub g : IsKnownInRange c r.g

-- each bound that the first knows is known to the second, and is there as wide or wider
abbrev pub IsAsWide : Interval → Interval → Type 0
IsAsWide i j = IfSome i.low (λ x. IsSomeAnd j.low (λ y. y ≤ℤ x)) × IfSome i.high (λ x. IsSomeAnd j.high (λ y. x ≤ℤ y))

pub record AreAsWide (r s : Reads) : Type 0 where
  pub a : IsAsWide r.a s.a
  pub b : IsAsWide r.b s.b
  pub g : IsAsWide r.g s.g

-- the second value of the slot takes in the first: even slots give lows, odd ones highs
abbrev pub TakesIn : ℕ → ℤ → ℤ → Type 0
TakesIn slot v w = MatchBool (slot % 2 == 0) (w ≤ℤ v) (v ≤ℤ w)
