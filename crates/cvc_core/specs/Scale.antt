-- Voltages between a floor and a ceiling.
use Rattle.std.specs.Prelude.{ℤ, ◌≤ℤ◌, Option, IsSomeAnd}

-- the value lies from the floor to the ceiling
abbrev pub LiesBetween : Option ℤ → Option ℤ → ℤ → Type 0
LiesBetween floor ceiling v = IsSomeAnd floor (λ f. f ≤ℤ v) × IsSomeAnd ceiling (λ c. v ≤ℤ c)
