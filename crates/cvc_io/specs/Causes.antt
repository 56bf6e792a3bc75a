-- Faults of the outside are counted by a number that never falls. A call has failed with a cause only where that number rose in it:
-- it is greater afterwards than before, or stands at the last value of every counter.
use Rattle.std.specs.Prelude.{ℕ, ◌+◌, ◌-◌, ◌^◌, ◌≤◌, min, Result, OnErr}

-- one more, up to the last value of the counter
abbrev pub bump : ℕ → ℕ
bump n = min (n + 1) (2 ^ 64 - 1)

abbrev pub Rose : ℕ → ℕ → Type 0
Rose before now = bump before ≤ now

-- the count has not fallen, and rose where the call failed
pub record HasCause {T E : Type 0} (before now : ℕ) (result : Result T E) : Type 0 where
  pub later : before ≤ now
  pub failed : OnErr result (Rose before now)
