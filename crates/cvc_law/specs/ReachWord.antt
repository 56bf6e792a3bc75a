-- How a bound is stored in a word: v millivolts as v + 1,000,001, an unknown low as 2,000,002 and an unknown high as 0.
-- So the lesser of two words of a low, and the greater of two words of a high, is the word of the wider bound.
use Rattle.std.specs.Prelude.{ℕ, zero, suc, ◌==◌, ℤ, pos, neg_ℤ, ◌+ℤ◌, ◌-ℤ◌, ◌≤ℤ◌, Option, Some, None, IfSome, if◌then◌else◌}
use Rattle.cvc_law.specs.Network.{Network, floor_of, ceiling_of}
use Rattle.cvc_law.specs.Reach.{natural, bound_of, reach_of}

-- the word of no bound
abbrev pub unknown_word : ℕ → ℕ
unknown_word zero = 2000002
unknown_word (suc n) = 0

abbrev pub stored : ℕ → Option ℤ → ℕ
stored side None = unknown_word side
stored side (Some v) = natural (v +ℤ pos 1000001)

-- the word that stores the bound of a side with that reach
abbrev pub word_of : Network → ℕ → ℕ → ℕ
word_of c side x = stored side (bound_of c side x)

abbrev pub bound_in : ℕ → ℕ → Option ℤ
bound_in side word = if word == unknown_word side then None else Some (pos word -ℤ pos 1000001)

-- the reach of the bound that a word stores
abbrev pub reach_in : Network → ℕ → ℕ → ℕ
reach_in c side word = reach_of c side (bound_in side word)

-- the floor and the ceiling are voltages
pub record IsInMillion (c : Network) : Type 0 where
  pub floor : IfSome (floor_of c) (λ v. neg_ℤ (pos 1000000) ≤ℤ v)
  pub ceiling : IfSome (ceiling_of c) (λ v. v ≤ℤ pos 1000000)
