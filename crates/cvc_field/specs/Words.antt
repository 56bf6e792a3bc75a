-- How a circuit lies in shared words: the count, then for each net the word of its low and the word of its high, then for each device its mark.
-- The word of a bound stores it in millivolts, and a value of the machine is read out of it and put into it by the floor and the ceiling of the circuit.
use Rattle.std.specs.Prelude.{◌≡◌, ℕ, zero, suc, ◌+◌, ◌*◌, ◌%◌, ◌<◌, ◌≤◌, List, [], ◌∷◌, ◌++◌, Option, replicate, slice_index}
use Rattle.cvc_law.specs.declared.interval.Fixed.{Fixed}
use Rattle.cvc_law.specs.declared.interval.Interval.{Interval}
use Rattle.cvc_law.specs.Network.{Network, devices}
use Rattle.cvc_law.specs.Reach.{width, bound_on, declared_interval}
use Rattle.cvc_law.specs.ReachWord.{unknown_word, stored, word_of, reach_in, bound_in}
use Rattle.cvc_core.specs.State.{Place, CountWord, BoundWord, MarkWord}

-- the place is one of the circuit's
abbrev pub IsPlace : Network → Place → Type 0
IsPlace c CountWord = Unit {0}
IsPlace c (BoundWord b) = b < width c
IsPlace c (MarkWord d) = d < devices c

-- where its word lies
abbrev pub word_index : Network → Place → ℕ
word_index c CountWord = 0
word_index c (BoundWord b) = 1 + b
word_index c (MarkWord d) = 1 + width c + d

-- the word that stands for a value of the machine
abbrev pub word_at : Network → Place → ℕ → ℕ
word_at c CountWord x = x
word_at c (BoundWord b) x = word_of c (b % 2) x
word_at c (MarkWord d) x = x

-- the value of a word
abbrev pub value_in : Network → Place → ℕ → ℕ
value_in c CountWord r = r
value_in c (BoundWord b) r = reach_in c (b % 2) r
value_in c (MarkWord d) r = r

-- ---- at the start
abbrev pub word_row : List (Option Fixed) → List ℕ
word_row [] = []
word_row (x ∷ xs) = stored 0 (bound_on 0 (declared_interval x)) ∷ stored 1 (bound_on 1 (declared_interval x)) ∷ word_row xs

-- the count is the number of devices, each bound is as declared or unknown, and each mark is Queued
abbrev pub start_words : Network → List ℕ
start_words c = devices c ∷ (word_row c.fixed ++ replicate (devices c) 1)

-- ---- what words tell
-- a word that isn't that of no bound stores a voltage within a million
abbrev pub IsStoredWord : ℕ → ℕ → Type 0
IsStoredWord side w = (w ≡ unknown_word side → ⊥) → (1 ≤ w) × (w ≤ 2000001)

-- the intervals of that many nets, from one on
abbrev pub intervals_from : ℕ → ℕ → List ℕ → List Interval
intervals_from zero i ws = []
intervals_from (suc n) i ws = record { low = bound_in 0 (slice_index ws (1 + 2 * i)); high = bound_in 1 (slice_index ws (2 + 2 * i)) } ∷ intervals_from n (i + 1) ws

abbrev pub last_intervals : ℕ → List ℕ → List Interval
last_intervals n ws = intervals_from n 0 ws
