-- The laws of stored words. A word gives its bound and its reach back. The wider of two lows has the lesser word and the wider of two highs the greater one, strictly.
-- So the word of the wider bound is the least or the greatest of two words, and whether a bound changed is told from the words before and after.
use Rattle.std.specs.Prelude.{ℕ, ◌≡◌, ◌%◌, ◌/◌, ◌<◌, ◌≤◌, ◌⊎◌, ◌↔◌, min, max}
use Rattle.cvc_law.specs.Network.{Network, fixed_at, IsCircuit}
use Rattle.cvc_law.specs.Reach.{widest, bound_of, bound_on, declared_interval, declared_reach}
use Rattle.cvc_law.specs.ReachWord.{IsInMillion, unknown_word, stored, word_of, bound_in, reach_in}

abbrev pub WordsTellBounds : Type 0
WordsTellBounds = (c : Network) (side x : ℕ) → IsInMillion c → side < 2 → x ≤ widest c → bound_in side (word_of c side x) ≡ bound_of c side x

abbrev pub WordsTellReaches : Type 0
WordsTellReaches = (c : Network) (side x : ℕ) → IsInMillion c → side < 2 → x ≤ widest c → reach_in c side (word_of c side x) ≡ x

-- the word of an unknown bound, or one of the words of voltages
abbrev pub WordsAreFew : Type 0
WordsAreFew = (c : Network) (side x : ℕ) → IsInMillion c → side < 2 → x ≤ widest c → (word_of c side x ≡ unknown_word side) ⊎ ((1 ≤ word_of c side x) × (word_of c side x ≤ 2000001))

abbrev pub LeastWordIsWiderLow : Type 0
LeastWordIsWiderLow = (c : Network) (x y : ℕ) → IsInMillion c → x ≤ widest c → y ≤ widest c → min (word_of c 0 x) (word_of c 0 y) ≡ word_of c 0 (max x y)

abbrev pub GreatestWordIsWiderHigh : Type 0
GreatestWordIsWiderHigh = (c : Network) (x y : ℕ) → IsInMillion c → x ≤ widest c → y ≤ widest c → max (word_of c 1 x) (word_of c 1 y) ≡ word_of c 1 (max x y)

abbrev pub LowWordsFall : Type 0
LowWordsFall = (c : Network) (x y : ℕ) → IsInMillion c → x ≤ widest c → y ≤ widest c → x < y ↔ word_of c 0 y < word_of c 0 x

abbrev pub HighWordsRise : Type 0
HighWordsRise = (c : Network) (x y : ℕ) → IsInMillion c → x ≤ widest c → y ≤ widest c → x < y ↔ word_of c 1 x < word_of c 1 y

-- the word of what a bound's net is declared at, or of no bound
abbrev pub DeclaredWordsAreStored : Type 0
DeclaredWordsAreStored = (c : Network) (b : ℕ) → IsCircuit c.fixed c.devices → word_of c (b % 2) (declared_reach c b) ≡ stored (b % 2) (bound_on (b % 2) (declared_interval (fixed_at c (b / 2))))
