-- The words of bounds: which there are, how they are ordered, and those of declared bounds.
use Rattle.std.proofs.Common.{◌≡◌, ℕ, zero, suc, ◌/◌, ◌%◌, ◌<◌, ◌≤◌, max, Option, Some, None, ◌⊎◌, inl, inr, arith, ap, refl, sym, ◌∙◌}
use Rattle.std.proofs.lemmas.Int.{ints}
use Rattle.std.proofs.lemmas.Bool.{cases_lt}
use Rattle.std.specs.Prelude.{ℤ, pos, neg_ℤ, ◌+ℤ◌, ◌-ℤ◌, ◌≤ℤ◌, ◌↔◌, IfSome}
use mathlib.Core.Logic.{dite}
use native.Mathlib.Decide.{ℕ_discrete}
use Rattle.cvc_law.specs.declared.interval.Fixed.{Fixed}
use Rattle.cvc_law.specs.Network.{Network, fixed_at, floor_of, ceiling_of, IsCircuit}
use Rattle.cvc_law.specs.Family.{IsInRange}
use Rattle.cvc_law.specs.Reach.{low_reach, low_of, high_of, widest, bound_of, bound_on, reach_on, declared_interval, declared_reach}
use Rattle.cvc_law.specs.ReachWord.{unknown_word, stored, word_of, reach_in, IsInMillion}
use Rattle.cvc_law.proofs.ReachSpans.{natural_is, span_is}
use Rattle.cvc_law.proofs.ReachPlaces.{declared_in_range}
use Rattle.cvc_law.proofs.ReachValues.{low_of_low, high_of_high}
use Rattle.cvc_law.proofs.ReachWords.{low_word_min, high_word_max, reach_in_word}

-- ---- which words there are
abbrev pub IsKnownWord : ℕ → ℕ → Type 0
IsKnownWord side w = (w ≡ unknown_word side) ⊎ ((1 ≤ w) × (w ≤ 2000001))

low_word_known : (fl ce : Option ℤ) → IfSome fl (λ v. neg_ℤ (pos 1000000) ≤ℤ v) → IfSome ce (λ v. v ≤ℤ pos 1000000) → (x : ℕ) → x ≤ low_reach ce fl → IsKnownWord 0 (stored 0 (low_of ce x))
low_word_known fl None f c x h = inl refl
low_word_known fl (Some ce) f c zero h = inl refl
low_word_known None (Some ce) f c (suc x) h = absurd (omega arith)
low_word_known (Some fl) (Some ce) f c (suc x) h = inr (omega (arith, ints, span_is fl ce, natural_is (ce -ℤ pos x +ℤ pos 1000001)), omega (arith, ints, span_is fl ce, natural_is (ce -ℤ pos x +ℤ pos 1000001)))

high_word_known : (fl ce : Option ℤ) → IfSome fl (λ v. neg_ℤ (pos 1000000) ≤ℤ v) → IfSome ce (λ v. v ≤ℤ pos 1000000) → (x : ℕ) → x ≤ low_reach ce fl → IsKnownWord 1 (stored 1 (high_of fl x))
high_word_known None ce f c x h = inl refl
high_word_known (Some fl) ce f c zero h = inl refl
high_word_known (Some fl) None f c (suc x) h = absurd (omega arith)
high_word_known (Some fl) (Some ce) f c (suc x) h = inr (omega (arith, ints, span_is fl ce, natural_is (fl +ℤ pos x +ℤ pos 1000001)), omega (arith, ints, span_is fl ce, natural_is (fl +ℤ pos x +ℤ pos 1000001)))

pub word_known : (c : Network) (side x : ℕ) → IsInMillion c → side < 2 → x ≤ widest c → IsKnownWord side (word_of c side x)
word_known c zero x range lt h = low_word_known (floor_of c) (ceiling_of c) range.floor range.ceiling x h
word_known c (suc zero) x range lt h = high_word_known (floor_of c) (ceiling_of c) range.floor range.ceiling x h
word_known c (suc (suc side)) x range lt h = absurd (omega arith)

-- ---- how they are ordered
module _ (c : Network) (range : IsInMillion c) (x y : ℕ) (h : x ≤ widest c) (g : y ≤ widest c) (less : x < y) where
  pub low_less : word_of c 0 y < word_of c 0 x
  low_less = let m = low_word_min c range x y h g in let top : word_of c 0 (max x y) ≡ word_of c 0 y = ap (word_of c 0) (omega arith) in dite (ℕ_discrete (word_of c 0 x) (word_of c 0 y))
      (λ same. absurd (let is : x ≡ y = sym (reach_in_word c range 0 x (omega arith) h) ∙ (ap (reach_in c 0) same ∙ reach_in_word c range 0 y (omega arith) g) in omega arith))
      (λ apart. omega arith)

  pub high_less : word_of c 1 x < word_of c 1 y
  high_less = let m = high_word_max c range x y h g in let top : word_of c 1 (max x y) ≡ word_of c 1 y = ap (word_of c 1) (omega arith) in dite (ℕ_discrete (word_of c 1 x) (word_of c 1 y))
      (λ same. absurd (let is : x ≡ y = sym (reach_in_word c range 1 x (omega arith) h) ∙ (ap (reach_in c 1) same ∙ reach_in_word c range 1 y (omega arith) g) in omega arith))
      (λ apart. omega arith)

module _ (c : Network) (range : IsInMillion c) (x y : ℕ) (h : x ≤ widest c) (g : y ≤ widest c) where
  pub low_most : y ≤ x → word_of c 0 x ≤ word_of c 0 y
  low_most more = let m = low_word_min c range x y h g in let top : word_of c 0 (max x y) ≡ word_of c 0 x = ap (word_of c 0) (omega arith) in omega arith

  pub high_most : y ≤ x → word_of c 1 y ≤ word_of c 1 x
  high_most more = let m = high_word_max c range x y h g in let top : word_of c 1 (max x y) ≡ word_of c 1 x = ap (word_of c 1) (omega arith) in omega arith

  pub low_order : x < y ↔ word_of c 0 y < word_of c 0 x
  low_order = (
    low_less c range x y h g,
    λ below. elim (cases_lt x y) [
      | inl less ↦ less
      | inr more ↦ absurd (let most : word_of c 0 x ≤ word_of c 0 y = low_most more in omega arith)
    ],
  )

  pub high_order : x < y ↔ word_of c 1 x < word_of c 1 y
  high_order = (
    high_less c range x y h g,
    λ below. elim (cases_lt x y) [
      | inl less ↦ less
      | inr more ↦ absurd (let most : word_of c 1 y ≤ word_of c 1 x = high_most more in omega arith)
    ],
  )

-- ---- a declared bound is that of its reach
declared_bound : (c : Network) (o : Option Fixed) → ((w : Fixed) → o ≡ Some w → IsInRange c w.low × IsInRange c w.high) → (side : ℕ) → bound_of c side (reach_on c side (declared_interval o)) ≡ bound_on side (declared_interval o)
declared_bound c None h zero = low_of_low (floor_of c) (ceiling_of c) None tt
declared_bound c None h (suc n) = high_of_high (floor_of c) (ceiling_of c) None tt
declared_bound c (Some w) h zero = low_of_low (floor_of c) (ceiling_of c) (Some w.low) (h w refl).0
declared_bound c (Some w) h (suc n) = high_of_high (floor_of c) (ceiling_of c) (Some w.high) (h w refl).1

pub declared_word : (c : Network) (b : ℕ) → IsCircuit c.fixed c.devices → word_of c (b % 2) (declared_reach c b) ≡ stored (b % 2) (bound_on (b % 2) (declared_interval (fixed_at c (b / 2))))
declared_word c b circuit = ap (stored (b % 2)) (declared_bound c (fixed_at c (b / 2)) (declared_in_range c circuit (b / 2)) (b % 2))
