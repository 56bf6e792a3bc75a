-- The words of bounds, by their reaches. The floor and the ceiling are variables, which lie within a million.
use Rattle.std.proofs.Common.{◌≡◌, ◌≢◌, ℕ, zero, suc, ◌+◌, ◌<◌, ◌≤◌, min, max, Bool, true, false, cond, Option, Some, None, inl, inr, arith, refl, ap, ◌∙◌}
use Rattle.std.proofs.lemmas.Int.{ints}
use Rattle.std.proofs.lemmas.Bool.{cases_lt, eqb-true}
use Rattle.std.specs.Prelude.{ℤ, pos, neg_ℤ, ◌+ℤ◌, ◌-ℤ◌, ◌≤ℤ◌, ◌==◌, IfSome}
use Rattle.cvc_law.specs.Network.{Network, floor_of, ceiling_of}
use Rattle.cvc_law.specs.Reach.{natural, span, low_reach, low_of, high_of, reach_of, widest, bound_of}
use Rattle.cvc_law.specs.ReachWord.{unknown_word, stored, word_of, bound_in, reach_in, IsInMillion}
use Rattle.cvc_law.proofs.ReachSpans.{natural_is, span_is}
use Rattle.cvc_law.proofs.ReachValues.{low_of_reach, high_of_reach}

-- a known low's word is what is left above its reach
low_word : (fl ce : ℤ) (x : ℕ) → neg_ℤ (pos 1000000) ≤ℤ fl → x ≤ span fl ce → 0 < x → stored 0 (low_of (Some ce) x) + x ≡ natural (ce +ℤ pos 1000002)
low_word fl ce zero f h lt = absurd (omega arith)
low_word fl ce (suc x) f h lt = omega (arith, ints, span_is fl ce, natural_is (ce -ℤ pos x +ℤ pos 1000001), natural_is (ce +ℤ pos 1000002))

high_word : (fl : ℤ) (x : ℕ) → neg_ℤ (pos 1000000) ≤ℤ fl → 0 < x → stored 1 (high_of (Some fl) x) ≡ natural (fl +ℤ pos 1000000) + x
high_word fl zero f lt = absurd (omega arith)
high_word fl (suc x) f lt = omega (arith, ints, natural_is (fl +ℤ pos x +ℤ pos 1000001), natural_is (fl +ℤ pos 1000000))

known : (side : ℕ) (v : ℤ) → neg_ℤ (pos 1000000) ≤ℤ v → natural (v +ℤ pos 1000001) ≢ unknown_word side → bound_in side (natural (v +ℤ pos 1000001)) ≡ Some v
known side v low apart = other (natural (v +ℤ pos 1000001) == unknown_word side) refl where
  same : pos (natural (v +ℤ pos 1000001)) -ℤ pos 1000001 ≡ v
  same = omega (arith, ints, natural_is (v +ℤ pos 1000001))

  other : (b : Bool) → natural (v +ℤ pos 1000001) == unknown_word side ≡ b → cond b None (Some (pos (natural (v +ℤ pos 1000001)) -ℤ pos 1000001)) ≡ Some v
  other true e = absurd (apart (eqb-true (natural (v +ℤ pos 1000001)) (unknown_word side) e))
  other false e = ap (λ (z : ℤ). Some z) same

-- words that fall as reaches rise
module _ (W : ℕ → ℕ) (room top : ℕ) (each : (x : ℕ) → 0 < x → x ≤ room → W x + x ≡ top) (highest : top ≤ W 0) where
  falls : (x y : ℕ) → x ≤ y → y ≤ room → W y ≤ W x
  falls zero zero le h = omega arith
  falls zero (suc y) le h = let at : W (suc y) + suc y ≡ top = each (suc y) (omega arith) h in omega arith
  falls (suc x) y le h = let at : W (suc x) + suc x ≡ top = each (suc x) (omega arith) (omega arith) in let last : W y + y ≡ top = each y (omega arith) h in omega arith

  least_word : (x y : ℕ) → x ≤ room → y ≤ room → min (W x) (W y) ≡ W (max x y)
  least_word x y h g = elim (cases_lt x y) [
    | inl less ↦ let same : W (max x y) ≡ W y = ap W (omega arith) in let below : W y ≤ W x = falls x y (omega arith) g in omega arith
    | inr more ↦ let same : W (max x y) ≡ W x = ap W (omega arith) in let below : W x ≤ W y = falls y x more h in omega arith
  ]

-- words that rise with reaches
module _ (W : ℕ → ℕ) (room base : ℕ) (each : (x : ℕ) → 0 < x → x ≤ room → W x ≡ base + x) (lowest : W 0 ≡ 0) where
  rises : (x y : ℕ) → x ≤ y → y ≤ room → W x ≤ W y
  rises zero y le h = omega arith
  rises (suc x) y le h = let at : W (suc x) ≡ base + suc x = each (suc x) (omega arith) (omega arith) in let last : W y ≡ base + y = each y (omega arith) h in omega arith

  greatest_word : (x y : ℕ) → x ≤ room → y ≤ room → max (W x) (W y) ≡ W (max x y)
  greatest_word x y h g = elim (cases_lt x y) [
    | inl less ↦ let same : W (max x y) ≡ W y = ap W (omega arith) in let below : W x ≤ W y = rises x y (omega arith) g in omega arith
    | inr more ↦ let same : W (max x y) ≡ W x = ap W (omega arith) in let below : W y ≤ W x = rises y x more h in omega arith
  ]

low_words : (fl ce : Option ℤ) → IfSome fl (λ v. neg_ℤ (pos 1000000) ≤ℤ v) → IfSome ce (λ v. v ≤ℤ pos 1000000) → (x y : ℕ) → x ≤ low_reach ce fl → y ≤ low_reach ce fl → min (stored 0 (low_of ce x)) (stored 0 (low_of ce y)) ≡ stored 0 (low_of ce (max x y))
low_words fl None f c x y h g = refl
low_words None (Some ce) f c x y h g = least_word (λ z. stored 0 (low_of (Some ce) z)) 0 0 (λ z more less. absurd (omega arith)) (omega arith) x y h g
low_words (Some fl) (Some ce) f c x y h g = least_word (λ z. stored 0 (low_of (Some ce) z)) (span fl ce) (natural (ce +ℤ pos 1000002)) (λ z more less. low_word fl ce z f less more) (omega (arith, ints, natural_is (ce +ℤ pos 1000002))) x y h g

high_words : (fl ce : Option ℤ) → IfSome fl (λ v. neg_ℤ (pos 1000000) ≤ℤ v) → (x y : ℕ) → x ≤ low_reach ce fl → y ≤ low_reach ce fl → max (stored 1 (high_of fl x)) (stored 1 (high_of fl y)) ≡ stored 1 (high_of fl (max x y))
high_words None ce f x y h g = refl
high_words (Some fl) None f x y h g = greatest_word (λ z. stored 1 (high_of (Some fl) z)) 0 0 (λ z more less. absurd (omega arith)) refl x y h g
high_words (Some fl) (Some ce) f x y h g = greatest_word (λ z. stored 1 (high_of (Some fl) z)) (span fl ce) (natural (fl +ℤ pos 1000000)) (λ z more less. high_word fl z f more) refl x y h g

-- ---- a word gives its bound back
low_bound_in : (fl ce : Option ℤ) → IfSome fl (λ v. neg_ℤ (pos 1000000) ≤ℤ v) → IfSome ce (λ v. v ≤ℤ pos 1000000) → (x : ℕ) → x ≤ low_reach ce fl → bound_in 0 (stored 0 (low_of ce x)) ≡ low_of ce x
low_bound_in fl None f c x h = refl
low_bound_in fl (Some ce) f c zero h = refl
low_bound_in None (Some ce) f c (suc x) h = absurd (omega arith)
low_bound_in (Some fl) (Some ce) f c (suc x) h = known 0 (ce -ℤ pos x) (omega (arith, ints, span_is fl ce)) (omega (arith, ints, natural_is (ce -ℤ pos x +ℤ pos 1000001)))

high_bound_in : (fl ce : Option ℤ) → IfSome fl (λ v. neg_ℤ (pos 1000000) ≤ℤ v) → (x : ℕ) → x ≤ low_reach ce fl → bound_in 1 (stored 1 (high_of fl x)) ≡ high_of fl x
high_bound_in None ce f x h = refl
high_bound_in (Some fl) ce f zero h = refl
high_bound_in (Some fl) None f (suc x) h = absurd (omega arith)
high_bound_in (Some fl) (Some ce) f (suc x) h = known 1 (fl +ℤ pos x) (omega (arith, ints)) (omega (arith, ints, natural_is (fl +ℤ pos x +ℤ pos 1000001)))

module _ (c : Network) (range : IsInMillion c) where
  -- fetch_min on the word of a low
  pub low_word_min : (x y : ℕ) → x ≤ widest c → y ≤ widest c → min (word_of c 0 x) (word_of c 0 y) ≡ word_of c 0 (max x y)
  low_word_min x y h g = low_words (floor_of c) (ceiling_of c) range.floor range.ceiling x y h g

  -- fetch_max on the word of a high
  pub high_word_max : (x y : ℕ) → x ≤ widest c → y ≤ widest c → max (word_of c 1 x) (word_of c 1 y) ≡ word_of c 1 (max x y)
  high_word_max x y h g = high_words (floor_of c) (ceiling_of c) range.floor x y h g

  pub bound_in_word : (side x : ℕ) → side < 2 → x ≤ widest c → bound_in side (word_of c side x) ≡ bound_of c side x
  bound_in_word zero x lt h = low_bound_in (floor_of c) (ceiling_of c) range.floor range.ceiling x h
  bound_in_word (suc zero) x lt h = high_bound_in (floor_of c) (ceiling_of c) range.floor x h
  bound_in_word (suc (suc side)) x lt h = absurd (omega arith)

  pub reach_in_word : (side x : ℕ) → side < 2 → x ≤ widest c → reach_in c side (word_of c side x) ≡ x
  reach_in_word zero x lt h = ap (reach_of c 0) (bound_in_word 0 x lt h) ∙ low_of_reach (floor_of c) (ceiling_of c) x h
  reach_in_word (suc zero) x lt h = ap (reach_of c 1) (bound_in_word 1 x lt h) ∙ high_of_reach (floor_of c) (ceiling_of c) x h
  reach_in_word (suc (suc side)) x lt h = absurd (omega arith)
