-- What is kept of a bound within a range, and intervals as wide as others.
use Rattle.std.proofs.Common.{◌≡◌, Bool, true, false, cond, Option, Some, None, arith, refl, ap, subst}
use Rattle.std.proofs.lemmas.Int.{ints}
use Rattle.std.specs.Prelude.{◌&&◌, ℤ, ◌≤ℤ◌, int_le, IfSome, IsSomeAnd}
use Rattle.cvc_law.specs.declared.interval.Interval.{Interval}
use Rattle.cvc_law.specs.Conduction.{kept_within}
use Rattle.cvc_law.specs.Monotone.{IsAsWide}

-- ---- what is kept of a value
kept_by : (f h x v : ℤ) (p q : Bool) → int_le f x ≡ p → int_le x h ≡ q → cond (p && q) (Some x) None ≡ Some v → (x ≡ v) × (f ≤ℤ v) × (v ≤ℤ h)
kept_by f h x v true true e g is = let same : x ≡ v = cc in (same, omega (arith, ints), omega (arith, ints))
kept_by f h x v true false e g is = cc
kept_by f h x v false q e g is = cc

-- what is kept is the value, and lies in the range
pub kept_is : (fl ce o : Option ℤ) (v : ℤ) → kept_within fl ce o ≡ Some v → (o ≡ Some v) × IsSomeAnd fl (λ f. f ≤ℤ v) × IsSomeAnd ce (λ h. v ≤ℤ h)
kept_is None ce o v is = cc
kept_is (Some f) None o v is = cc
kept_is (Some f) (Some h) None v is = cc
kept_is (Some f) (Some h) (Some x) v is = let k = kept_by f h x v (int_le f x) (int_le x h) refl refl is in (ap (λ (z : ℤ). Some z) k.0, k.1, k.2)

keeps_by : (f h x : ℤ) (p q : Bool) → int_le f x ≡ p → int_le x h ≡ q → f ≤ℤ x → x ≤ℤ h → cond (p && q) (Some x) None ≡ Some x
keeps_by f h x true true e g a b = refl
keeps_by f h x true false e g a b = absurd (omega (arith, ints))
keeps_by f h x false q e g a b = absurd (omega (arith, ints))

-- a value in the range is kept
pub keeps : (fl ce : Option ℤ) (v : ℤ) → IsSomeAnd fl (λ f. f ≤ℤ v) → IsSomeAnd ce (λ h. v ≤ℤ h) → kept_within fl ce (Some v) ≡ Some v
keeps None ce v a b = absurd a
keeps (Some f) None v a b = absurd b
keeps (Some f) (Some h) v a b = keeps_by f h v (int_le f v) (int_le v h) refl refl a b

pub kept_in_range : (fl ce o : Option ℤ) → IfSome (kept_within fl ce o) (λ v. IsSomeAnd fl (λ f. f ≤ℤ v) × IsSomeAnd ce (λ h. v ≤ℤ h))
kept_in_range fl ce o = by (kept_within fl ce o) refl where
  by : (k : Option ℤ) → kept_within fl ce o ≡ k → IfSome k (λ v. IsSomeAnd fl (λ f. f ≤ℤ v) × IsSomeAnd ce (λ h. v ≤ℤ h))
  by None is = tt
  by (Some v) is = let k = kept_is fl ce o v is in (k.1, k.2)

-- ---- what is kept of a bound is no wider
pub kept_low : (fl ce o b : Option ℤ) → IfSome o (λ x. IsSomeAnd b (λ y. y ≤ℤ x)) → IfSome (kept_within fl ce o) (λ x. IsSomeAnd b (λ y. y ≤ℤ x))
kept_low fl ce o b h = by (kept_within fl ce o) refl where
  at : (p : Option ℤ) (v : ℤ) → p ≡ Some v → IfSome p (λ x. IsSomeAnd b (λ y. y ≤ℤ x)) → IsSomeAnd b (λ y. y ≤ℤ v)
  at None v is k = cc
  at (Some x) v is k = let same : x ≡ v = cc in subst (λ (z : ℤ). IsSomeAnd b (λ y. y ≤ℤ z)) same k

  by : (k : Option ℤ) → kept_within fl ce o ≡ k → IfSome k (λ x. IsSomeAnd b (λ y. y ≤ℤ x))
  by None is = tt
  by (Some v) is = at o v (kept_is fl ce o v is).0 h

pub kept_high : (fl ce o b : Option ℤ) → IfSome o (λ x. IsSomeAnd b (λ y. x ≤ℤ y)) → IfSome (kept_within fl ce o) (λ x. IsSomeAnd b (λ y. x ≤ℤ y))
kept_high fl ce o b h = by (kept_within fl ce o) refl where
  at : (p : Option ℤ) (v : ℤ) → p ≡ Some v → IfSome p (λ x. IsSomeAnd b (λ y. x ≤ℤ y)) → IsSomeAnd b (λ y. v ≤ℤ y)
  at None v is k = cc
  at (Some x) v is k = let same : x ≡ v = cc in subst (λ (z : ℤ). IsSomeAnd b (λ y. z ≤ℤ y)) same k

  by : (k : Option ℤ) → kept_within fl ce o ≡ k → IfSome k (λ x. IsSomeAnd b (λ y. x ≤ℤ y))
  by None is = tt
  by (Some v) is = at o v (kept_is fl ce o v is).0 h

-- ---- intervals
pub through : (i j k : Interval) → IsAsWide i j → IsAsWide j k → IsAsWide i k
through i j k p q = (lows i.low j.low k.low p.0 q.0, highs i.high j.high k.high p.1 q.1) where
  lows : (a b c : Option ℤ) → IfSome a (λ x. IsSomeAnd b (λ y. y ≤ℤ x)) → IfSome b (λ x. IsSomeAnd c (λ y. y ≤ℤ x)) → IfSome a (λ x. IsSomeAnd c (λ y. y ≤ℤ x))
  lows None b c p q = tt
  lows (Some x) None c p q = absurd p
  lows (Some x) (Some y) None p q = absurd q
  lows (Some x) (Some y) (Some z) p q = omega (arith, ints)

  highs : (a b c : Option ℤ) → IfSome a (λ x. IsSomeAnd b (λ y. x ≤ℤ y)) → IfSome b (λ x. IsSomeAnd c (λ y. x ≤ℤ y)) → IfSome a (λ x. IsSomeAnd c (λ y. x ≤ℤ y))
  highs None b c p q = tt
  highs (Some x) None c p q = absurd p
  highs (Some x) (Some y) None p q = absurd q
  highs (Some x) (Some y) (Some z) p q = omega (arith, ints)
