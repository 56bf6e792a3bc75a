-- One bound in its two forms: an integer or nothing, and a reach. The floor and the ceiling are variables here.
use Rattle.std.proofs.Common.{◌≡◌, ℕ, zero, suc, ◌-◌, ◌<◌, ◌≤◌, max, Option, Some, None, arith, refl, ap, ◌∙◌}
use Rattle.std.proofs.lemmas.Int.{ints, clamps}
use Rattle.std.specs.Prelude.{ℤ, pos, ◌+ℤ◌, ◌-ℤ◌, ◌≤ℤ◌, IfSome, IsSomeAnd}
use Rattle.std.specs.Int.{int_min, int_max}
use Rattle.cvc_law.specs.Network.{lesser, greater}
use Rattle.cvc_law.specs.Reach.{span, low_reach, high_reach, low_of, high_of}
use Rattle.cvc_law.proofs.ReachSpans.{span_is}

abbrev pub Between : Option ℤ → Option ℤ → ℤ → Type 0
Between fl ce v = IsSomeAnd fl (λ floor. floor ≤ℤ v) × IsSomeAnd ce (λ ceiling. v ≤ℤ ceiling)

pub low_none : (ce : Option ℤ) → low_reach ce None ≡ 0
low_none None = refl
low_none (Some ceiling) = refl

pub high_none : (fl : Option ℤ) → high_reach fl None ≡ 0
high_none None = refl
high_none (Some floor) = refl

-- ---- wider bounds have greater reaches, and the other way round
pub low_wider : (ce a b : Option ℤ) → IfSome a (λ x. IsSomeAnd b (λ y. y ≤ℤ x)) → low_reach ce a ≤ low_reach ce b
low_wider None a b h = omega arith
low_wider (Some c) None b h = omega arith
low_wider (Some c) (Some x) None h = absurd h
low_wider (Some c) (Some x) (Some y) h = omega (arith, ints, span_is x c, span_is y c)

pub high_wider : (fl a b : Option ℤ) → IfSome a (λ x. IsSomeAnd b (λ y. x ≤ℤ y)) → high_reach fl a ≤ high_reach fl b
high_wider None a b h = omega arith
high_wider (Some f) None b h = omega arith
high_wider (Some f) (Some x) None h = absurd h
high_wider (Some f) (Some x) (Some y) h = omega (arith, ints, span_is f x, span_is f y)

pub low_back : (fl ce a b : Option ℤ) → IfSome a (Between fl ce) → low_reach ce a ≤ low_reach ce b → IfSome a (λ x. IsSomeAnd b (λ y. y ≤ℤ x))
low_back fl ce None b h le = h
low_back fl None (Some x) b h le = absurd h.1
low_back fl (Some c) (Some x) None h le = absurd (let own : x ≤ℤ c = h.1 in omega (arith, ints, span_is x c))
low_back fl (Some c) (Some x) (Some y) h le = let own : x ≤ℤ c = h.1 in omega (arith, ints, span_is x c, span_is y c)

pub high_back : (fl ce a b : Option ℤ) → IfSome a (Between fl ce) → high_reach fl a ≤ high_reach fl b → IfSome a (λ x. IsSomeAnd b (λ y. x ≤ℤ y))
high_back fl ce None b h le = h
high_back None ce (Some x) b h le = absurd h.0
high_back (Some f) ce (Some x) None h le = absurd (let own : f ≤ℤ x = h.0 in omega (arith, ints, span_is f x))
high_back (Some f) ce (Some x) (Some y) h le = let own : f ≤ℤ x = h.0 in omega (arith, ints, span_is f x, span_is f y)

-- ---- no bound reaches further than from the floor to the ceiling
pub low_at_most : (fl ce a : Option ℤ) → IfSome a (Between fl ce) → low_reach ce a ≤ low_reach ce fl
low_at_most fl ce None h = omega (arith, low_none ce)
low_at_most None ce (Some x) h = absurd h.0
low_at_most (Some f) None (Some x) h = absurd h.1
low_at_most (Some f) (Some c) (Some x) h = let own : f ≤ℤ x = h.0 in omega (arith, ints, span_is x c, span_is f c)

pub high_at_most : (fl ce a : Option ℤ) → IfSome a (Between fl ce) → high_reach fl a ≤ low_reach ce fl
high_at_most fl ce None h = omega (arith, high_none fl)
high_at_most None ce (Some x) h = absurd h.0
high_at_most (Some f) None (Some x) h = absurd h.1
high_at_most (Some f) (Some c) (Some x) h = let own : x ≤ℤ c = h.1 in omega (arith, ints, span_is f x, span_is f c)

-- ---- there and back
pub low_of_reach : (fl ce : Option ℤ) (x : ℕ) → x ≤ low_reach ce fl → low_reach ce (low_of ce x) ≡ x
low_of_reach fl None zero h = refl
low_of_reach fl (Some c) zero h = refl
low_of_reach fl None (suc x) h = absurd (omega arith)
low_of_reach fl (Some c) (suc x) h = omega (arith, ints, span_is (c -ℤ pos x) c)

pub high_of_reach : (fl ce : Option ℤ) (x : ℕ) → x ≤ low_reach ce fl → high_reach fl (high_of fl x) ≡ x
high_of_reach None ce zero h = refl
high_of_reach (Some f) ce zero h = refl
high_of_reach None ce (suc x) h = absurd (omega (arith, low_none ce))
high_of_reach (Some f) ce (suc x) h = omega (arith, ints, span_is f (f +ℤ pos x))

pub low_of_between : (fl ce : Option ℤ) (x : ℕ) → x ≤ low_reach ce fl → IfSome (low_of ce x) (Between fl ce)
low_of_between fl None zero h = tt
low_of_between fl (Some c) zero h = tt
low_of_between fl None (suc x) h = absurd (omega arith)
low_of_between None (Some c) (suc x) h = absurd (omega arith)
low_of_between (Some f) (Some c) (suc x) h = (omega (arith, ints, span_is f c), omega (arith, ints))

pub high_of_between : (fl ce : Option ℤ) (x : ℕ) → x ≤ low_reach ce fl → IfSome (high_of fl x) (Between fl ce)
high_of_between None ce zero h = tt
high_of_between (Some f) ce zero h = tt
high_of_between None ce (suc x) h = absurd (omega (arith, low_none ce))
high_of_between (Some f) None (suc x) h = absurd (omega arith)
high_of_between (Some f) (Some c) (suc x) h = (omega (arith, ints), omega (arith, ints, span_is f c))

at_suc : (ce : ℤ) (v : ℤ) (n m : ℕ) → n ≡ suc m → ce -ℤ pos m ≡ v → low_of (Some ce) n ≡ Some v
at_suc ce v n m e same = ap (low_of (Some ce)) e ∙ ap (λ (z : ℤ). Some z) same

up_suc : (fl : ℤ) (v : ℤ) (n m : ℕ) → n ≡ suc m → fl +ℤ pos m ≡ v → high_of (Some fl) n ≡ Some v
up_suc fl v n m e same = ap (high_of (Some fl)) e ∙ ap (λ (z : ℤ). Some z) same

pub low_of_low : (fl ce a : Option ℤ) → IfSome a (Between fl ce) → low_of ce (low_reach ce a) ≡ a
low_of_low fl None None h = refl
low_of_low fl (Some c) None h = refl
low_of_low fl None (Some v) h = absurd h.1
low_of_low fl (Some c) (Some v) h = let own : v ≤ℤ c = h.1 in at_suc c v (span v c) (span v c - 1) (omega (arith, ints, span_is v c)) (omega (arith, ints, span_is v c))

pub high_of_high : (fl ce a : Option ℤ) → IfSome a (Between fl ce) → high_of fl (high_reach fl a) ≡ a
high_of_high None ce None h = refl
high_of_high (Some f) ce None h = refl
high_of_high None ce (Some v) h = absurd h.0
high_of_high (Some f) ce (Some v) h = let own : f ≤ℤ v = h.0 in up_suc f v (span f v) (span f v - 1) (omega (arith, ints, span_is f v)) (omega (arith, ints, span_is f v))

-- ---- the wider of two
pub low_max : (ce : Option ℤ) (v : ℤ) (o : Option ℤ) → max (low_reach ce o) (low_reach ce (Some v)) ≡ low_reach ce (lesser v o)
low_max None v o = omega arith
low_max (Some c) v None = omega arith
low_max (Some c) v (Some x) = omega (arith, ints, clamps, span_is v c, span_is x c, span_is (int_min v x) c)

pub high_max : (fl : Option ℤ) (v : ℤ) (o : Option ℤ) → max (high_reach fl o) (high_reach fl (Some v)) ≡ high_reach fl (greater v o)
high_max None v o = omega arith
high_max (Some f) v None = omega arith
high_max (Some f) v (Some x) = omega (arith, ints, clamps, span_is f v, span_is f x, span_is f (int_max v x))

-- ---- a bound is known where its reach isn't 0
pub low_known : (fl ce : Option ℤ) (v : ℤ) → Between fl ce v → 0 < low_reach ce (Some v)
low_known fl None v h = absurd h.1
low_known fl (Some c) v h = let own : v ≤ℤ c = h.1 in omega (arith, ints, span_is v c)

pub high_known : (fl ce : Option ℤ) (v : ℤ) → Between fl ce v → 0 < high_reach fl (Some v)
high_known None ce v h = absurd h.0
high_known (Some f) ce v h = let own : f ≤ℤ v = h.0 in omega (arith, ints, span_is f v)
