-- Each row of the conduction table in its two forms. `o` is the bound at the near end and `g` the gate's.
use Rattle.std.proofs.Common.{◌≡◌, ℕ, suc, ◌+◌, Bool, true, false, cond, Option, Some, None, arith, refl, sym, ap, ◌∙◌}
use Rattle.std.proofs.lemmas.Int.{ints, clamps}
use Rattle.std.specs.Prelude.{ℤ, pos, ◌+ℤ◌, ◌-ℤ◌, ◌≤ℤ◌, int_le, ◌&&◌, IfSome}
use Rattle.std.specs.Int.{int_min, int_max}
use Rattle.cvc_law.specs.Conduction.{of_one, of_two, kept_within}
use Rattle.cvc_law.specs.Reach.{span, low_reach, high_reach, if_on, limited_by}
use Rattle.cvc_law.proofs.ReachSpans.{span_is, if_on_own, if_on_off, if_on_is, moved_in_off, moved_in_is}
use Rattle.cvc_law.proofs.ReachValues.{Between, low_none, high_none}

pub kept_none : (fl ce : Option ℤ) → kept_within fl ce None ≡ None
kept_none None ce = refl
kept_none (Some f) None = refl
kept_none (Some f) (Some c) = refl

pub low_nothing : (fl ce : Option ℤ) → low_reach ce (kept_within fl ce None) ≡ 0
low_nothing fl ce = ap (low_reach ce) (kept_none fl ce) ∙ low_none ce

pub high_nothing : (fl ce : Option ℤ) → high_reach fl (kept_within fl ce None) ≡ 0
high_nothing fl ce = ap (high_reach fl) (kept_none fl ce) ∙ high_none fl

-- a low that isn't below the floor is cut at the ceiling as its reach is
low_cut : (f c z : ℤ) → f ≤ℤ z → (p q : Bool) → int_le f z ≡ p → int_le z c ≡ q → low_reach (Some c) (cond (p && q) (Some z) None) ≡ span z c
low_cut f c z h true true e g = refl
low_cut f c z h true false e g = omega (arith, ints, span_is z c)
low_cut f c z h false q e g = absurd (omega (arith, ints))

low_kept : (f c z : ℤ) → f ≤ℤ z → low_reach (Some c) (kept_within (Some f) (Some c) (Some z)) ≡ span z c
low_kept f c z h = low_cut f c z h (int_le f z) (int_le z c) refl refl

high_cut : (f c z : ℤ) → z ≤ℤ c → (p q : Bool) → int_le f z ≡ p → int_le z c ≡ q → high_reach (Some f) (cond (p && q) (Some z) None) ≡ span f z
high_cut f c z h true true e g = refl
high_cut f c z h true false e g = absurd (omega (arith, ints))
high_cut f c z h false q e g = omega (arith, ints, span_is f z)

high_kept : (f c z : ℤ) → z ≤ℤ c → high_reach (Some f) (kept_within (Some f) (Some c) (Some z)) ≡ span f z
high_kept f c z h = high_cut f c z h (int_le f z) (int_le z c) refl refl

-- ---- a resistor hands on what it has
pub low_same : (fl ce o : Option ℤ) → IfSome o (Between fl ce) → low_reach ce (kept_within fl ce o) ≡ low_reach ce o
low_same fl ce None h = low_nothing fl ce ∙ sym (low_none ce)
low_same None ce (Some x) h = absurd h.0
low_same (Some f) None (Some x) h = absurd h.1
low_same (Some f) (Some c) (Some x) h = low_kept f c x h.0

pub high_same : (fl ce o : Option ℤ) → IfSome o (Between fl ce) → high_reach fl (kept_within fl ce o) ≡ high_reach fl o
high_same fl ce None h = high_nothing fl ce ∙ sym (high_none fl)
high_same None ce (Some x) h = absurd h.0
high_same (Some f) None (Some x) h = absurd h.1
high_same (Some f) (Some c) (Some x) h = high_kept f c x h.1

-- ---- a MOS that hands a bound on where it is on
low_test : (f c t x y : ℤ) → f ≤ℤ x → x ≤ℤ c → f ≤ℤ y → (p q : Bool) → int_le (x +ℤ t) y ≡ p → int_le (pos (suc (span f c)) +ℤ t) (pos (span x c + span f y)) ≡ q → low_reach (Some c) (kept_within (Some f) (Some c) (cond p (Some x) None)) ≡ cond q (span x c) 0
low_test f c t x y a b h true true e g = low_kept f c x a
low_test f c t x y a b h false false e g = refl
low_test f c t x y a b h true false e g = absurd (omega (arith, ints, span_is f c, span_is x c, span_is f y))
low_test f c t x y a b h false true e g = absurd (omega (arith, ints, span_is f c, span_is x c, span_is f y))

pub low_if_on : (fl ce : Option ℤ) (t : ℤ) (o g : Option ℤ) → IfSome o (Between fl ce) → IfSome g (Between fl ce)
    → low_reach ce (kept_within fl ce (of_two o g (λ low high. cond (int_le (low +ℤ t) high) (Some low) None))) ≡ if_on (low_reach ce fl) t (low_reach ce o) (high_reach fl g)
low_if_on fl ce t None g h k = low_nothing fl ce ∙ omega (arith, if_on_own (low_reach ce fl) t (low_reach ce None) (high_reach fl g), low_none ce)
low_if_on fl ce t (Some x) None h k = low_nothing fl ce ∙ sym (if_on_off (low_reach ce fl) t (low_reach ce (Some x)) (high_reach fl None) (high_none fl))
low_if_on None ce t (Some x) (Some y) h k = absurd h.0
low_if_on (Some f) None t (Some x) (Some y) h k = absurd h.1
low_if_on (Some f) (Some c) t (Some x) (Some y) h k = let above : f ≤ℤ y = k.0 in
    low_test f c t x y h.0 h.1 k.0 (int_le (x +ℤ t) y) (int_le (pos (suc (span f c)) +ℤ t) (pos (span x c + span f y))) refl refl ∙ sym (if_on_is (span f c) t (span x c) (span f y) (omega (arith, ints, span_is f y)))

high_test : (f c t x y : ℤ) → f ≤ℤ x → x ≤ℤ c → y ≤ℤ c → (p q : Bool) → int_le (y +ℤ t) x ≡ p → int_le (pos (suc (span f c)) +ℤ t) (pos (span f x + span y c)) ≡ q → high_reach (Some f) (kept_within (Some f) (Some c) (cond p (Some x) None)) ≡ cond q (span f x) 0
high_test f c t x y a b h true true e g = high_kept f c x b
high_test f c t x y a b h false false e g = refl
high_test f c t x y a b h true false e g = absurd (omega (arith, ints, span_is f c, span_is f x, span_is y c))
high_test f c t x y a b h false true e g = absurd (omega (arith, ints, span_is f c, span_is f x, span_is y c))

pub high_if_on : (fl ce : Option ℤ) (t : ℤ) (o g : Option ℤ) → IfSome o (Between fl ce) → IfSome g (Between fl ce)
    → high_reach fl (kept_within fl ce (of_two o g (λ high low. cond (int_le (low +ℤ t) high) (Some high) None))) ≡ if_on (low_reach ce fl) t (high_reach fl o) (low_reach ce g)
high_if_on fl ce t None g h k = high_nothing fl ce ∙ omega (arith, if_on_own (low_reach ce fl) t (high_reach fl None) (low_reach ce g), high_none fl)
high_if_on fl ce t (Some x) None h k = high_nothing fl ce ∙ sym (if_on_off (low_reach ce fl) t (high_reach fl (Some x)) (low_reach ce None) (low_none ce))
high_if_on None ce t (Some x) (Some y) h k = absurd h.0
high_if_on (Some f) None t (Some x) (Some y) h k = absurd h.1
high_if_on (Some f) (Some c) t (Some x) (Some y) h k = let below : y ≤ℤ c = k.1 in
    high_test f c t x y h.0 h.1 k.1 (int_le (y +ℤ t) x) (int_le (pos (suc (span f c)) +ℤ t) (pos (span f x + span y c))) refl refl ∙ sym (if_on_is (span f c) t (span f x) (span y c) (omega (arith, ints, span_is y c)))

-- ---- a MOS that hands a bound on up to its gate
gate_off : (t : ℤ) (own gate : ℕ) → gate ≡ 0 → limited_by t own gate ≡ 0
gate_off t own gate e = omega (arith, moved_in_off t gate e)

pub high_up_to : (fl ce : Option ℤ) (t : ℤ) (o g : Option ℤ) → IfSome o (Between fl ce) → IfSome g (Between fl ce)
    → high_reach fl (kept_within fl ce (of_two o g (λ high gate. Some (int_min high (gate -ℤ t))))) ≡ limited_by t (high_reach fl o) (high_reach fl g)
high_up_to fl ce t None g h k = high_nothing fl ce ∙ omega (arith, high_none fl)
high_up_to fl ce t (Some x) None h k = high_nothing fl ce ∙ sym (gate_off t (high_reach fl (Some x)) (high_reach fl None) (high_none fl))
high_up_to None ce t (Some x) (Some y) h k = absurd h.0
high_up_to (Some f) None t (Some x) (Some y) h k = absurd h.1
high_up_to (Some f) (Some c) t (Some x) (Some y) h k = let above : f ≤ℤ y = k.0 in let below : x ≤ℤ c = h.1 in let own : f ≤ℤ x = h.0 in
    high_kept f c (int_min x (y -ℤ t)) (omega (arith, ints, clamps)) ∙ omega (arith, ints, clamps, span_is f (int_min x (y -ℤ t)), span_is f x, span_is f y, moved_in_is t (span f y) (omega (arith, ints, span_is f y)))

pub low_up_to : (fl ce : Option ℤ) (t : ℤ) (o g : Option ℤ) → IfSome o (Between fl ce) → IfSome g (Between fl ce)
    → low_reach ce (kept_within fl ce (of_two o g (λ low gate. Some (int_max low (gate +ℤ t))))) ≡ limited_by t (low_reach ce o) (low_reach ce g)
low_up_to fl ce t None g h k = low_nothing fl ce ∙ omega (arith, low_none ce)
low_up_to fl ce t (Some x) None h k = low_nothing fl ce ∙ sym (gate_off t (low_reach ce (Some x)) (low_reach ce None) (low_none ce))
low_up_to None ce t (Some x) (Some y) h k = absurd h.0
low_up_to (Some f) None t (Some x) (Some y) h k = absurd h.1
low_up_to (Some f) (Some c) t (Some x) (Some y) h k = let above : f ≤ℤ x = h.0 in let below : y ≤ℤ c = k.1 in let own : x ≤ℤ c = h.1 in
    low_kept f c (int_max x (y +ℤ t)) (omega (arith, ints, clamps)) ∙ omega (arith, ints, clamps, span_is (int_max x (y +ℤ t)) c, span_is x c, span_is y c, moved_in_is t (span y c) (omega (arith, ints, span_is y c)))

-- ---- a diode
pub high_drop : (fl ce : Option ℤ) (v : ℤ) (o : Option ℤ) → pos 0 ≤ℤ v → IfSome o (Between fl ce) → high_reach fl (kept_within fl ce (of_one o (λ x. x -ℤ v))) ≡ limited_by v (high_reach fl o) (high_reach fl o)
high_drop fl ce v None d h = high_nothing fl ce ∙ omega (arith, high_none fl)
high_drop None ce v (Some x) d h = absurd h.0
high_drop (Some f) None v (Some x) d h = absurd h.1
high_drop (Some f) (Some c) v (Some x) d h = let above : f ≤ℤ x = h.0 in let below : x ≤ℤ c = h.1 in
    high_kept f c (x -ℤ v) (omega (arith, ints)) ∙ omega (arith, ints, span_is f (x -ℤ v), span_is f x, moved_in_is v (span f x) (omega (arith, ints, span_is f x)))

pub low_drop : (fl ce : Option ℤ) (v : ℤ) (o : Option ℤ) → pos 0 ≤ℤ v → IfSome o (Between fl ce) → low_reach ce (kept_within fl ce (of_one o (λ x. x +ℤ v))) ≡ limited_by v (low_reach ce o) (low_reach ce o)
low_drop fl ce v None d h = low_nothing fl ce ∙ omega (arith, low_none ce)
low_drop None ce v (Some x) d h = absurd h.0
low_drop (Some f) None v (Some x) d h = absurd h.1
low_drop (Some f) (Some c) v (Some x) d h = let above : f ≤ℤ x = h.0 in let below : x ≤ℤ c = h.1 in
    low_kept f c (x +ℤ v) (omega (arith, ints)) ∙ omega (arith, ints, span_is (x +ℤ v) c, span_is x c, moved_in_is v (span x c) (omega (arith, ints, span_is x c)))
