-- One slot of a device: what a visit finds, and that a widening makes all bounds together reach further, though never further than all of them can.
use Rattle.std.proofs.Common.{◌≡◌, ℕ, zero, suc, ◌+◌, ◌*◌, ◌%◌, ◌/◌, ◌<◌, ◌≤◌, Some, List, [], ◌∷◌, length, get_or, sum, inl, inr, arith, sym, ap, ◌∙◌, subst}
use Rattle.std.proofs.lemmas.Bool.{cases_order}
use Rattle.std.proofs.lemmas.List.{get_or_read}
use Rattle.std.proofs.lemmas.List.Sums.{sum_by-cons, sum_by-set}
use Rattle.std.proofs.Math.Nat.{suc-mul}
use Rattle.std.specs.Prelude.{false, Option, ℤ, slice_index, slice_set}
use Rattle.cvc_base.specs.declared.ids.NetId.{NetId}
use Rattle.cvc_law.specs.declared.interval.Interval.{Interval}
use Rattle.cvc_law.specs.declared.interval.Reads.{Reads}
use Rattle.cvc_law.specs.declared.device.Device.{Device}
use Rattle.cvc_law.specs.Network.{Network, is_declared}
use Rattle.cvc_law.specs.Conduction.{given, target}
use Rattle.cvc_law.specs.Family.{unknown, interval_at, IsInRange, IsFamily}
use Rattle.cvc_law.specs.Least.{reads_of, Covers, IsSlotClosed}
use Rattle.cvc_law.specs.Reach.{reach_of, reach_on, target_place, width, widest}
use Rattle.cvc_law.specs.ReachLeast.{reaches}
use Rattle.cvc_law.proofs.ReachConduct.{given_in_range, covers_reached}
use Rattle.cvc_law.proofs.ReachFamilies.{family_reaches, length_reaches, reach_at, reaches-set_low, reaches-set_high}
use Rattle.cvc_serial.specs.declared.pending.Pending.{Pending}
use Rattle.cvc_serial.specs.declared.widen.Widening.{Widening}
use Rattle.cvc_serial.specs.Widening.{with_bound, IsWidening}

-- ---- how far the bounds reach
sum_grows : (f : List ℕ) (t y : ℕ) → t < length f → slice_index f t < y → sum f < sum (slice_set f t y)
sum_grows f t y inside wider = let set : sum (slice_set f t y) + slice_index f t ≡ sum f + y = sum_by-set (λ (n : ℕ). n) f t y 0 inside in omega arith

sum_at_most : (f : List ℕ) (w : ℕ) → ((b : ℕ) → slice_index f b ≤ w) → sum f ≤ length f * w
sum_at_most [] w h = omega arith
sum_at_most (x ∷ f) w h = let first : x ≤ w = h 0 in let rest : sum f ≤ length f * w = sum_at_most f w (λ b. h (suc b)) in
    let both : sum (x ∷ f) ≡ x + sum f = sum_by-cons (λ (n : ℕ). n) x f in let more : suc (length f) * w ≡ length f * w + w = suc-mul (length f) w in omega arith

pub reach_at_most : (c : Network) (f : List Interval) → IsFamily c f → sum (reaches c f) ≤ width c * widest c
reach_at_most c f family = let reached = family_reaches c f family in
    subst (λ (n : ℕ). sum (reaches c f) ≤ n * widest c) reached.every_bound (sum_at_most (reaches c f) (widest c) reached.in_range)

-- ---- one bound of an interval changed
reaches_set : (c : Network) (f : List Interval) (n k : ℕ) (v : ℤ) → k < 4 → n < length f → reaches c (slice_set f n (with_bound (interval_at f n) k v)) ≡ slice_set (reaches c f) (2 * n + k % 2) (reach_of c (k % 2) (Some v))
reaches_set c f n zero v lt inside = let place : 2 * n + 0 ≡ 2 * n = omega arith in rw place (reaches-set_low c f n (Some v) inside)
reaches_set c f n (suc zero) v lt inside = reaches-set_high c f n (Some v) inside
reaches_set c f n (suc (suc zero)) v lt inside = let place : 2 * n + 0 ≡ 2 * n = omega arith in rw place (reaches-set_low c f n (Some v) inside)
reaches_set c f n (suc (suc (suc zero))) v lt inside = reaches-set_high c f n (Some v) inside
reaches_set c f n (suc (suc (suc (suc k)))) v lt inside = absurd (omega arith)

target_at : (c : Network) (f : List Interval) (d : Device) (k : ℕ) → slice_index (reaches c f) (target_place d k) ≡ reach_on c (k % 2) (interval_at f (target d k))
target_at c f d k = let side : target_place d k % 2 ≡ k % 2 = omega arith in let net : target_place d k / 2 ≡ target d k = omega arith in
    reach_at c f (target_place d k) ∙ (ap (λ (s : ℕ). reach_on c s (interval_at f (target_place d k / 2))) side ∙ ap (λ (n : ℕ). reach_on c (k % 2) (interval_at f n)) net)

-- ---- a widening
-- the bounds with the interval of a widening
abbrev pub widened_by : List Interval → Widening → List Interval
widened_by f w = slice_set f w.bound.net.0 w.interval

pub reaches_further : (c : Network) (f : List Interval) (d : Device) (k : ℕ) (w : Widening) → k < 4 → target d k < length f → IsWidening c f d k w → sum (reaches c f) < sum (reaches c (widened_by f w))
reaches_further c f d k w lt inside h =
    let place : ℕ = target_place d k in
    let range : IsInRange c w.value = given_in_range c d k (reads_of f d) w.value h.is_given in
    let there : slice_index (reaches c f) place ≡ reach_on c (k % 2) (interval_at f (target d k)) = target_at c f d k in
    let is : widened_by f w ≡ slice_set f (target d k) (with_bound (interval_at f (target d k)) k w.value) = ap (λ (n : ℕ). slice_set f n w.interval) h.net ∙ ap (slice_set f (target d k)) h.interval in
    let set : reaches c (widened_by f w) ≡ slice_set (reaches c f) place (reach_of c (k % 2) (Some w.value)) = ap (reaches c) is ∙ reaches_set c f (target d k) k w.value lt inside in
    let wider : slice_index (reaches c f) place < reach_of c (k % 2) (Some w.value) = elim (cases_order (slice_index (reaches c f) place) (reach_of c (k % 2) (Some w.value))) [
      | inl same ↦ absurd (h.not_covered (covers_reached c (interval_at f (target d k)) k w.value lt range (omega arith)))
      | inr (inl less) ↦ less
      | inr (inr more) ↦ absurd (h.not_covered (covers_reached c (interval_at f (target d k)) k w.value lt range (omega arith)))
    ] in
    subst (λ (r : List ℕ). sum (reaches c f) < sum r) (sym set) (sum_grows (reaches c f) place (reach_of c (k % 2) (Some w.value)) (omega (arith, length_reaches c f)) wider)

-- ---- what one visit of a slot found
found_interval : (f : List Interval) (d : Device) (k net : ℕ) (i : Interval) → net ≡ target d k → net < length f → i ≡ get_or f net i → i ≡ interval_at f (target d k)
found_interval f d k net i at inside there = get_or_read f net i inside there unknown ∙ ap (interval_at f) at

gave_on_family : (c : Network) (f : List Interval) (d : Device) (k : ℕ) (v : ℤ) (r : Reads) (x : Option ℤ) → r ≡ reads_of f d → x ≡ given c d k r → x ≡ Some v → given c d k (reads_of f d) ≡ Some v
gave_on_family c f d k v r x reads gave is = sym (ap (given c d k) reads) ∙ (sym gave ∙ is)

pub slot_covered : (c : Network) (f : List Interval) (d : Device) (k net : ℕ) (v : ℤ) (i : Interval) (r : Reads) (x : Option ℤ)
    → net ≡ target d k → net < length f → i ≡ get_or f net i → r ≡ reads_of f d → x ≡ given c d k r → x ≡ Some v → Covers i k v → IsSlotClosed c f d k (reads_of f d)
slot_covered c f d k net v i r x at inside there reads gave is covers = λ w free gives.
    let both : Some v ≡ Some w = sym (gave_on_family c f d k v r x reads gave is) ∙ gives in
    let same : v ≡ w = cc in
    subst (λ (z : ℤ). Covers (interval_at f (target d k)) k z) same (subst (λ (j : Interval). Covers j k v) (found_interval f d k net i at inside there) covers)

pub slot_widens : (c : Network) (f : List Interval) (d : Device) (k : ℕ) (net : NetId) (b : Pending) → b.net ≡ net → (v : ℤ) (i wide : Interval) (r : Reads) (x : Option ℤ)
    → net.0 ≡ target d k → net.0 < length f → i ≡ get_or f net.0 i → r ≡ reads_of f d → x ≡ given c d k r → x ≡ Some v → is_declared c net.0 ≡ false → (wide ≡ with_bound i k v) × (Covers i k v → ⊥) → IsWidening c f d k record { bound = b; value = v; interval = wide }
slot_widens c f d k net b of v i wide r x at inside there reads gave is free more =
    let found : i ≡ interval_at f (target d k) = found_interval f d k net.0 i at inside there in
    record {
      net = ap (λ (n : NetId). n.0) of ∙ at;
      free = ap (is_declared c) (sym at) ∙ free;
      is_given = gave_on_family c f d k v r x reads gave is;
      not_covered = λ covers. more.1 (subst (λ (j : Interval). Covers j k v) (sym found) covers);
      interval = more.0 ∙ ap (λ (j : Interval). with_bound j k v) found;
    }
