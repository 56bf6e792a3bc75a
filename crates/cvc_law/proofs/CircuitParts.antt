-- What a circuit keeps: the lowest and the highest declared voltage as nets are added, and that a fan's devices are devices.
use Rattle.std.proofs.Common.{◌≡◌, ◌<◌, ◌+◌, ℕ, ℤ, List, [], ◌∷◌, ◌++◌, length, get_or, take, map, Option, Some, None, if◌then◌else◌, Bool, true, false, zero, suc, refl, sym, ap, ◌∙◌, arith}
use Rattle.std.specs.Int.{int_min, int_max}
use Rattle.std.proofs.lemmas.Int.{ints, clamps}
use Rattle.std.proofs.lemmas.List.{take_more, get_or-map, length-map}
use Rattle.cvc_base.specs.declared.ids.DevId.{DevId}
use Rattle.cvc_law.specs.declared.interval.Fixed.{Fixed}
use Rattle.cvc_law.specs.declared.device.Device.{Device}
use Rattle.cvc_law.specs.Network.{lesser, greater, least_low, greatest_high, touches, touching_from}

min_swap : (x y z : ℤ) → int_min x (int_min y z) ≡ int_min y (int_min x z)
min_swap x y z = omega (arith, ints, clamps)

max_swap : (x y z : ℤ) → int_max x (int_max y z) ≡ int_max y (int_max x z)
max_swap x y z = omega (arith, ints, clamps)

min_sides : (x y : ℤ) → int_min x y ≡ int_min y x
min_sides x y = omega (arith, ints, clamps)

max_sides : (x y : ℤ) → int_max x y ≡ int_max y x
max_sides x y = omega (arith, ints, clamps)

lesser_swap : (x y : ℤ) (m : Option ℤ) → lesser x (lesser y m) ≡ lesser y (lesser x m)
lesser_swap x y None = ap (λ v. Some v) (min_sides x y)
lesser_swap x y (Some z) = ap (λ v. Some v) (min_swap x y z)

greater_swap : (x y : ℤ) (m : Option ℤ) → greater x (greater y m) ≡ greater y (greater x m)
greater_swap x y None = ap (λ v. Some v) (max_sides x y)
greater_swap x y (Some z) = ap (λ v. Some v) (max_swap x y z)

-- the lowest so far and one more net
abbrev pub with_low : Option Fixed → Option ℤ → Option ℤ
with_low None m = m
with_low (Some w) m = lesser w.low m

abbrev pub with_high : Option Fixed → Option ℤ → Option ℤ
with_high None m = m
with_high (Some w) m = greater w.high m

least_low-push : (fs : List (Option Fixed)) (o : Option Fixed) → least_low (fs ++ o ∷ []) ≡ with_low o (least_low fs)
least_low-push [] None = refl
least_low-push [] (Some w) = refl
least_low-push (None ∷ fs) o = least_low-push fs o
least_low-push (Some w ∷ fs) None = ap (lesser w.low) (least_low-push fs None)
least_low-push (Some w ∷ fs) (Some v) = ap (lesser w.low) (least_low-push fs (Some v)) ∙ lesser_swap w.low v.low (least_low fs)

greatest_high-push : (fs : List (Option Fixed)) (o : Option Fixed) → greatest_high (fs ++ o ∷ []) ≡ with_high o (greatest_high fs)
greatest_high-push [] None = refl
greatest_high-push [] (Some w) = refl
greatest_high-push (None ∷ fs) o = greatest_high-push fs o
greatest_high-push (Some w ∷ fs) None = ap (greater w.high) (greatest_high-push fs None)
greatest_high-push (Some w ∷ fs) (Some v) = ap (greater w.high) (greatest_high-push fs (Some v)) ∙ greater_swap w.high v.high (greatest_high fs)

pub low_more : (fs : List (Option Fixed)) (i : ℕ) (o : Option Fixed) → i < length fs → o ≡ get_or fs i o → with_low o (least_low (take i fs)) ≡ least_low (take (i + 1) fs)
low_more fs i o lt is =
    sym (least_low-push (take i fs) o) ∙ ap (λ (x : Option Fixed). least_low (take i fs ++ x ∷ [])) is ∙ ap least_low (sym (take_more fs i o lt))

pub high_more : (fs : List (Option Fixed)) (i : ℕ) (o : Option Fixed) → i < length fs → o ≡ get_or fs i o → with_high o (greatest_high (take i fs)) ≡ greatest_high (take (i + 1) fs)
high_more fs i o lt is =
    sym (greatest_high-push (take i fs) o) ∙ ap (λ (x : Option Fixed). greatest_high (take i fs ++ x ∷ [])) is ∙ ap greatest_high (sym (take_more fs i o lt))

below_if : (b : Bool) (i bound : ℕ) (rest : List ℕ) → i < bound → ((j : ℕ) → j < length rest → get_or rest j 0 < bound) → (j : ℕ) → j < length (if b then i ∷ rest else rest) → get_or (if b then i ∷ rest else rest) j 0 < bound
below_if true i bound rest here below zero lt = here
below_if true i bound rest here below (suc j) lt = below j (omega arith)
below_if false i bound rest here below j lt = below j lt

touching_below : (n i : ℕ) (ds : List Device) (j : ℕ) → j < length (touching_from n i ds) → get_or (touching_from n i ds) j 0 < i + length ds
touching_below n i [] j lt = absurd (omega arith)
touching_below n i (d ∷ ds) j lt =
    below_if (touches n d) i (i + suc (length ds)) (touching_from n (i + 1) ds) (omega arith) (λ k h. omega (arith, touching_below n (i + 1) ds k h)) j lt

-- each device of a fan is one of the circuit
pub fan_inside : (n : ℕ) (part : List DevId) (ds : List Device) → map (λ (d : DevId). d.0) part ≡ touching_from n 0 ds → (j : ℕ) (d : DevId) → j < length part → (get_or part j d).0 < length ds
fan_inside n part ds is j d lt =
    let size : length (touching_from n 0 ds) ≡ length part = ap length (sym is) ∙ length-map part (λ (x : DevId). x.0) in
    let same : get_or (touching_from n 0 ds) j 0 ≡ (get_or part j d).0 = ap (λ l. get_or l j 0) (sym is) ∙ get_or-map (λ (x : DevId). x.0) part j d 0 lt in
    omega (arith, touching_below n 0 ds j (omega arith))
