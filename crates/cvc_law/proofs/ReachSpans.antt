-- Spans of voltages, for `omega`, which reads an integer as the difference of its two parts.
use Rattle.std.proofs.Common.{◌≡◌, ℕ, zero, suc, ◌+◌, ◌-◌, ◌<◌, ◌≤◌, cond, arith, refl}
use Rattle.std.proofs.lemmas.Int.{ints}
use Rattle.std.proofs.lemmas.Bool.Decides.{nat_tests}
use borrow.Author.Differences.{up, down}
use Rattle.std.specs.Prelude.{ℤ, pos, negsuc, ◌+ℤ◌, ◌-ℤ◌, int_le}
use Rattle.cvc_law.specs.Reach.{natural, span, moved_in, if_on}

pub natural_is : (z : ℤ) → natural z ≡ up z - down z
natural_is (pos n) = omega arith
natural_is (negsuc n) = omega arith

pub span_is : (x y : ℤ) → span x y ≡ (up y + down x + 1) - (down y + up x)
span_is x y = omega (arith, ints, natural_is (y -ℤ x +ℤ pos 1))

moved_is : (v : ℤ) (x : ℕ) → natural (pos x -ℤ v) ≡ (x + down v) - up v
moved_is v x = omega (arith, ints, natural_is (pos x -ℤ v))

pub moved_in-le : (v : ℤ) (x y : ℕ) → x ≤ y → moved_in v x ≤ moved_in v y
moved_in-le v zero y h = omega arith
moved_in-le v (suc x) zero h = absurd (omega arith)
moved_in-le v (suc x) (suc y) h = omega (arith, moved_is v (suc x), moved_is v (suc y))

pub if_on-le : (room : ℕ) (t : ℤ) (x y x' y' : ℕ) → x ≤ x' → y ≤ y' → if_on room t x y ≤ if_on room t x' y'
if_on-le room t x zero x' y' h g = omega arith
if_on-le room t x (suc y) x' zero h g = absurd (omega arith)
if_on-le room t x (suc y) x' (suc y') h g = grind (arith, ints, nat_tests)

pub if_on_own : (room : ℕ) (t : ℤ) (x y : ℕ) → if_on room t x y ≤ x
if_on_own room t x zero = omega arith
if_on_own room t x (suc y) = grind (arith, nat_tests)

pub if_on_off : (room : ℕ) (t : ℤ) (x y : ℕ) → y ≡ 0 → if_on room t x y ≡ 0
if_on_off room t x zero e = refl
if_on_off room t x (suc y) e = absurd (omega arith)

pub if_on_is : (room : ℕ) (t : ℤ) (x y : ℕ) → 0 < y → if_on room t x y ≡ cond (int_le (pos (suc room) +ℤ t) (pos (x + y))) x 0
if_on_is room t x zero h = absurd (omega arith)
if_on_is room t x (suc y) h = refl

pub moved_in_off : (t : ℤ) (y : ℕ) → y ≡ 0 → moved_in t y ≡ 0
moved_in_off t zero e = refl
moved_in_off t (suc y) e = absurd (omega arith)

pub moved_in_is : (t : ℤ) (y : ℕ) → 0 < y → moved_in t y ≡ (y + down t) - up t
moved_in_is t zero h = absurd (omega arith)
moved_in_is t (suc y) h = moved_is t (suc y)
