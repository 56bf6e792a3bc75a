-- The number that digits write, as more of them are read.
use Rattle.std.proofs.Common.{◌≡◌, ℕ, ◌+◌, ◌*◌, ◌^◌, ◌<◌, ◌≤◌, Bool, true, false, cond, IsTrue, List, [], ◌∷◌, ◌++◌, length, get_or, drop, refl, ap, arith, ◌&&◌, suc}
use Rattle.std.specs.Char.{digit_value, is_ascii_digit}
use Rattle.std.specs.Int.{IsInRange}
use Rattle.std.specs.Str.Parse.{digits_value, digits_value_after}
use Rattle.std.proofs.lemmas.List.{drop_more}
use Rattle.std.proofs.lemmas.List.Sums.{AllPass-from_list_all, take_while-cons}
use Rattle.std.proofs.lemmas.Str.{digit_value_digit}
use Rattle.std.proofs.lemmas.Bool.{false≢true}
use Rattle.std.proofs.Math.Nat.{pow-suc}
use Rattle.cvc_units.specs.Split.{are_digits, digits_at}

-- reading one more digit
pub value_step : (n : ℕ) (ds : List ℕ) (i : ℕ) → i < length ds → digits_value_after 10 n (drop i ds) ≡ digits_value_after 10 (n * 10 + digit_value (get_or ds i 0)) (drop (i + 1) ds)
value_step n ds i h = ap (λ xs. digits_value_after 10 n xs) (drop_more ds i 0 h)

-- the number only grows
pub value_grows : (n : ℕ) (ds : List ℕ) → n ≤ digits_value_after 10 n ds
value_grows n [] = omega arith
value_grows n (c ∷ cs) = omega (arith, value_grows (n * 10 + digit_value c) cs)

-- what is large with the next digit stays large
pub large_stays : (limit whole n : ℕ) (ds : List ℕ) (i : ℕ) → i < length ds → digits_value_after 10 n (drop i ds) ≡ whole → limit ≤ n * 10 → limit ≤ whole
large_stays limit whole n ds i h e large =
    omega (arith, value_step n ds i h, value_grows (n * 10 + digit_value (get_or ds i 0)) (drop (i + 1) ds))

pub value_append : (n : ℕ) (xs ys : List ℕ) → digits_value_after 10 n (xs ++ ys) ≡ digits_value_after 10 (digits_value_after 10 n xs) ys
value_append n [] ys = refl
value_append n (c ∷ xs) ys = value_append (n * 10 + digit_value c) xs ys

sum_step : (n d p v a b q : ℕ) → a ≡ (n * 10 + d) * p + v → b ≡ (0 * 10 + d) * p + v → q ≡ p * 10 → a ≡ n * q + b
sum_step n d p v a b q ea eb eq = rw (ea, eb, eq) (omega arith)

pub value_is_sum : (n : ℕ) (ys : List ℕ) → digits_value_after 10 n ys ≡ n * 10 ^ length ys + digits_value 10 ys
value_is_sum n [] = omega arith
value_is_sum n (c ∷ cs) =
    sum_step n (digit_value c) (10 ^ length cs) (digits_value 10 cs) _ _ (10 ^ suc (length cs)) (value_is_sum (n * 10 + digit_value c) cs) (value_is_sum (0 * 10 + digit_value c) cs) (pow-suc 10 (length cs))

pub and_right : (a b : Bool) → IsTrue (a && b) → IsTrue b
and_right true b h = h
and_right false b h = absurd (false≢true h)

in_range : (c : ℕ) → is_ascii_digit c ≡ true → IsInRange 48 57 c
in_range c e = grind arith

pub digit_at : (ds : List ℕ) (i : ℕ) → IsTrue (are_digits ds) → i < length ds → IsInRange 48 57 (get_or ds i 0)
digit_at ds i h lt = in_range (get_or ds i 0) (AllPass-from_list_all is_ascii_digit ds h i 0 lt)

below_step : (d p v : ℕ) → d < 10 → v < p → (0 * 10 + d) * p + v < p * 10
below_step d p v hd hv = grind arith

pub digits_rest : (c : ℕ) (cs : List ℕ) → IsTrue (are_digits (c ∷ cs)) → IsTrue (are_digits cs)
digits_rest c cs h = and_right (is_ascii_digit c) (are_digits cs) h

pub value_below : (ds : List ℕ) → IsTrue (are_digits ds) → digits_value 10 ds < 10 ^ length ds
value_below [] h = omega arith
value_below (c ∷ cs) h =
    let tail : digits_value 10 cs < 10 ^ length cs = value_below cs (digits_rest c cs h) in
    let first : digit_value c < 10 = omega (arith, digit_value_digit c (digit_at (c ∷ cs) 0 h (omega arith)), digit_at (c ∷ cs) 0 h (omega arith)) in
    let sum : digits_value 10 (c ∷ cs) ≡ (0 * 10 + digit_value c) * 10 ^ length cs + digits_value 10 cs = value_is_sum (0 * 10 + digit_value c) cs in
    rw (sum, pow-suc 10 (length cs)) (below_step (digit_value c) (10 ^ length cs) (digits_value 10 cs) first tail)

-- the digits at the front of a text are digits
digits_by_first : (b : Bool) (c : ℕ) (ds : List ℕ) → is_ascii_digit c ≡ b → IsTrue (are_digits ds) → IsTrue (are_digits (cond b (c ∷ ds) []))
digits_by_first true c ds e h = rw e h
digits_by_first false c ds e h = refl

pub front_is_digits : (text : List ℕ) → IsTrue (are_digits (digits_at text))
front_is_digits [] = refl
front_is_digits (c ∷ cs) = rw (take_while-cons is_ascii_digit c cs) (digits_by_first (is_ascii_digit c) c (digits_at cs) refl (front_is_digits cs))
