-- The number that digits write, as more of them are read.
use Rattle.std.proofs.Common.{◌≡◌, ℕ, ◌+◌, ◌*◌, ◌<◌, ◌≤◌, true, IsTrue, List, [], ◌∷◌, length, get_or, drop, sym, ap, ◌∙◌, arith}
use Rattle.std.specs.Char.{digit_value, is_ascii_digit}
use Rattle.std.specs.Int.{IsInRange}
use Rattle.std.specs.List.{list_all}
use Rattle.std.specs.Str.Parse.{digits_value_after}
use Rattle.std.proofs.lemmas.List.{drop_more}
use Rattle.std.proofs.lemmas.List.Sums.{AllPass-from_list_all}
use Rattle.std.proofs.lemmas.Str.{digit_value_digit}

-- reading one more digit
value_step : (n : ℕ) (ds : List ℕ) (i : ℕ) → i < length ds → digits_value_after 10 n (drop i ds) ≡ digits_value_after 10 (n * 10 + digit_value (get_or ds i 0)) (drop (i + 1) ds)
value_step n ds i h = ap (λ xs. digits_value_after 10 n xs) (drop_more ds i 0 h)

-- the number only grows
value_grows : (n : ℕ) (ds : List ℕ) → n ≤ digits_value_after 10 n ds
value_grows n [] = omega arith
value_grows n (c ∷ cs) = omega (arith, value_grows (n * 10 + digit_value c) cs)

in_range : (c : ℕ) → is_ascii_digit c ≡ true → IsInRange 48 57 c
in_range c e = grind arith

pub digit_at : (ds : List ℕ) (i : ℕ) → IsTrue (list_all is_ascii_digit ds) → i < length ds → IsInRange 48 57 (get_or ds i 0)
digit_at ds i h lt = in_range (get_or ds i 0) (AllPass-from_list_all is_ascii_digit ds h i 0 lt)

-- the number so far, times ten and with the next digit, is within the whole number; and reading goes on from it
pub next : (ds : List ℕ) (i n d whole : ℕ) → IsTrue (list_all is_ascii_digit ds) → i < length ds → d + 48 ≡ get_or ds i 0 → digits_value_after 10 n (drop i ds) ≡ whole
    → (n * 10 + d ≤ whole) × (digits_value_after 10 (n * 10 + d) (drop (i + 1) ds) ≡ whole)
next ds i n d whole digits lt is so_far =
    let value : digit_value (get_or ds i 0) ≡ d = omega (arith, digit_value_digit (get_or ds i 0) (digit_at ds i digits lt)) in
    let more : digits_value_after 10 (n * 10 + d) (drop (i + 1) ds) ≡ whole = rw (← value) (sym (value_step n ds i lt) ∙ so_far) in
    (omega (arith, more, value_grows (n * 10 + d) (drop (i + 1) ds)), more)

-- the number so far times ten is within the whole number
pub next_tens : (ds : List ℕ) (i n whole : ℕ) → IsTrue (list_all is_ascii_digit ds) → i < length ds → digits_value_after 10 n (drop i ds) ≡ whole → n * 10 ≤ whole
next_tens ds i n whole digits lt so_far =
    omega (arith, so_far, value_step n ds i lt, value_grows (n * 10 + digit_value (get_or ds i 0)) (drop (i + 1) ds))
