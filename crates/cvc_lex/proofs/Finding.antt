-- The first LF and the first `$` of some bytes.
use Rattle.std.proofs.Common.{◌≡◌, ℕ, zero, suc, ◌+◌, ◌-◌, ◌<◌, ◌≤◌, List, [], ◌∷◌, ◌++◌, length, take, drop, get_or, Bool, true, false, ◌==◌, Option, Some, None, refl, sym, ap, ◌∙◌, arith, inl, inr, add-zero, zero-add}
use Rattle.std.specs.Prelude.{slice_index}
use Rattle.std.specs.List.{list_any, position_or_len}
use Rattle.std.proofs.lemmas.Bool.{cases_Bool, eqb-true}
use Rattle.std.proofs.lemmas.List.{take_more, take_rest, get_or-take, get_or-drop, length-drop, length-take-le}
use Rattle.std.proofs.lemmas.List.Sums.{position_or_len_is}
use Rattle.memchr.specs.Find.{IsFirstByte, Passes, is_byte}
use Rattle.cvc_lex.specs.Bytes.{is_line_feed}
use Rattle.cvc_lex.specs.Lined.{IsFirstLine}
use Rattle.cvc_lex.specs.Physical.{first_place, is_lone_dollar}

none_passes : (test : ℕ → Bool) (xs : List ℕ) → ((k : ℕ) → k < length xs → test (slice_index xs k) ≡ true → ⊥) → list_any test xs ≡ false
none_passes test [] h = refl
none_passes test (x ∷ xs) h = elim (cases_Bool (test x)) [
  | inl holds ↦ absurd (h 0 (omega arith) holds)
  | inr fails ↦ rw fails (none_passes test xs (λ k lt. h (suc k) (omega arith)))
]

pub line_none : (bytes : List ℕ) → IsFirstByte (is_byte 10) bytes None → IsFirstLine bytes None
line_none bytes h = none_passes is_line_feed bytes (λ k lt. h k (omega arith) lt)

pub line_some : (bytes : List ℕ) (place : ℕ) → IsFirstByte (is_byte 10) bytes (Some place) → IsFirstLine bytes (Some (place + 1))
line_some bytes place h =
    let lt : place < length bytes = h.0.high in
    let here : get_or bytes place 0 ≡ 10 = eqb-true (get_or bytes place 0) 10 h.1 in
    let long : length (take place bytes) ≡ place = length-take-le place bytes (omega arith) in
    let none = none_passes is_line_feed (take place bytes) (λ k small at. h.0.before k (omega arith) (omega arith) (ap is_line_feed (sym (get_or-take place bytes k 0 (omega arith))) ∙ at)) in
    (omega arith, omega arith, (take place bytes, take_more bytes place 0 lt ∙ ap (λ (b : ℕ). take place bytes ++ b ∷ []) here, none))

place_none : (test : ℕ → Bool) (i n : ℕ) → ((k : ℕ) → i ≤ k → k < i + n → test k ≡ false) → first_place test i n ≡ i + n
place_none test i zero h = sym (add-zero i)
place_none test i (suc n) h =
    let here : test i ≡ false = h i (omega arith) (omega arith) in
    let e : i + 1 + n ≡ i + suc n = omega arith in
    rw here (place_none test (i + 1) n (λ k le lt. h k (omega arith) (omega arith)) ∙ e)

-- the first place, from one at which the search begins to one where it goes on
place_skip : (test : ℕ → Bool) (i k n : ℕ) → ((j : ℕ) → i ≤ j → j < i + k → test j ≡ false) → first_place test i (k + n) ≡ first_place test (i + k) n
place_skip test i zero n h = rw (zero-add n, add-zero i) refl
place_skip test i (suc k) n h =
    let here : test i ≡ false = h i (omega arith) (omega arith) in
    let e : suc k + n ≡ suc (k + n) = omega arith in
    let f : i + 1 + k ≡ i + suc k = omega arith in
    rw (e, here) (place_skip test (i + 1) k n (λ j le lt. h j (omega arith) (omega arith)) ∙ ap (λ (m : ℕ). first_place test m n) f)

-- a place that is no `$` is no lone one
no_sign : (text : List ℕ) (k : ℕ) → ((slice_index text k == 36) ≡ true → ⊥) → is_lone_dollar text k ≡ false
no_sign text k h = elim (cases_Bool (slice_index text k == 36)) [
  | inl holds ↦ absurd (h holds)
  | inr fails ↦ rw fails refl
]

module _ (text : List ℕ) (i : ℕ) where
  abbrev back : List ℕ
  back = take (length text - i) (drop i text)

  at_back : (k : ℕ) → get_or back k 0 ≡ get_or text (i + k) 0
  at_back k = ap (λ (u : List ℕ). get_or u k 0) (take_rest text i) ∙ get_or-drop i text k 0

  back_length : i ≤ length text → i + length back ≡ length text
  back_length le = let e = ap length (take_rest text i) ∙ length-drop i text in omega arith

  none_there : (len : ℕ) → ((k : ℕ) → 0 ≤ k → k < len → Passes (is_byte 36) back k → ⊥) → (k : ℕ) → i ≤ k → k < i + len → is_lone_dollar text k ≡ false
  none_there len h k le lt =
      let e : i + (k - i) ≡ k = omega arith in
      no_sign text k (λ holds. h (k - i) (omega arith) (omega arith) (ap (λ (b : ℕ). b == 36) (at_back (k - i)) ∙ ap (λ (j : ℕ). get_or text j 0 == 36) e ∙ holds))

  -- the next `$` of the text, or none
  pub dollar_next : (len : ℕ) → i ≤ length text → IsFirstByte (is_byte 36) back (Some len) → (i + len < length text) × (first_place (is_lone_dollar text) i (length text - i) ≡ first_place (is_lone_dollar text) (i + len) (length text - (i + len)))
  dollar_next len le h =
      let whole = back_length le in
      let within : len < length back = h.0.high in
      let split : length text - i ≡ len + (length text - (i + len)) = omega arith in
      (omega arith, ap (first_place (is_lone_dollar text) i) split ∙ place_skip (is_lone_dollar text) i len (length text - (i + len)) (none_there len h.0.before))

  pub dollar_none : (place : Option ℕ) → place ≡ None → i ≤ length text → IsFirstByte (is_byte 36) back place → first_place (is_lone_dollar text) i (length text - i) ≡ length text
  dollar_none (Some len) e le h = absurd cc
  dollar_none None e le h =
      let whole = back_length le in
      let at_end : i + (length text - i) ≡ length text = omega arith in
      place_none (is_lone_dollar text) i (length text - i) (λ k low high. none_there (length back) h k low (omega arith)) ∙ at_end

-- the first `#`
pub hash_some : (text : List ℕ) (place : ℕ) → IsFirstByte (is_byte 35) text (Some place) → place ≡ position_or_len (is_byte 35) text
hash_some text place h =
    let within : place < length text = h.0.high in
    sym (position_or_len_is (is_byte 35) text place 0 (omega arith) (λ k lt. not_true (is_byte 35 (get_or text k 0)) (h.0.before k (omega arith) lt)) (λ lt. h.1))
  where
    not_true : (b : Bool) → (b ≡ true → ⊥) → b ≡ false
    not_true true h = absurd (h refl)
    not_true false h = refl

pub hash_none : (text : List ℕ) → IsFirstByte (is_byte 35) text None → length text ≡ position_or_len (is_byte 35) text
hash_none text h = sym (position_or_len_is (is_byte 35) text (length text) 0 (omega arith) (λ k lt. not_true (is_byte 35 (get_or text k 0)) (h k (omega arith) lt)) (λ lt. absurd (omega arith)))
  where
    not_true : (b : Bool) → (b ≡ true → ⊥) → b ≡ false
    not_true true h = absurd (h refl)
    not_true false h = refl
