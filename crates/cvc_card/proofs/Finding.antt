-- What loops over plain tokens find: words and numbers, the lone slash, the last token.
use Rattle.std.proofs.Common.{◌≡◌, ℕ, suc, ◌+◌, ◌-◌, ◌<◌, ◌≤◌, ◌||◌, not, Bool, true, false, cond, if◌then◌else◌, List, [], ◌∷◌, ◌++◌, length, map, take, drop, get_or, Some, None, Bor, refl, sym, ap, ◌∙◌, arith}
use Rattle.std.specs.Option.{option_map}
use Rattle.std.specs.List.{filter, list_any, position_or_len}
use Rattle.std.proofs.lemmas.List.{append-nil, map_more, take-map, drop-map, length-map, length-drop}
use Rattle.std.proofs.Math.Seq.{take-length}
use Rattle.std.proofs.lemmas.List.Elements.{filter-append}
use Rattle.cvc_card.specs.Words.{is_number, is_slash}
use Rattle.cvc_card.specs.Parts.{last_of}
use Rattle.cvc_card.specs.Card.{cell_of, first_of, is_word, nets_of}
use Rattle.cvc_card.specs.Reading.{bytes_of, texts_held}

pub last_of-push : {X : Type 0} (xs : List X) (x : X) → last_of (xs ++ x ∷ []) ≡ Some x
last_of-push [] x = refl
last_of-push (y ∷ []) x = refl
last_of-push (y ∷ z ∷ xs) x = last_of-push (z ∷ xs) x

-- ---- the last word

filter-step : (test : List ℕ → Bool) (b : Bool) (xs : List (List ℕ)) (x : List ℕ) → test x ≡ b → filter test (xs ++ x ∷ []) ≡ filter test xs ++ (if b then x ∷ [] else [])
filter-step test b xs x is = filter-append test xs (x ∷ []) ∙ ap (λ v. filter test xs ++ cond v (x ∷ []) []) is

one_more : (ts : List (Bor (List ℕ))) (i : ℕ) (d : Bor (List ℕ)) (b : Bool) → i < length ts → is_number (get_or ts i d).now ≡ not b
    → filter is_word (texts_held (take (i + 1) ts)) ≡ filter is_word (texts_held (take i ts)) ++ (if b then (get_or ts i d).now ∷ [] else [])
one_more ts i d b lt is =
    ap (filter is_word) (map_more bytes_of ts i d lt) ∙ filter-step is_word b (texts_held (take i ts)) (get_or ts i d).now (ap not is ∙ twice b)
  where
    twice : (v : Bool) → not (not v) ≡ v
    twice true = refl
    twice false = refl

pub word_taken : (ts : List (Bor (List ℕ))) (i : ℕ) (d : Bor (List ℕ)) → i < length ts → is_number (get_or ts i d).now ≡ false
    → Some (get_or ts i d).now ≡ last_of (filter is_word (texts_held (take (i + 1) ts)))
word_taken ts i d lt is = sym (ap last_of (one_more ts i d true lt is) ∙ last_of-push (filter is_word (texts_held (take i ts))) (get_or ts i d).now)

pub word_kept : (ts : List (Bor (List ℕ))) (i : ℕ) (d : Bor (List ℕ)) → i < length ts → is_number (get_or ts i d).now ≡ true
    → last_of (filter is_word (texts_held (take i ts))) ≡ last_of (filter is_word (texts_held (take (i + 1) ts)))
word_kept ts i d lt is = sym (ap last_of (one_more ts i d false lt is ∙ append-nil (filter is_word (texts_held (take i ts)))))

-- ---- the lone slash

found_step : (b any : Bool) (place len : ℕ) → (place < len → any ≡ true) → cond (not b) (1 + place) 0 < suc len → (b || any) ≡ true
found_step true any place len more lt = refl
found_step false any place len more lt = more (omega arith)

pub any-found : {X : Type 0} (p : X → Bool) (xs : List X) → position_or_len p xs < length xs → list_any p xs ≡ true
any-found p [] lt = absurd (omega arith)
any-found p (x ∷ xs) lt = found_step (p x) (list_any p xs) (position_or_len p xs) (length xs) (any-found p xs) lt

none_step : (b any : Bool) (place len : ℕ) → (len ≤ place → any ≡ false) → suc len ≤ cond (not b) (1 + place) 0 → (b || any) ≡ false
none_step true any place len more le = absurd (omega arith)
none_step false any place len more le = more (omega arith)

pub any-none : {X : Type 0} (p : X → Bool) (xs : List X) → length xs ≤ position_or_len p xs → list_any p xs ≡ false
any-none p [] le = refl
any-none p (x ∷ xs) le = none_step (p x) (list_any p xs) (position_or_len p xs) (length xs) (any-none p xs) le

last_of-map : {X Y : Type 0} (f : X → Y) (xs : List X) → last_of (map f xs) ≡ option_map f (last_of xs)
last_of-map f [] = refl
last_of-map f (x ∷ []) = refl
last_of-map f (x ∷ y ∷ xs) = last_of-map f (y ∷ xs)

last_at : {X : Type 0} (xs : List X) (d : X) → 1 ≤ length xs → last_of xs ≡ Some (get_or xs (length xs - 1) d)
last_at [] d le = absurd (omega arith)
last_at (x ∷ []) d le = refl
last_at (x ∷ y ∷ xs) d le =
    let e : length (x ∷ y ∷ xs) - 1 ≡ suc (length (y ∷ xs) - 1) = omega arith in
    rw e (last_at (y ∷ xs) d (omega arith))

rest_whole : (ts : List (Bor (List ℕ))) (n : ℕ) → take (length ts - n) (drop n ts) ≡ drop n ts
rest_whole ts n = ap (λ k. take k (drop n ts)) (sym (length-drop n ts)) ∙ take-length (drop n ts)

module _ (ts : List (Bor (List ℕ))) (place : ℕ) (is : place ≡ position_or_len is_slash (texts_held ts)) where
  has_slash : place < length ts → list_any is_slash (texts_held ts) ≡ true
  has_slash lt = any-found is_slash (texts_held ts) (omega (arith, length-map ts bytes_of))

  lacks_slash : length ts ≤ place → list_any is_slash (texts_held ts) ≡ false
  lacks_slash le = any-none is_slash (texts_held ts) (omega (arith, length-map ts bytes_of))

  pub nets_before_slash : place < length ts → texts_held (take place ts) ≡ nets_of (texts_held ts)
  unfolding nets_of
  nets_before_slash lt =
      sym (take-map bytes_of place ts) ∙ ap (λ n. take n (texts_held ts)) is
      ∙ sym (ap (λ b. if b then take (position_or_len is_slash (texts_held ts)) (texts_held ts) else take (length (texts_held ts) - 1) (texts_held ts)) (has_slash lt))

  pub cell_after_slash : place < length ts → first_of (texts_held (take (length ts - (place + 1)) (drop (place + 1) ts))) ≡ cell_of (texts_held ts)
  unfolding cell_of
  cell_after_slash lt =
      ap (λ us. first_of (texts_held us)) (rest_whole ts (place + 1)) ∙ ap first_of (sym (drop-map bytes_of (place + 1) ts)) ∙ ap (λ n. first_of (drop (n + 1) (texts_held ts))) is
      ∙ sym (ap (λ b. if b then first_of (drop (position_or_len is_slash (texts_held ts) + 1) (texts_held ts)) else last_of (texts_held ts)) (has_slash lt))

  pub nets_but_last : length ts ≤ place → texts_held (take (length ts - 1) ts) ≡ nets_of (texts_held ts)
  unfolding nets_of
  nets_but_last le =
      sym (take-map bytes_of (length ts - 1) ts) ∙ ap (λ n. take (n - 1) (texts_held ts)) (sym (length-map ts bytes_of))
      ∙ sym (ap (λ b. if b then take (position_or_len is_slash (texts_held ts)) (texts_held ts) else take (length (texts_held ts) - 1) (texts_held ts)) (lacks_slash le))

  pub cell_last : length ts ≤ place → last_of (texts_held ts) ≡ cell_of (texts_held ts)
  unfolding cell_of
  cell_last le = sym (ap (λ b. if b then first_of (drop (position_or_len is_slash (texts_held ts) + 1) (texts_held ts)) else last_of (texts_held ts)) (lacks_slash le))

  pub cell_at_end : (d : Bor (List ℕ)) → length ts ≤ place → 1 ≤ length ts → Some (get_or ts (length ts - 1) d).now ≡ cell_of (texts_held ts)
  cell_at_end d le some = sym (last_of-map bytes_of ts ∙ ap (option_map bytes_of) (last_at ts d some)) ∙ cell_last le

pub no_nets : (ts : List (Bor (List ℕ))) → length ts < 1 → texts_held ts ≡ nets_of (texts_held ts)
unfolding nets_of
no_nets [] lt = refl
no_nets (t ∷ ts) lt = absurd (omega arith)

pub no_cell : (ts : List (Bor (List ℕ))) → length ts < 1 → None ≡ cell_of (texts_held ts)
unfolding cell_of
no_cell [] lt = refl
no_cell (t ∷ ts) lt = absurd (omega arith)
