-- Texts, shapes and tokens.
use Rattle.std.proofs.Common.{◌≡◌, ℕ, suc, ◌+◌, ◌-◌, ◌<◌, ◌≤◌, List, [], ◌∷◌, length, take, drop, get_or, Bool, true, false, cond, not, ◌&&◌, ◌==◌, refl, sym, ap, subst, ◌∙◌, arith, inl, inr, add-zero}
use mir.Val.{bool_byte}
use Rattle.std.specs.List.{prefix_len}
use Rattle.std.specs.Prelude.{slice_range}
use Rattle.std.proofs.lemmas.Bool.{cases_Bool, cond-true, ne_eqb, and_right, and_parts, not-true}
use Rattle.std.proofs.lemmas.Bool.Decides.{nat_tests}
use Rattle.std.proofs.lemmas.List.Sums.{prefix_len_stops}
use Rattle.std.proofs.lemmas.List.{drop_more, drop_all, take_rest, length-drop, drop-drop, get_or-drop}
use Rattle.cvc_base.specs.declared.fault.FileKind.{FileKind}
use Rattle.cvc_base.specs.declared.line.Token.{Token}
use Rattle.cvc_lex.specs.declared.shape.Shape.TheVariants.{Skipped, Card}
use Rattle.cvc_lex.specs.Bytes.{is_netlist, is_blank, is_alone, is_word}
use Rattle.cvc_lex.specs.Physical.{first_place, unindented, shape_of, card_shape, row_shape, begins_token, token_text, tokens_from}

-- ## The first place

place_step : (test : ℕ → Bool) (i m n : ℕ) → n ≡ suc m → test i ≡ false → first_place test i n ≡ first_place test (i + 1) m
place_step test i m n e fails = rw (e, fails) refl

pub place_more : (test : ℕ → Bool) (i n : ℕ) → i < n → test i ≡ false → first_place test i (n - i) ≡ first_place test (i + 1) (n - (i + 1))
place_more test i n lt fails = place_step test i (n - (i + 1)) (n - i) (omega arith) fails

place_stop : (test : ℕ → Bool) (i m n : ℕ) → n ≡ suc m → test i ≡ true → first_place test i n ≡ i
place_stop test i m n e holds = rw (e, holds) refl

pub place_here : (test : ℕ → Bool) (i n : ℕ) → i < n → test i ≡ true → first_place test i (n - i) ≡ i
place_here test i n lt holds = place_stop test i (n - (i + 1)) (n - i) (omega arith) holds

pub place_end : (test : ℕ → Bool) (i n : ℕ) → n ≤ i → first_place test i (n - i) ≡ i
place_end test i n le = let e : n - i ≡ 0 = omega arith in rw e refl

-- ## Indents

pub one-add : (n : ℕ) → 1 + n ≡ suc n
one-add n = omega arith

and-false : (b : Bool) → (b && false) ≡ false
and-false true = refl
and-false false = refl

pub unindented_is : (text : List ℕ) → drop (prefix_len is_blank text) text ≡ unindented text
unindented_is [] = refl
unindented_is (x ∷ xs) = elim (cases_Bool (is_blank x)) [
  | inl holds ↦ rw (holds, one-add (prefix_len is_blank xs)) (unindented_is xs)
  | inr fails ↦ rw fails refl
]

-- ## Shapes

card_is : (kind : FileKind) (text : List ℕ) → is_netlist kind ≡ true → shape_of kind text ≡ card_shape (unindented text)
unfolding shape_of
card_is kind text e = rw e refl

row_is : (kind : FileKind) (text : List ℕ) → is_netlist kind ≡ false → shape_of kind text ≡ row_shape (unindented text)
unfolding shape_of
row_is kind text e = rw e refl

pub card_at : (kind : FileKind) (text : List ℕ) (n : ℕ) → is_netlist kind ≡ true → n ≡ prefix_len is_blank text → card_shape (take (length text - n) (drop n text)) ≡ shape_of kind text
card_at kind text n e place = ap card_shape (take_rest text n ∙ ap (λ (m : ℕ). drop m text) place ∙ unindented_is text) ∙ sym (card_is kind text e)

row_shape-length : (rest : List ℕ) → row_shape rest ≡ cond (length rest == 0) Skipped Card
row_shape-length [] = refl
row_shape-length (x ∷ xs) = let e : (length (x ∷ xs) == 0) ≡ false = ne_eqb _ _ (λ h. absurd (omega arith)) in rw e refl

pub row_at : (kind : FileKind) (text : List ℕ) (n : ℕ) (b : Bool) → is_netlist kind ≡ false → n ≡ prefix_len is_blank text → (length (take (length text - n) (drop n text)) == 0) ≡ b → cond b Skipped Card ≡ shape_of kind text
row_at kind text n b e place empty =
    let rest : take (length text - n) (drop n text) ≡ unindented text = take_rest text n ∙ ap (λ (m : ℕ). drop m text) place ∙ unindented_is text in
    ap (λ (c : Bool). cond c Skipped Card) (sym empty ∙ ap (λ (r : List ℕ). length r == 0) rest) ∙ sym (row_shape-length (unindented text)) ∙ sym (row_is kind text e)

-- ## Tokens

module _ (kind : FileKind) (number : ℕ) where
  abbrev tokens : Bool → ℕ → List ℕ → List Token
  tokens inside column xs = tokens_from kind number inside column xs

  tokens-nil : (inside : Bool) (c : ℕ) → tokens inside c [] ≡ []
  unfolding tokens_from
  tokens-nil inside c = refl

  tokens-cons : (inside : Bool) (c x : ℕ) (xs : List ℕ) → tokens inside c (x ∷ xs)
      ≡ cond (begins_token kind inside x) (record { text = token_text kind x xs; line = number; column = c } ∷ tokens (is_word kind x) (c + 1) xs) (tokens (is_word kind x) (c + 1) xs)
  unfolding tokens_from
  tokens-cons inside c x xs = refl

  blank_not_alone : (x : ℕ) → is_blank x ≡ true → is_alone kind x ≡ false
  blank_not_alone x e = and_right (is_netlist kind) (x == 61) (not_sign x e)
    where
      not_sign : (y : ℕ) → is_blank y ≡ true → (y == 61) ≡ false
      not_sign y e = grind (arith, nat_tests)

  pub tokens-blank : (c x : ℕ) (xs : List ℕ) → is_blank x ≡ true → tokens false c (x ∷ xs) ≡ tokens false (c + 1) xs
  tokens-blank c x xs e = rw (tokens-cons false c x xs, blank_not_alone x e, e) refl

  skip_blanks : (c : ℕ) (xs : List ℕ) → tokens false c xs ≡ tokens false (c + prefix_len is_blank xs) (drop (prefix_len is_blank xs) xs)
  skip_blanks c [] = rw (add-zero c) refl
  skip_blanks c (x ∷ xs) = elim (cases_Bool (is_blank x)) [
    | inl holds ↦ rw (tokens-blank c x xs holds, holds, one-add (prefix_len is_blank xs)) (skip_blanks (c + 1) xs ∙ ap (λ (n : ℕ). tokens false n (drop (prefix_len is_blank xs) xs)) (omega arith))
    | inr fails ↦ rw (fails, add-zero c) refl
  ]

  word_not_alone : (x : ℕ) → is_word kind x ≡ true → is_alone kind x ≡ false
  word_not_alone x e = not-true (is_alone kind x) (and_parts (not (is_blank x)) (not (is_alone kind x)) e).1

  word_not_blank : (x : ℕ) → is_word kind x ≡ true → is_blank x ≡ false
  word_not_blank x e = not-true (is_blank x) (and_parts (not (is_blank x)) (not (is_alone kind x)) e).0

  tokens-inside : (c x : ℕ) (xs : List ℕ) → is_word kind x ≡ true → tokens true c (x ∷ xs) ≡ tokens true (c + 1) xs
  tokens-inside c x xs e = rw (tokens-cons true c x xs, word_not_alone x e, word_not_blank x e) refl

  tokens-outside : (c x : ℕ) (xs : List ℕ) → is_word kind x ≡ false → tokens true c (x ∷ xs) ≡ tokens false c (x ∷ xs)
  tokens-outside c x xs e = rw (tokens-cons true c x xs, tokens-cons false c x xs, e) refl

  rest_of_word : (c : ℕ) (xs : List ℕ) → tokens true c xs ≡ tokens false (c + prefix_len (is_word kind) xs) (drop (prefix_len (is_word kind) xs) xs)
  rest_of_word c [] = tokens-nil true c ∙ sym (tokens-nil false (c + 0))
  rest_of_word c (x ∷ xs) = elim (cases_Bool (is_word kind x)) [
    | inl holds ↦ rw (tokens-inside c x xs holds, holds, one-add (prefix_len (is_word kind) xs)) (rest_of_word (c + 1) xs ∙ ap (λ (n : ℕ). tokens false n (drop (prefix_len (is_word kind) xs) xs)) (omega arith))
    | inr fails ↦ rw (fails, add-zero c) (tokens-outside c x xs fails)
  ]

  -- a word, with what follows it
  word_first : (c x : ℕ) (xs : List ℕ) → is_word kind x ≡ true → tokens false c (x ∷ xs)
      ≡ record { text = take (prefix_len (is_word kind) (x ∷ xs)) (x ∷ xs); line = number; column = c } ∷ tokens false (c + prefix_len (is_word kind) (x ∷ xs)) (drop (prefix_len (is_word kind) (x ∷ xs)) (x ∷ xs))
  word_first c x xs e = rw (tokens-cons false c x xs, word_not_alone x e, word_not_blank x e, one-add (prefix_len (is_word kind) xs))
      (ap (λ (ts : List Token). record { text = x ∷ take (prefix_len (is_word kind) xs) xs; line = number; column = c } ∷ ts)
      (rest_of_word (c + 1) xs ∙ ap (λ (n : ℕ). tokens false n (drop (prefix_len (is_word kind) xs) xs)) (omega arith)))

  -- a sign alone
  alone_first : (c x : ℕ) (xs : List ℕ) → is_alone kind x ≡ true → tokens false c (x ∷ xs) ≡ record { text = x ∷ []; line = number; column = c } ∷ tokens false (c + 1) xs
  alone_first c x xs e = rw (tokens-cons false c x xs, e, and-false (not (is_blank x))) refl

  module _ (text : List ℕ) where
    abbrev after_blanks : ℕ → ℕ
    after_blanks i = i + prefix_len is_blank (drop i text)

    skipped : (i : ℕ) → tokens false (i + 1) (drop i text) ≡ tokens false (after_blanks i + 1) (drop (after_blanks i) text)
    skipped i = skip_blanks (i + 1) (drop i text) ∙ rw (drop-drop (prefix_len is_blank (drop i text)) i text) (ap (λ (n : ℕ). tokens false n (drop (after_blanks i) text)) (omega arith))

    from_rest : (i n : ℕ) → n ≡ prefix_len is_blank (take (length text - i) (drop i text)) → i + n ≡ after_blanks i
    from_rest i n e = ap (λ (m : ℕ). i + m) (e ∙ ap (prefix_len is_blank) (take_rest text i))

    pub no_token : (i n : ℕ) → n ≡ prefix_len is_blank (take (length text - i) (drop i text)) → i + n ≡ length text → tokens false (i + 1) (drop i text) ≡ []
    no_token i n e end = skipped i ∙ rw (← from_rest i n e, drop_all (i + n) text (omega arith)) (tokens-nil false (i + n + 1))

    pub sign_token : (i n : ℕ) → n ≡ prefix_len is_blank (take (length text - i) (drop i text)) → i + n < length text → is_alone kind (get_or text (i + n) 0) ≡ true
        → tokens false (i + 1) (drop i text) ≡ record { text = slice_range text (i + n) (i + n + 1); line = number; column = i + n + 1 } ∷ tokens false (i + n + 1 + 1) (drop (i + n + 1) text)
    sign_token i n e lt alone =
        let more : drop (i + n) text ≡ get_or text (i + n) 0 ∷ drop (i + n + 1) text = drop_more text (i + n) 0 lt in
        let one : i + n + 1 - (i + n) ≡ 1 = omega arith in
        skipped i ∙ rw (← from_rest i n e, one, more) (alone_first (i + n + 1) (get_or text (i + n) 0) (drop (i + n + 1) text) alone)

    -- the byte at which the blanks end is no blank
    not_blank : (i : ℕ) → i ≤ length text → after_blanks i < length text → is_blank (get_or text (after_blanks i) 0) ≡ false
    not_blank i le lt =
        let long : prefix_len is_blank (drop i text) < length (drop i text) = omega (arith, length-drop i text) in
        ap is_blank (sym (get_or-drop i text (prefix_len is_blank (drop i text)) 0)) ∙ prefix_len_stops is_blank (drop i text) 0 long

    word_here : (i n : ℕ) → n ≡ prefix_len is_blank (take (length text - i) (drop i text)) → i ≤ length text → i + n < length text → is_alone kind (get_or text (i + n) 0) ≡ false → is_word kind (get_or text (i + n) 0) ≡ true
    word_here i n e le lt alone =
        let at = from_rest i n e in
        let here : after_blanks i < length text = omega arith in
        let blank : is_blank (get_or text (i + n) 0) ≡ false = ap (λ (m : ℕ). is_blank (get_or text m 0)) at ∙ not_blank i le here in
        rw (blank, alone) refl

    pub word_token : (i n m : ℕ) → n ≡ prefix_len is_blank (take (length text - i) (drop i text)) → i ≤ length text → i + n < length text → is_alone kind (get_or text (i + n) 0) ≡ false
        → m ≡ prefix_len (is_word kind) (take (length text - (i + n)) (drop (i + n) text))
        → tokens false (i + 1) (drop i text) ≡ record { text = slice_range text (i + n) (i + n + m); line = number; column = i + n + 1 } ∷ tokens false (i + n + m + 1) (drop (i + n + m) text)
    word_token i n m e le lt alone is =
        let word = word_here i n e le lt alone in
        let same : m ≡ prefix_len (is_word kind) (drop (i + n) text) = is ∙ ap (prefix_len (is_word kind)) (take_rest text (i + n)) in
        let more : drop (i + n) text ≡ get_or text (i + n) 0 ∷ drop (i + n + 1) text = drop_more text (i + n) 0 lt in
        let size : i + n + m - (i + n) ≡ m = omega arith in
        let first = word_first (i + n + 1) (get_or text (i + n) 0) (drop (i + n + 1) text) word in
        let whole : tokens false (i + n + 1) (drop (i + n) text) ≡ record { text = take m (drop (i + n) text); line = number; column = i + n + 1 } ∷ tokens false (i + n + 1 + m) (drop m (drop (i + n) text)) =
        rw (same, more) first in
        skipped i ∙ rw (← from_rest i n e, size) (whole ∙ rw (drop-drop m (i + n) text) (ap (λ (k : ℕ). record { text = take m (drop (i + n) text); line = number; column = i + n + 1 } ∷ tokens false k (drop (i + n + m) text)) (omega arith)))

    pub word_some : (i n m : ℕ) → n ≡ prefix_len is_blank (take (length text - i) (drop i text)) → i ≤ length text → i + n < length text → is_alone kind (get_or text (i + n) 0) ≡ false
        → m ≡ prefix_len (is_word kind) (take (length text - (i + n)) (drop (i + n) text)) → 0 < m
    word_some i n m e le lt alone is =
        let word = word_here i n e le lt alone in
        let more : drop (i + n) text ≡ get_or text (i + n) 0 ∷ drop (i + n + 1) text = drop_more text (i + n) 0 lt in
        let P : ℕ → Type 0 = λ k. 0 < k in
        subst P (sym (is ∙ ap (prefix_len (is_word kind)) (take_rest text (i + n) ∙ more) ∙ cond-true (is_word kind (get_or text (i + n) 0)) _ _ word)) (omega arith)

-- ## How many tokens

pub byte_is : (b : Bool) → bool_byte b ≡ cond b 1 0
byte_is true = refl
byte_is false = refl

pub count_more : (kind : FileKind) (number column count : ℕ) (inside : Bool) (i : ℕ) (text : List ℕ) (total : ℕ) → i < length text
    → count + length (tokens_from kind number inside (column + i) (drop i text)) ≡ total
    → count + cond (begins_token kind inside (get_or text i 0)) 1 0 + length (tokens_from kind number (is_word kind (get_or text i 0)) (column + (i + 1)) (drop (i + 1) text)) ≡ total
count_more kind number column count inside i text total lt h =
    let x : ℕ = get_or text i 0 in
    let rest : List Token = tokens_from kind number (is_word kind x) (column + (i + 1)) (drop (i + 1) text) in
    let at : column + i + 1 ≡ column + (i + 1) = omega arith in
    let whole : length (tokens_from kind number inside (column + i) (drop i text)) ≡ cond (begins_token kind inside x) 1 0 + length rest =
    rw (drop_more text i 0 lt, tokens-cons kind number inside (column + i) x (drop (i + 1) text), at) (by_first (begins_token kind inside x) (record { text = token_text kind x (drop (i + 1) text); line = number; column = column + i }) rest) in
    omega (arith, whole, h)
  where
    by_first : (b : Bool) (t : Token) (ts : List Token) → length (cond b (t ∷ ts) ts) ≡ cond b 1 0 + length ts
    by_first true t ts = omega arith
    by_first false t ts = omega arith

pub count_end : (kind : FileKind) (number column count : ℕ) (inside : Bool) (i : ℕ) (text : List ℕ) (total : ℕ) → length text ≤ i → count + length (tokens_from kind number inside (column + i) (drop i text)) ≡ total → count ≡ total
count_end kind number column count inside i text total le h =
    let none : tokens_from kind number inside (column + i) (drop i text) ≡ [] = ap (tokens_from kind number inside (column + i)) (drop_all i text le) ∙ tokens-nil kind number inside (column + i) in
    let zero_more = ap length none in
    omega (arith, h, zero_more)

pub count_step : (kind : FileKind) (number column count : ℕ) (inside : Bool) (i : ℕ) (text : List ℕ) (total n : ℕ) (word : Bool) → i < length text → n ≡ cond (begins_token kind inside (get_or text i 0)) 1 0 → word ≡ is_word kind (get_or text i 0)
    → count + length (tokens_from kind number inside (column + i) (drop i text)) ≡ total → count + n + length (tokens_from kind number word (column + (i + 1)) (drop (i + 1) text)) ≡ total
count_step kind number column count inside i text total n word lt e w h = rw (e, w) (count_more kind number column count inside i text total lt h)

pub count_small : (b : Bool) (n : ℕ) → n ≡ cond b 1 0 → n ≤ 1
count_small true n e = omega arith
count_small false n e = omega arith
