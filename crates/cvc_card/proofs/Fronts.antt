-- What stands at the front of a card's tokens.
use Rattle.std.proofs.Common.{◌≡◌, ℕ, ◌-◌, ◌<◌, ◌≤◌, true, false, List, [], ◌∷◌, length, take, drop, get_or, Err, if◌then◌else◌, refl, sym, ap, ◌∙◌, arith}
use Rattle.std.proofs.Math.Seq.{take-length}
use Rattle.cvc_base.specs.declared.cause.Cause.TheVariants.{BadParam}
use Rattle.cvc_base.specs.declared.line.Token.{Token}
use Rattle.cvc_card.specs.Items.{alone, begins_with_equals, followed_by, items_of, named}
use Rattle.cvc_card.specs.Reading.{texts_of}

take_rest : {A : Type 0} → (x : A) (xs : List A) → take (length (x ∷ xs) - 1) (drop 1 (x ∷ xs)) ≡ xs
take_rest x xs =
    let e : length (x ∷ xs) - 1 ≡ length xs = omega arith in
    rw e (take-length xs)

-- the first element and those after it
pub first_and_rest : {A : Type 0} → (xs : List A) (d : A) → 0 < length xs → xs ≡ get_or xs 0 d ∷ take (length xs - 1) (drop 1 xs)
first_and_rest [] d lt = absurd (omega arith)
first_and_rest (x ∷ xs) d lt = rw (take_rest x xs) refl

take_after : {A : Type 0} → (x y : A) (xs : List A) → take (length (x ∷ y ∷ xs) - 2) (drop 2 (x ∷ y ∷ xs)) ≡ xs
take_after x y xs =
    let e : length (x ∷ y ∷ xs) - 2 ≡ length xs = omega arith in
    rw e (take-length xs)

-- the first two elements and those after them
pub two_and_rest : {A : Type 0} → (xs : List A) (d : A) → 2 ≤ length xs → xs ≡ get_or xs 0 d ∷ get_or xs 1 d ∷ take (length xs - 2) (drop 2 xs)
two_and_rest [] d lt = absurd (omega arith)
two_and_rest (x ∷ []) d lt = absurd (omega arith)
two_and_rest (x ∷ y ∷ xs) d lt = rw (take_after x y xs) refl

lone_front : (t : Token) (rest : List Token) → begins_with_equals (texts_of rest) ≡ false → items_of (texts_of (t ∷ rest)) ≡ followed_by (alone t.text) (items_of (texts_of rest))
unfolding items_of
lone_front t [] is = refl
lone_front t (y ∷ []) is = ap (λ b. if b then Err BadParam else followed_by (alone t.text) (items_of (y.text ∷ []))) is
lone_front t (y ∷ z ∷ rest) is = ap (λ b. if b then followed_by (named t.text z.text) (items_of (texts_of rest)) else followed_by (alone t.text) (items_of (y.text ∷ z.text ∷ texts_of rest))) is

short_pair : (t : Token) (rest : List Token) → begins_with_equals (texts_of rest) ≡ true → length rest < 2 → items_of (texts_of (t ∷ rest)) ≡ Err BadParam
unfolding items_of
short_pair t [] is lt = cc
short_pair t (y ∷ []) is lt = ap (λ b. if b then Err BadParam else followed_by (alone t.text) (items_of (y.text ∷ []))) is
short_pair t (y ∷ z ∷ rest) is lt = absurd (omega arith)

pair_front : (t y z : Token) (rest : List Token) → begins_with_equals (texts_of (y ∷ z ∷ rest)) ≡ true → items_of (texts_of (t ∷ y ∷ z ∷ rest)) ≡ followed_by (named t.text z.text) (items_of (texts_of rest))
unfolding items_of
pair_front t y z rest is = ap (λ b. if b then followed_by (named t.text z.text) (items_of (texts_of rest)) else followed_by (alone t.text) (items_of (y.text ∷ z.text ∷ texts_of rest))) is

-- the tokens after the first
abbrev pub rest_of : List Token → List Token
rest_of tokens = take (length tokens - 1) (drop 1 tokens)

abbrev pub after_pair : List Token → List Token
after_pair tokens = take (length (rest_of tokens) - 2) (drop 2 (rest_of tokens))

pub lone_at : (tokens : List Token) (d : Token) → 0 < length tokens → begins_with_equals (texts_of (rest_of tokens)) ≡ false
    → items_of (texts_of tokens) ≡ followed_by (alone (get_or tokens 0 d).text) (items_of (texts_of (rest_of tokens)))
lone_at tokens d lt is = ap (λ ts. items_of (texts_of ts)) (first_and_rest tokens d lt) ∙ lone_front (get_or tokens 0 d) (rest_of tokens) is

pub short_at : (tokens : List Token) (d : Token) → 0 < length tokens → begins_with_equals (texts_of (rest_of tokens)) ≡ true → length (rest_of tokens) < 2 → items_of (texts_of tokens) ≡ Err BadParam
short_at tokens d lt is short = ap (λ ts. items_of (texts_of ts)) (first_and_rest tokens d lt) ∙ short_pair (get_or tokens 0 d) (rest_of tokens) is short

pair_with : (t : Token) (rest : List Token) (d : Token) → 2 ≤ length rest → begins_with_equals (texts_of rest) ≡ true
    → items_of (texts_of (t ∷ rest)) ≡ followed_by (named t.text (get_or rest 1 d).text) (items_of (texts_of (take (length rest - 2) (drop 2 rest))))
pair_with t rest d long is =
    let e = two_and_rest rest d long in
    ap (λ ts. items_of (texts_of (t ∷ ts))) e ∙ pair_front t (get_or rest 0 d) (get_or rest 1 d) (take (length rest - 2) (drop 2 rest)) (sym (ap (λ ts. begins_with_equals (texts_of ts)) e) ∙ is)

pub pair_at : (tokens : List Token) (d e : Token) → 0 < length tokens → 2 ≤ length (rest_of tokens) → begins_with_equals (texts_of (rest_of tokens)) ≡ true
    → items_of (texts_of tokens) ≡ followed_by (named (get_or tokens 0 d).text (get_or (rest_of tokens) 1 e).text) (items_of (texts_of (after_pair tokens)))
pair_at tokens d e lt long is = ap (λ ts. items_of (texts_of ts)) (first_and_rest tokens d lt) ∙ pair_with (get_or tokens 0 d) (rest_of tokens) e long is

-- what is left is shorter
pub fewer_after_one : {A : Type 0} → (xs : List A) → 0 < length xs → length (take (length xs - 1) (drop 1 xs)) < length xs
fewer_after_one [] lt = absurd (omega arith)
fewer_after_one (x ∷ xs) lt = rw (take_rest x xs) (omega arith)

fewer_after_two : {A : Type 0} → (xs : List A) → 2 ≤ length xs → length (take (length xs - 2) (drop 2 xs)) < length xs
fewer_after_two [] lt = absurd (omega arith)
fewer_after_two (x ∷ []) lt = absurd (omega arith)
fewer_after_two (x ∷ y ∷ xs) lt = rw (take_after x y xs) (omega arith)

pub fewer_after_pair : (tokens : List Token) → 0 < length tokens → 2 ≤ length (rest_of tokens) → length (after_pair tokens) < length tokens
fewer_after_pair tokens lt long = omega (arith, fewer_after_one tokens lt, fewer_after_two (rest_of tokens) long)

pub read_both : {R : Type 0} (f : List ℕ → List ℕ → R) (a a' b b' : List ℕ) (r : R) → a ≡ a' → b ≡ b' → f a b ≡ r → f a' b' ≡ r
read_both f a a' b b' r p q h = cc
