-- The texts of a netlist's tokens, without their places.
use Rattle.std.proofs.Common.{◌≡◌, ℕ, ◌+◌, ◌<◌, List, [], ◌∷◌, ◌++◌, length, map, Bool, true, false, cond, not, refl, ap, ap₂, ◌∙◌, arith, inl, inr}
use Rattle.std.specs.Prelude.{◌==◌}
use Rattle.std.specs.List.{list_any, take_while}
use Rattle.std.proofs.lemmas.Bool.{cases_Bool, and_parts, or_parts, not-true, not-false, cond-true, cond-false}
use Rattle.std.proofs.lemmas.List.Sums.{take_while-cons}
use Rattle.cvc_base.specs.declared.fault.FileKind.TheVariants.{Netlist as NetlistFile}
use Rattle.cvc_lex.specs.Bytes.{is_blank, is_word}
use Rattle.cvc_lex.specs.Physical.{begins_token, token_text, tokens_from}
use Rattle.cvc_cdl.specs.Pieces.{text_of_token}

-- the texts of the tokens of these bytes; `inside` says whether a word's byte stands before them
pub words : Bool → List ℕ → List (List ℕ)
words inside [] = []
words inside (x ∷ xs) = cond (begins_token NetlistFile inside x) (token_text NetlistFile x xs ∷ words (is_word NetlistFile x) xs) (words (is_word NetlistFile x) xs)

words-cons : (inside : Bool) (x : ℕ) (xs : List ℕ) → words inside (x ∷ xs)
    ≡ cond (begins_token NetlistFile inside x) (token_text NetlistFile x xs ∷ words (is_word NetlistFile x) xs) (words (is_word NetlistFile x) xs)
unfolding words
words-cons inside x xs = refl

pub words-nil : words false [] ≡ []
unfolding words
words-nil = refl

pub words-are : (number : ℕ) (inside : Bool) (column : ℕ) (xs : List ℕ) → map text_of_token (tokens_from NetlistFile number inside column xs) ≡ words inside xs
unfolding tokens_from words
words-are number inside column [] = refl
words-are number inside column (x ∷ xs) = elim (cases_Bool (begins_token NetlistFile inside x)) [
  | inl h ↦ rw h (ap (λ (ts : List (List ℕ)). token_text NetlistFile x xs ∷ ts) (words-are number (is_word NetlistFile x) (column + 1) xs))
  | inr h ↦ rw h (words-are number (is_word NetlistFile x) (column + 1) xs)
]

-- ## A word

abbrev pub is_no_word : ℕ → Bool
is_no_word b = not (is_word NetlistFile b)

pub word_parts : (x : ℕ) → is_word NetlistFile x ≡ true → (is_blank x ≡ false) × ((x == 61) ≡ false)
word_parts x h =
    let parts = and_parts (not (is_blank x)) (not (x == 61)) h in
    (not-true (is_blank x) parts.0, not-true (x == 61) parts.1)

-- nothing, or a byte that is none of a word, comes next
abbrev pub stops : List ℕ → Bool
stops [] = true
stops (x ∷ xs) = is_no_word x

inside_word : (w rest : List ℕ) → list_any is_no_word w ≡ false → words true (w ++ rest) ≡ words true rest
inside_word [] rest h = refl
inside_word (x ∷ w) rest h =
    let parts = or_parts (is_no_word x) (list_any is_no_word w) h in
    let word = word_parts x (not-false (is_word NetlistFile x) parts.0) in
    words-cons true x (w ++ rest) ∙ rw (word.0, word.1) (inside_word w rest parts.1)

word_ends : (rest : List ℕ) → stops rest ≡ true → words true rest ≡ words false rest
unfolding words
word_ends [] h = refl
word_ends (x ∷ xs) h = let other : is_word NetlistFile x ≡ false = not-true (is_word NetlistFile x) h in rw other refl

first_word : (w rest : List ℕ) → list_any is_no_word w ≡ false → stops rest ≡ true → take_while (is_word NetlistFile) (w ++ rest) ≡ w
first_word [] [] h s = refl
first_word [] (x ∷ xs) h s = take_while-cons (is_word NetlistFile) x xs ∙ cond-false (is_word NetlistFile x) _ _ (not-true (is_word NetlistFile x) s)
first_word (x ∷ w) rest h s =
    let parts = or_parts (is_no_word x) (list_any is_no_word w) h in
    take_while-cons (is_word NetlistFile) x (w ++ rest) ∙ cond-true (is_word NetlistFile x) _ _ (not-false (is_word NetlistFile x) parts.0) ∙ ap (λ (ys : List ℕ). x ∷ ys) (first_word w rest parts.1 s)

-- a word, with what follows it
pub word_first : (w rest : List ℕ) → 0 < length w → list_any is_no_word w ≡ false → stops rest ≡ true → words false (w ++ rest) ≡ w ∷ words false rest
word_first [] rest some h s = absurd (omega arith)
word_first (x ∷ w) rest some h s =
    let parts = or_parts (is_no_word x) (list_any is_no_word w) h in
    let word : is_word NetlistFile x ≡ true = not-false (is_word NetlistFile x) parts.0 in
    let bytes = word_parts x word in
    let begins : begins_token NetlistFile false x ≡ true = rw (bytes.0, bytes.1) refl in
    let text : token_text NetlistFile x (w ++ rest) ≡ x ∷ w = cond-false (x == 61) _ _ bytes.1 ∙ first_word (x ∷ w) rest h s in
    let more : words (is_word NetlistFile x) (w ++ rest) ≡ words false rest = ap (λ (b : Bool). words b (w ++ rest)) word ∙ inside_word w rest parts.1 ∙ word_ends rest s in
    words-cons false x (w ++ rest) ∙ cond-true (begins_token NetlistFile false x) _ _ begins ∙ ap₂ (λ (t : List ℕ) (ts : List (List ℕ)). t ∷ ts) text more

pub blank_first : (rest : List ℕ) → words false (32 ∷ rest) ≡ words false rest
unfolding words
blank_first rest = refl

pub sign_first : (rest : List ℕ) → words false (61 ∷ rest) ≡ (61 ∷ []) ∷ words false rest
unfolding words
sign_first rest = refl
