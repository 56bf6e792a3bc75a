-- The tokens of a file without a lexical fault: each is an equals sign or a text that a token can have.
use Rattle.std.proofs.Common.{◌≡◌, ℕ, suc, zero, ◌+◌, ◌<◌, List, [], ◌∷◌, ◌++◌, length, map, take, drop, Bool, true, false, not, ◌&&◌, Option, Some, None, codes, All, refl, sym, ap, subst, ◌∙◌, arith, inl, inr, ◌⊎◌}
use Rattle.std.specs.Prelude.{◌==◌, option_map, nat_lt}
use Rattle.std.specs.List.{list_any, flat_map, take_while, before_first, position_or_len}
use Rattle.std.proofs.lemmas.Bool.{cases_Bool, or_parts, or_from, and_parts, eqb-true, cond-true, cond-false}
use Rattle.std.proofs.lemmas.List.Elements.{All-nil, All-cons, All-head, All-tail, All-append, All-take, All-filter}
use Rattle.std.proofs.lemmas.List.{length_push}
use Rattle.std.proofs.lemmas.List.Sums.{take_while-cons}
use Rattle.cvc_base.specs.declared.cause.Cause.{Cause}
use Rattle.cvc_base.specs.declared.cause.Cause.TheVariants.{BadByte, FileTooLong}
use Rattle.cvc_base.specs.declared.fault.Fault.{Fault}
use Rattle.cvc_base.specs.declared.fault.FileKind.TheVariants.{Netlist as NetlistFile}
use Rattle.cvc_base.specs.declared.line.Line.{Line}
use Rattle.cvc_base.specs.declared.line.Token.{Token}
use Rattle.cvc_lex.specs.Bytes.{is_bad, is_word, file_limit}
use Rattle.cvc_lex.specs.Physical.{begins_token, token_text, tokens_from, tokens_of, past_plus, text_of, cut, shape_of, card_shape, begins_with_dot, unindented, first_place, is_lone_dollar, physical, Read, read, reads_from}
use Rattle.cvc_base.specs.Faults.{fault_on}
use Rattle.cvc_lex.specs.Lines.{is_start, is_continuation, own, group, groups, line_of, cause_at, fault_after, fault_with, or_else, opened, joined, first_fault, lexical, closed_at_end}
use Rattle.cvc_cdl.specs.Pieces.{is_outside, IsTokenText}
use Rattle.cvc_cdl.proofs.LineWords.{is_no_word}
use Rattle.cvc_cdl.proofs.PrintedLines.{closed-is}

abbrev pub IsCardToken : Token → Type 0
IsCardToken token = (token.text ≡ codes "=") ⊎ IsTokenText token.text

abbrev pub HasCardTokens : Line → Type 0
HasCardTokens line = All IsCardToken line.tokens

-- no byte of a part is one that the whole lacks
pub no_more : (p : ℕ → Bool) (n : ℕ) (xs : List ℕ) → list_any p xs ≡ false → list_any p (take n xs) ≡ false
no_more p zero xs h = refl
no_more p (suc n) [] h = refl
no_more p (suc n) (x ∷ xs) h = let parts = or_parts (p x) (list_any p xs) h in or_from (p x) (list_any p (take n xs)) parts.0 (no_more p n xs parts.1)

pub no_later : (p : ℕ → Bool) (n : ℕ) (xs : List ℕ) → list_any p xs ≡ false → list_any p (drop n xs) ≡ false
no_later p zero xs h = h
no_later p (suc n) [] h = refl
no_later p (suc n) (x ∷ xs) h = no_later p n xs (or_parts (p x) (list_any p xs) h).1

abbrev HasCards : Read → Type 0
HasCards r = All IsCardToken r.tokens

-- ## The tokens of some bytes

abbrev pub IsCardText : List ℕ → Type 0
IsCardText text = (text ≡ codes "=") ⊎ IsTokenText text

word_is : (xs : List ℕ) → list_any is_bad xs ≡ false → list_any is_outside (take_while (is_word NetlistFile) xs) ≡ false
word_is [] h = refl
word_is (x ∷ xs) h = elim (cases_Bool (is_word NetlistFile x)) [
  | inl word ↦
      let parts = or_parts (is_bad x) (list_any is_bad xs) h in
      let here : is_outside x ≡ false = or_from (is_bad x) (is_no_word x) parts.0 (ap not word) in
      ap (list_any is_outside) (take_while-cons (is_word NetlistFile) x xs ∙ cond-true (is_word NetlistFile x) _ _ word)
      ∙ or_from (is_outside x) (list_any is_outside (take_while (is_word NetlistFile) xs)) here (word_is xs parts.1)
  | inr other ↦ ap (list_any is_outside) (take_while-cons (is_word NetlistFile) x xs ∙ cond-false (is_word NetlistFile x) _ _ other)
]

word_some : (x : ℕ) (xs : List ℕ) → is_word NetlistFile x ≡ true → 0 < length (take_while (is_word NetlistFile) (x ∷ xs))
word_some x xs word =
    let is : take_while (is_word NetlistFile) (x ∷ xs) ≡ x ∷ take_while (is_word NetlistFile) xs = take_while-cons (is_word NetlistFile) x xs ∙ cond-true (is_word NetlistFile x) _ _ word in
    let P : List ℕ → Type 0 = λ t. 0 < length t in
    subst P (sym is) (omega arith)

text_is : (inside : Bool) (x : ℕ) (xs : List ℕ) → list_any is_bad (x ∷ xs) ≡ false → begins_token NetlistFile inside x ≡ true → IsCardText (token_text NetlistFile x xs)
text_is inside x xs h begins = elim (cases_Bool (x == 61)) [
  | inl sign ↦ inl (cond-true (x == 61) _ _ sign ∙ ap (λ (y : ℕ). y ∷ []) (eqb-true x 61 sign))
  | inr other ↦
      let inner : (is_word NetlistFile x && not inside) ≡ true = sym (rw other refl) ∙ begins in
      let word = (and_parts (is_word NetlistFile x) (not inside) inner).0 in
      let is : token_text NetlistFile x xs ≡ take_while (is_word NetlistFile) (x ∷ xs) = cond-false (x == 61) _ _ other in
      let text : IsTokenText (take_while (is_word NetlistFile) (x ∷ xs)) = record { some = word_some x xs word; bytes = word_is (x ∷ xs) h } in
      inr (subst (λ (t : List ℕ). IsTokenText t) (sym is) text)
]

tokens_are : (number : ℕ) (inside : Bool) (column : ℕ) (xs : List ℕ) → list_any is_bad xs ≡ false → All IsCardToken (tokens_from NetlistFile number inside column xs)
unfolding tokens_from
tokens_are number inside column [] h = All-nil IsCardToken
tokens_are number inside column (x ∷ xs) h = elim (cases_Bool (begins_token NetlistFile inside x)) [
  | inl begins ↦
      let token : Token = record { text = token_text NetlistFile x xs; line = number; column = column } in
      rw begins (All-cons IsCardToken token (tokens_from NetlistFile number (is_word NetlistFile x) (column + 1) xs) (text_is inside x xs h begins) (tokens_are number (is_word NetlistFile x) (column + 1) xs (or_parts (is_bad x) (list_any is_bad xs) h).1))
  | inr other ↦ rw other (tokens_are number (is_word NetlistFile x) (column + 1) xs (or_parts (is_bad x) (list_any is_bad xs) h).1)
]

-- ## The tokens of a physical line

any-take : (p : ℕ → Bool) (n : ℕ) (xs : List ℕ) → list_any p xs ≡ false → list_any p (take n xs) ≡ false
any-take p zero xs h = refl
any-take p (suc n) [] h = refl
any-take p (suc n) (x ∷ xs) h = let parts = or_parts (p x) (list_any p xs) h in or_from (p x) (list_any p (take n xs)) parts.0 (any-take p n xs parts.1)

any-drop : (p : ℕ → Bool) (n : ℕ) (xs : List ℕ) → list_any p xs ≡ false → list_any p (drop n xs) ≡ false
any-drop p zero xs h = h
any-drop p (suc n) [] h = refl
any-drop p (suc n) (x ∷ xs) h = any-drop p n xs (or_parts (p x) (list_any p xs) h).1

kept_clean : (text : List ℕ) → list_any is_bad text ≡ false → list_any is_bad (cut NetlistFile text) ≡ false
unfolding cut
kept_clean text h = any-take is_bad (first_place (is_lone_dollar text) 0 (length text)) text h

-- by the bytes from the first on that is no blank
by_rest : (number : ℕ) (rest text : List ℕ) → list_any is_bad text ≡ false → All IsCardToken (tokens_of NetlistFile number (card_shape rest) text)
by_rest number [] text h = All-nil IsCardToken
by_rest number (x ∷ xs) text h = elim (cases_Bool (x == 42)) [
  | inl star ↦ elim (cases_Bool (begins_with_dot xs)) [
    | inl dot ↦ rw (star, dot) (tokens_are number false 1 text h)
    | inr other ↦ rw (star, other) (All-nil IsCardToken)
  ]
  | inr other ↦ elim (cases_Bool (x == 43)) [
    | inl plus ↦ rw (other, plus) (tokens_are number false (past_plus text + 1) (drop (past_plus text) text) (any-drop is_bad (past_plus text) text h))
    | inr card ↦ rw (other, card) (tokens_are number false 1 text h)
  ]
]

read_tokens : (number : ℕ) (line : List ℕ) → (read NetlistFile number line).bad ≡ false → HasCards (read NetlistFile number line)
unfolding read shape_of
read_tokens number line h = by_rest number (unindented (cut NetlistFile (text_of line))) (cut NetlistFile (text_of line)) (kept_clean (text_of line) h)

-- ## No physical line is bad

cause_bad : (upto : ℕ) (before : List (List ℕ)) (r : Read) → cause_at NetlistFile upto (opened NetlistFile before) r ≡ None → r.bad ≡ false
cause_bad upto before r h = elim (cases_Bool r.bad) [
  | inl bad ↦ elim (cases_Bool (nat_lt (file_limit NetlistFile) upto)) [
    | inl long ↦ let some : Some FileTooLong ≡ None = rw long at h in absurd cc
    | inr short ↦ let some : Some BadByte ≡ None = rw (short, bad) at h in absurd cc
  ]
  | inr good ↦ good
]

line_good : (before : List (List ℕ)) (line : List ℕ) → fault_after NetlistFile before line ≡ None → (read NetlistFile (length before + 1) line).bad ≡ false
unfolding fault_after fault_with
line_good before line h = go (cause_at NetlistFile upto (opened NetlistFile before) r) refl h
  where
    r : Read
    r = read NetlistFile (length before + 1) line

    upto : ℕ
    upto = length (joined before) + length line

    go : (o : Option Cause) → cause_at NetlistFile upto (opened NetlistFile before) r ≡ o → option_map (fault_on NetlistFile (length before + 1)) o ≡ None → r.bad ≡ false
    go None e k = cause_bad upto before r e
    go (Some cause) e k = absurd cc

reads_good : (number : ℕ) (before lines : List (List ℕ)) → number ≡ length before + 1 → first_fault NetlistFile before lines ≡ None → All HasCards (reads_from NetlistFile number lines)
unfolding first_fault
reads_good number before [] n h = All-nil HasCards
reads_good number before (line ∷ lines) n h = go (fault_after NetlistFile before line) refl (reads_good (number + 1) (before ++ line ∷ []) lines (ap (λ (m : ℕ). m + 1) (n ∙ sym (length_push before line))))
  where
    later : Option Fault
    later = first_fault NetlistFile (before ++ line ∷ []) lines

    go : (o : Option Fault) → fault_after NetlistFile before line ≡ o → (later ≡ None → All HasCards (reads_from NetlistFile (number + 1) lines)) → All HasCards (reads_from NetlistFile number (line ∷ lines))
    go None e rest =
        let good : (read NetlistFile number line).bad ≡ false = ap (λ (m : ℕ). (read NetlistFile m line).bad) n ∙ line_good before line e in
        All-cons HasCards (read NetlistFile number line) (reads_from NetlistFile (number + 1) lines) (read_tokens number line good) (rest (ap (λ (p : Option Fault). or_else p later) (sym e) ∙ h))
    go (Some f) e rest = let some : Some f ≡ None = ap (λ (p : Option Fault). or_else p later) (sym e) ∙ h in absurd cc

-- ## The logical lines

flat_tokens : (rs : List Read) → All HasCards rs → All IsCardToken (flat_map (λ (r : Read). r.tokens) rs)
flat_tokens [] h = All-nil IsCardToken
flat_tokens (r ∷ rs) h = All-append IsCardToken r.tokens (flat_map (λ (s : Read). s.tokens) rs) (All-head HasCards r rs h) (flat_tokens rs (All-tail HasCards r rs h))

own_cards : (rs : List Read) → All HasCards rs → All HasCards (own NetlistFile rs)
own_cards rs h = All-filter is_continuation HasCards (before_first is_start rs) (All-take HasCards (position_or_len is_start rs) rs h)

group_tokens : (r : Read) (rs : List Read) → HasCards r → All HasCards rs → HasCardTokens (line_of (group NetlistFile r rs))
group_tokens r rs h k = All-append IsCardToken r.tokens (flat_map (λ (s : Read). s.tokens) (own NetlistFile rs)) h (flat_tokens (own NetlistFile rs) (own_cards rs k))

group_lines : (rs : List Read) → All HasCards rs → All HasCardTokens (map line_of (groups NetlistFile rs))
unfolding groups
group_lines [] h = All-nil HasCardTokens
group_lines (r ∷ rs) h = elim (cases_Bool (is_start r)) [
  | inl start ↦ rw start (All-cons HasCardTokens (line_of (group NetlistFile r rs)) (map line_of (groups NetlistFile rs)) (group_tokens r rs (All-head HasCards r rs h) (All-tail HasCards r rs h)) (group_lines rs (All-tail HasCards r rs h)))
  | inr other ↦ rw other (group_lines rs (All-tail HasCards r rs h))
]

first_is : (bytes : List ℕ) → lexical NetlistFile bytes ≡ first_fault NetlistFile [] (physical bytes)
unfolding lexical
first_is bytes = refl

pub lines_read : (bytes : List ℕ) → lexical NetlistFile bytes ≡ None → All HasCardTokens (closed_at_end NetlistFile bytes)
lines_read bytes none =
    let P : List Line → Type 0 = λ ls. All HasCardTokens ls in
    subst P (sym (closed-is bytes none)) (group_lines (reads_from NetlistFile 1 (physical bytes)) (reads_good 1 [] (physical bytes) refl (sym (first_is bytes) ∙ none)))
