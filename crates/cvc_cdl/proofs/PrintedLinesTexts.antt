-- The bytes of a printed line: none is one that no text may have, its words are its tokens, and no `$` stands alone.
use Rattle.std.proofs.Common.{◌≡◌, ℕ, zero, suc, ◌+◌, ◌-◌, ◌<◌, ◌≤◌, List, [], ◌∷◌, ◌++◌, length, take, Bool, true, false, ◌&&◌, ◌||◌, codes, All, refl, sym, ap, ◌∙◌, arith, inl, inr, add-zero, zero-add}
use Rattle.std.specs.Prelude.{◌==◌, slice_index}
use Rattle.std.specs.List.{list_any, flat_map}
use Rattle.std.proofs.lemmas.Bool.{cases_eq, and_left, and_right, or_parts, or_from, not-false, ne_eqb, eq-eqb}
use Rattle.std.proofs.lemmas.List.{append_assoc, take_all}
use Rattle.std.proofs.lemmas.List.Elements.{All-head, All-tail}
use Rattle.std.proofs.lemmas.List.Folds.{list_any-append}
use Rattle.cvc_base.specs.declared.fault.FileKind.TheVariants.{Netlist as NetlistFile}
use Rattle.cvc_lex.specs.Bytes.{is_blank, is_bad, is_word}
use Rattle.cvc_lex.specs.Physical.{is_lone_dollar, first_place, cut}
use Rattle.cvc_cdl.specs.Pieces.{Piece, Word, Named, PrintedLine, piece_text, piece_tokens, printed_text, printed_tokens, is_outside, IsTokenText, IsReadable, IsReadableLine}
use Rattle.cvc_cdl.proofs.LineWords.{words, words-nil, is_no_word, word_parts, stops, word_first, blank_first, sign_first}

-- ## The bytes of a token's text

pub any_less : (p q : ℕ → Bool) → ((x : ℕ) → p x ≡ false → q x ≡ false) → (xs : List ℕ) → list_any p xs ≡ false → list_any q xs ≡ false
any_less p q less [] h = refl
any_less p q less (x ∷ xs) h = let parts = or_parts (p x) (list_any p xs) h in or_from (q x) (list_any q xs) (less x parts.0) (any_less p q less xs parts.1)

any_both : (p : ℕ → Bool) (xs ys : List ℕ) → list_any p xs ≡ false → list_any p ys ≡ false → list_any p (xs ++ ys) ≡ false
any_both p xs ys h k = list_any-append p xs ys ∙ or_from (list_any p xs) (list_any p ys) h k

pub clean : (text : List ℕ) → IsTokenText text → list_any is_bad text ≡ false
clean text h = any_less is_outside is_bad (λ x e. (or_parts (is_bad x) (is_no_word x) e).0) text h.bytes

pub wordy : (text : List ℕ) → IsTokenText text → list_any is_no_word text ≡ false
wordy text h = any_less is_outside is_no_word (λ x e. (or_parts (is_bad x) (is_no_word x) e).1) text h.bytes

pub solid : (text : List ℕ) → IsTokenText text → list_any is_blank text ≡ false
solid text h = any_less is_no_word is_blank (λ x e. (word_parts x (not-false (is_word NetlistFile x) e)).0) text (wordy text h)

-- ## No byte is bad

clean_piece : (p : Piece) → IsReadable p → list_any is_bad (piece_text p) ≡ false
clean_piece (Word w) h = clean w h.0
clean_piece (Named name value) h = any_both is_bad (name ++ codes "=") value (any_both is_bad name (codes "=") (clean name h.0) refl) (clean value h.1)

clean_pieces : (ps : List Piece) → All IsReadable ps → list_any is_bad (flat_map piece_text ps) ≡ false
clean_pieces [] h = refl
clean_pieces (p ∷ ps) h = any_both is_bad (piece_text p) (flat_map piece_text ps) (clean_piece p (All-head IsReadable p ps h)) (clean_pieces ps (All-tail IsReadable p ps h))

pub clean_line : (l : PrintedLine) → IsReadableLine l → list_any is_bad (printed_text l) ≡ false
clean_line l h = any_both is_bad l.first (flat_map piece_text l.pieces) (clean l.first h.first) (clean_pieces l.pieces h.pieces)

-- ## The tokens

pieces_stop : (ps : List Piece) → stops (flat_map piece_text ps) ≡ true
pieces_stop [] = refl
pieces_stop (Word w ∷ ps) = refl
pieces_stop (Named name value ∷ ps) = refl

words_of_piece : (p : Piece) (rest : List ℕ) → IsReadable p → stops rest ≡ true → words false (piece_text p ++ rest) ≡ piece_tokens p ++ words false rest
words_of_piece (Word w) rest h s = blank_first (w ++ rest) ∙ word_first w rest h.0.some (wordy w h.0) s
words_of_piece (Named name value) rest h s =
    let apart : ((name ++ codes "=") ++ value) ++ rest ≡ name ++ 61 ∷ (value ++ rest) = simp append_assoc in
    blank_first (36 ∷ (((name ++ codes "=") ++ value) ++ rest))
    ∙ ap (λ (bs : List ℕ). words false (36 ∷ bs)) apart
    ∙ word_first (36 ∷ name) (61 ∷ (value ++ rest)) (omega arith) (wordy name h.0) refl
    ∙ ap (λ (ts : List (List ℕ)). (36 ∷ name) ∷ ts) (sign_first (value ++ rest) ∙ ap (λ (ts : List (List ℕ)). codes "=" ∷ ts) (word_first value rest h.1.some (wordy value h.1) s))

words_of_pieces : (ps : List Piece) → All IsReadable ps → words false (flat_map piece_text ps) ≡ flat_map piece_tokens ps
words_of_pieces [] h = words-nil
words_of_pieces (p ∷ ps) h =
    words_of_piece p (flat_map piece_text ps) (All-head IsReadable p ps h) (pieces_stop ps)
    ∙ ap (λ (ts : List (List ℕ)). piece_tokens p ++ ts) (words_of_pieces ps (All-tail IsReadable p ps h))

pub words_of_line : (l : PrintedLine) → IsReadableLine l → words false (printed_text l) ≡ printed_tokens l
words_of_line l h =
    word_first l.first (flat_map piece_text l.pieces) h.first.some (wordy l.first h.first) (pieces_stop l.pieces)
    ∙ ap (λ (ts : List (List ℕ)). l.first ∷ ts) (words_of_pieces l.pieces h.pieces)

-- ## No `$` stands alone

-- nothing, or a blank, comes next
abbrev ends : List ℕ → Bool
ends [] = true
ends (x ∷ xs) = is_blank x

-- some `$` stands alone; `apart` says whether nothing or a blank stands before the bytes
lone : Bool → List ℕ → Bool
lone apart [] = false
lone apart (x ∷ xs) = (x == 36) && apart && ends xs || lone (is_blank x) xs

lone-nil : (apart : Bool) → lone apart [] ≡ false
unfolding lone
lone-nil apart = refl

lone-cons : (apart : Bool) (x : ℕ) (xs : List ℕ) → lone apart (x ∷ xs) ≡ ((x == 36) && apart && ends xs || lone (is_blank x) xs)
unfolding lone
lone-cons apart x xs = refl

lone_later : (w rest : List ℕ) → list_any is_blank w ≡ false → lone false (w ++ rest) ≡ lone false rest
lone_later [] rest h = refl
lone_later (x ∷ w) rest h =
    let parts = or_parts (is_blank x) (list_any is_blank w) h in
    let inner : ((x == 36) && false && ends (w ++ rest)) ≡ false = and_left ((x == 36) && false) (ends (w ++ rest)) (and_right (x == 36) false refl) in
    lone-cons false x (w ++ rest) ∙ rw (inner, parts.0) (lone_later w rest parts.1)

not_alone : (x : ℕ) (w rest : List ℕ) → list_any is_blank w ≡ false → (x ∷ w ≡ codes "$" → ⊥) → ((x == 36) && true && ends (w ++ rest)) ≡ false
not_alone x [] rest h other = and_left ((x == 36) && true) (ends rest) (and_left (x == 36) true (ne_eqb x 36 (λ e. other (ap (λ (y : ℕ). y ∷ []) e))))
not_alone x (y ∷ w) rest h other = and_right ((x == 36) && true) (is_blank y) (or_parts (is_blank y) (list_any is_blank w) h).0

lone_first : (x : ℕ) (w rest : List ℕ) → list_any is_blank (x ∷ w) ≡ false → (x ∷ w ≡ codes "$" → ⊥) → lone true (x ∷ (w ++ rest)) ≡ lone false rest
lone_first x w rest h other =
    let parts = or_parts (is_blank x) (list_any is_blank w) h in
    lone-cons true x (w ++ rest) ∙ rw (not_alone x w rest parts.1 other, parts.0) (lone_later w rest parts.1)

lone_piece : (p : Piece) (rest : List ℕ) → IsReadable p → lone false (piece_text p ++ rest) ≡ lone false rest
lone_piece (Word []) rest h = absurd (omega (arith, h.0.some))
lone_piece (Word (x ∷ w)) rest h = lone-cons false 32 (x ∷ (w ++ rest)) ∙ lone_first x w rest (solid (x ∷ w) h.0) h.1
lone_piece (Named [] value) rest h = absurd (omega (arith, h.0.some))
lone_piece (Named (x ∷ name) value) rest h =
    let tail : List ℕ = ((x ∷ name) ++ codes "=") ++ value in
    let blank : list_any is_blank tail ≡ false = any_both is_blank ((x ∷ name) ++ codes "=") value (any_both is_blank (x ∷ name) (codes "=") (solid (x ∷ name) h.0) refl) (solid value h.1) in
    lone-cons false 32 (36 ∷ (tail ++ rest)) ∙ lone_first 36 tail rest blank (λ e. cc)

lone_pieces : (ps : List Piece) → All IsReadable ps → lone false (flat_map piece_text ps) ≡ false
lone_pieces [] h = lone-nil false
lone_pieces (p ∷ ps) h = lone_piece p (flat_map piece_text ps) (All-head IsReadable p ps h) ∙ lone_pieces ps (All-tail IsReadable p ps h)

lone_line : (first : List ℕ) (ps : List Piece) → IsTokenText first → (first ≡ codes "$" → ⊥) → All IsReadable ps → lone true (first ++ flat_map piece_text ps) ≡ false
lone_line [] ps h other k = absurd (omega (arith, h.some))
lone_line (x ∷ w) ps h other k = lone_first x w (flat_map piece_text ps) (solid (x ∷ w) h) other ∙ lone_pieces ps k

-- by places
abbrev next_ends : List ℕ → ℕ → Bool
next_ends text k = (k + 1 == length text) || is_blank (slice_index text (k + 1))

abbrev lone_at : Bool → List ℕ → ℕ → Bool
lone_at apart text zero = (slice_index text 0 == 36) && apart && next_ends text 0
lone_at apart text (suc j) = (slice_index text (suc j) == 36) && is_blank (slice_index text j) && next_ends text (suc j)

same_test : (a b : ℕ) → (suc a == suc b) ≡ (a == b)
same_test a b = elim (cases_eq a b) [
  | inl h ↦ eq-eqb (suc a) (suc b) (ap suc h) ∙ sym (eq-eqb a b h)
  | inr h ↦ ne_eqb (suc a) (suc b) (λ e. h (omega arith)) ∙ sym (ne_eqb a b h)
]

next_ends-cons : (x : ℕ) (xs : List ℕ) (k : ℕ) → next_ends (x ∷ xs) (suc k) ≡ next_ends xs k
next_ends-cons x xs k = let e : suc k + 1 ≡ suc (k + 1) = omega arith in rw (e, same_test (k + 1) (length xs)) refl

first_ends : (x : ℕ) (xs : List ℕ) → next_ends (x ∷ xs) 0 ≡ ends xs
first_ends x [] = refl
first_ends x (y ∷ ys) = let more : (1 == length (x ∷ y ∷ ys)) ≡ false = ne_eqb 1 (length (x ∷ y ∷ ys)) (λ e. absurd (omega arith)) in rw more refl

none_alone : (apart : Bool) (text : List ℕ) (k : ℕ) → lone apart text ≡ false → k < length text → lone_at apart text k ≡ false
none_alone apart [] k h lt = absurd (omega arith)
none_alone apart (x ∷ xs) zero h lt = rw (first_ends x xs) (or_parts ((x == 36) && apart && ends xs) (lone (is_blank x) xs) (sym (lone-cons apart x xs) ∙ h)).0
none_alone apart (x ∷ xs) (suc zero) h lt =
    let rest = (or_parts ((x == 36) && apart && ends xs) (lone (is_blank x) xs) (sym (lone-cons apart x xs) ∙ h)).1 in
    rw (next_ends-cons x xs 0) (none_alone (is_blank x) xs zero rest (omega arith))
none_alone apart (x ∷ xs) (suc (suc j)) h lt =
    let rest = (or_parts ((x == 36) && apart && ends xs) (lone (is_blank x) xs) (sym (lone-cons apart x xs) ∙ h)).1 in
    rw (next_ends-cons x xs (suc j)) (none_alone (is_blank x) xs (suc j) rest (omega arith))

no_lone_dollar : (text : List ℕ) (k : ℕ) → lone true text ≡ false → k < length text → is_lone_dollar text k ≡ false
no_lone_dollar text zero h lt = none_alone true text zero h lt
no_lone_dollar text (suc j) h lt =
    let later : (suc j == 0) ≡ false = ne_eqb (suc j) 0 (λ e. absurd (omega arith)) in
    let before : suc j - 1 ≡ j = omega arith in
    rw (later, before) (none_alone true text (suc j) h lt)

no_place : (test : ℕ → Bool) (i n : ℕ) → ((k : ℕ) → i ≤ k → k < i + n → test k ≡ false) → first_place test i n ≡ i + n
no_place test i zero h = sym (add-zero i)
no_place test i (suc n) h =
    let here : test i ≡ false = h i (omega arith) (omega arith) in
    let e : i + 1 + n ≡ i + suc n = omega arith in
    rw here (no_place test (i + 1) n (λ k le lt. h k (omega arith) (omega arith)) ∙ e)

uncut : (text : List ℕ) → lone true text ≡ false → cut NetlistFile text ≡ text
unfolding cut
uncut text h =
    let place : first_place (is_lone_dollar text) 0 (length text) ≡ length text = no_place (is_lone_dollar text) 0 (length text) (λ k le lt. no_lone_dollar text k h (omega arith)) ∙ zero-add (length text) in
    ap (λ (n : ℕ). take n text) place ∙ take_all (length text) text (omega arith)

pub uncut_line : (l : PrintedLine) → IsReadableLine l → cut NetlistFile (printed_text l) ≡ printed_text l
uncut_line l h = uncut (printed_text l) (lone_line l.first l.pieces h.first h.alone h.pieces)
