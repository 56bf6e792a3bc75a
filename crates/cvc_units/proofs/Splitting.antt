-- `split_of` finds exactly the split of a text.
use Rattle.std.proofs.Common.{◌≡◌, ℕ, ◌<◌, Bool, true, false, cond, IsTrue, List, [], ◌∷◌, ◌++◌, length, refl, ap, ◌∙◌, subst, arith, ◌&&◌, append_assoc, Some, None, length-append}
use Rattle.std.specs.Char.{is_ascii_digit, is_ascii_alphabetic}
use Rattle.std.proofs.lemmas.Bool.{and_parts, lt-ltb, and_from}
use Rattle.cvc_units.specs.Split.{Exponent, Split, IsSign, IsMark, IsDecimal, IsExponent, IsSplit, are_digits, are_letters, sign_at, point_at, mark_at, digits_at, after, is_any, text_of, exponent_text, exponent_at, exponent_if_any, split_of, split_if_number}
use Rattle.cvc_units.specs.Split.{no_sign, plus, minus, without_point, with_point, small_e, capital_e, no_exponent, an_exponent}
use Rattle.cvc_units.proofs.Fronts.{begins, is_sign, is_point, is_mark, no_byte, no_digits, all_digits_at, after_front}

-- ---- the pieces by name

abbrev pub found_exponent : List ℕ → Exponent
found_exponent text =
    let mark = mark_at text in
    let sign = sign_at (after mark text) in
    record { mark = mark; sign = sign; digits = digits_at (after sign (after mark text)) }

pub exponent_is : (text : List ℕ) → exponent_at text ≡ exponent_if_any (found_exponent text)
unfolding exponent_at
exponent_is text = refl

abbrev pub found : List ℕ → Split
found text =
    let unsigned = after (sign_at text) text in
    let digits = digits_at unsigned in
    let at_point = after digits unsigned in
    let at_fraction = after (point_at at_point) at_point in
    let fraction = digits_at at_fraction in
    let at_exponent = after fraction at_fraction in
    record {
      sign = sign_at text;
      digits = digits;
      point = point_at at_point;
      fraction = fraction;
      exponent = exponent_at at_exponent;
      letters = after (exponent_text (exponent_at at_exponent)) at_exponent;
    }

pub split_is : (text : List ℕ) → split_of text ≡ split_if_number (found text)
unfolding split_of
split_is text = refl

-- ---- what a byte of one kind is not

letter_is_no_digit : (c : ℕ) → is_ascii_alphabetic c ≡ true → is_ascii_digit c ≡ false
letter_is_no_digit c e = grind arith

letter_is_no_sign : (c : ℕ) → is_ascii_alphabetic c ≡ true → is_sign c ≡ false
letter_is_no_sign c e = grind arith

letter_is_no_point : (c : ℕ) → is_ascii_alphabetic c ≡ true → is_point c ≡ false
letter_is_no_point c e = grind arith

digit_is_no_sign : (c : ℕ) → is_ascii_digit c ≡ true → is_sign c ≡ false
digit_is_no_sign c e = grind arith

-- ---- what letters do not begin with

letters_begin : (other : ℕ → Bool) (text : List ℕ) → ((c : ℕ) → is_ascii_alphabetic c ≡ true → other c ≡ false) → IsTrue (are_letters text) → begins other text ≡ false
letters_begin other [] others h = refl
letters_begin other (c ∷ cs) others h = others c (and_parts (is_ascii_alphabetic c) (are_letters cs) h).0

digits_begin : (other : ℕ → Bool) (ds rest : List ℕ) → ((c : ℕ) → is_ascii_digit c ≡ true → other c ≡ false) → 0 < length ds → IsTrue (are_digits ds) → begins other (ds ++ rest) ≡ false
digits_begin other [] rest others pos h = absurd (omega arith)
digits_begin other (c ∷ cs) rest others pos h = others c (and_parts (is_ascii_digit c) (are_digits cs) h).0

any_is : (text : List ℕ) → 0 < length text → is_any text ≡ true
any_is text h = lt-ltb 0 (length text) h

-- ---- the exponent of a text that has one

-- letters hold no exponent
letters_have_none : (letters : List ℕ) → IsTrue (are_letters letters) → exponent_at letters ≡ record { mark = []; sign = []; digits = [] }
letters_have_none [] h = exponent_is []
letters_have_none (c ∷ cs) h =
    let rest = (and_parts (is_ascii_alphabetic c) (are_letters cs) h).1 in
    exponent_is (c ∷ cs) ∙ by_mark (is_mark c) refl (no_byte is_sign cs (letters_begin is_sign cs letter_is_no_sign rest)) (no_digits cs (letters_begin is_ascii_digit cs letter_is_no_digit rest))
  where
    by_mark : (b : Bool) → is_mark c ≡ b → sign_at cs ≡ [] → digits_at cs ≡ [] → exponent_if_any (found_exponent (c ∷ cs)) ≡ record { mark = []; sign = []; digits = [] }
    by_mark true e signs none = rw (e, signs, none) refl
    by_mark false e signs none = rw e refl

-- what begins with a sign that is there, or with no sign
sign_found : {sign : List ℕ} (rest : List ℕ) → IsSign sign → begins is_sign rest ≡ false → sign_at (sign ++ rest) ≡ sign
sign_found rest no_sign e = no_byte is_sign rest e
sign_found rest plus e = refl
sign_found rest minus e = refl

mark_found : {mark : List ℕ} (rest : List ℕ) → IsMark mark → mark_at (mark ++ rest) ≡ mark
mark_found rest small_e = refl
mark_found rest capital_e = refl

mark_is_any : {mark : List ℕ} → IsMark mark → is_any mark ≡ true
mark_is_any small_e = refl
mark_is_any capital_e = refl

exponent_present : (mark sign digits letters : List ℕ) → IsMark mark → IsSign sign → 0 < length digits → IsTrue (are_digits digits) → IsTrue (are_letters letters) →
    exponent_at ((mark ++ (sign ++ digits)) ++ letters) ≡ record { mark = mark; sign = sign; digits = digits }
exponent_present mark sign digits letters hm hs pos hd hl =
    let regroup : (mark ++ (sign ++ digits)) ++ letters ≡ mark ++ (sign ++ (digits ++ letters)) = simp append_assoc in
    let m = mark_found (sign ++ (digits ++ letters)) hm in
    let a = after_front mark (sign ++ (digits ++ letters)) in
    let s = sign_found (digits ++ letters) hs (digits_begin is_sign digits letters digit_is_no_sign pos hd) in
    let b = after_front sign (digits ++ letters) in
    let d = all_digits_at digits letters hd (letters_begin is_ascii_digit letters letter_is_no_digit hl) in
    let text = mark ++ (sign ++ (digits ++ letters)) in
    let sign_is : sign_at (after (mark_at text) text) ≡ sign = ap (λ f. sign_at (after f text)) m ∙ ap sign_at a ∙ s in
    let rest_is : after (sign_at (after (mark_at text) text)) (after (mark_at text) text) ≡ digits ++ letters =
    ap (λ f. after f (after (mark_at text) text)) sign_is ∙ ap (λ f. after sign (after f text)) m ∙ ap (λ t. after sign t) a ∙ b in
    let digits_is : digits_at (after (sign_at (after (mark_at text) text)) (after (mark_at text) text)) ≡ digits = ap digits_at rest_is ∙ d in
    let whole : found_exponent text ≡ record { mark = mark; sign = sign; digits = digits } = same_exponent m sign_is digits_is in
    let both : (is_any mark && is_any digits) ≡ true = and_from _ _ (mark_is_any hm) (any_is digits pos) in
    ap exponent_at regroup ∙ exponent_is text ∙ ap exponent_if_any whole ∙ ap (λ t. cond t (record { mark = mark; sign = sign; digits = digits }) (record { mark = []; sign = []; digits = [] })) both
  where
    same_exponent : {m n s t d e : List ℕ} → m ≡ n → s ≡ t → d ≡ e → ◌≡◌ {A = Exponent} (record { mark = m; sign = s; digits = d }) (record { mark = n; sign = t; digits = e })
    same_exponent a b c = λ i. record { mark = a i; sign = b i; digits = c i }

exponent_found : (e : Exponent) (letters : List ℕ) → IsExponent e.mark e.sign e.digits → IsTrue (are_digits e.digits) → IsTrue (are_letters letters) → exponent_at (exponent_text e ++ letters) ≡ e
exponent_found e letters h hd hl = by_rule e.mark e.sign e.digits h hd
  where
    by_rule : (mark sign digits : List ℕ) → IsExponent mark sign digits → IsTrue (are_digits digits) → exponent_at ((mark ++ (sign ++ digits)) ++ letters) ≡ record { mark = mark; sign = sign; digits = digits }
    by_rule mark sign digits no_exponent hd = letters_have_none letters hl
    by_rule mark sign digits (an_exponent hm hs pos) hd = exponent_present mark sign digits letters hm hs pos hd hl

-- ---- what is found is the split

mark_is_no_digit : (c : ℕ) → is_mark c ≡ true → is_ascii_digit c ≡ false
mark_is_no_digit c e = grind arith

mark_is_no_point : (c : ℕ) → is_mark c ≡ true → is_point c ≡ false
mark_is_no_point c e = grind arith

mark_is_no_sign : (c : ℕ) → is_mark c ≡ true → is_sign c ≡ false
mark_is_no_sign c e = grind arith

-- an exponent and letters begin with a letter, if with anything
tail_begins : (other : ℕ → Bool) (mark sign digits letters : List ℕ) → ((c : ℕ) → is_ascii_alphabetic c ≡ true → other c ≡ false) → IsExponent mark sign digits → IsTrue (are_letters letters) →
    begins other ((mark ++ (sign ++ digits)) ++ letters) ≡ false
tail_begins other mark sign digits letters others no_exponent hl = letters_begin other letters others hl
tail_begins other mark sign digits letters others (an_exponent small_e hs pos) hl = others 101 refl
tail_begins other mark sign digits letters others (an_exponent capital_e hs pos) hl = others 69 refl

-- a decimal begins with a digit or a point
decimal_begins : (digits point fraction rest : List ℕ) → IsDecimal digits point fraction → IsTrue (are_digits digits) → begins is_sign (digits ++ (point ++ rest)) ≡ false
decimal_begins [] point fraction rest (without_point pos) hd = absurd (omega arith)
decimal_begins [] point fraction rest (with_point pos) hd = refl
decimal_begins (c ∷ cs) point fraction rest h hd = digits_begin is_sign (c ∷ cs) (point ++ rest) digit_is_no_sign (omega arith) hd

-- a point is found where there is one
point_found : (digits point fraction tail : List ℕ) → IsDecimal digits point fraction → begins is_point tail ≡ false → point_at (point ++ (fraction ++ tail)) ≡ point
point_found digits point fraction tail (without_point pos) e = no_byte is_point tail e
point_found digits point fraction tail (with_point pos) e = refl

-- and no digit follows the digits before it
point_begins : (digits point fraction tail : List ℕ) → IsDecimal digits point fraction → begins is_ascii_digit tail ≡ false → begins is_ascii_digit (point ++ (fraction ++ tail)) ≡ false
point_begins digits point fraction tail (without_point pos) e = e
point_begins digits point fraction tail (with_point pos) e = refl

decimal_is_any : (digits point fraction : List ℕ) → IsDecimal digits point fraction → is_any (digits ++ fraction) ≡ true
decimal_is_any digits point fraction (without_point pos) = any_is (digits ++ []) (omega (arith, length-append digits []))
decimal_is_any digits point fraction (with_point pos) = any_is (digits ++ fraction) (omega (arith, length-append digits fraction))

same_split : {s t d e p q f g l m : List ℕ} {x y : Exponent} → s ≡ t → d ≡ e → p ≡ q → f ≡ g → x ≡ y → l ≡ m →
    ◌≡◌ {A = Split} (record { sign = s; digits = d; point = p; fraction = f; exponent = x; letters = l }) (record { sign = t; digits = e; point = q; fraction = g; exponent = y; letters = m })
same_split a b c d e f = λ i. record { sign = a i; digits = b i; point = c i; fraction = d i; exponent = e i; letters = f i }

-- each piece is found at the front of what is left
found_from : (text sign unsigned digits at_point point at_fraction fraction at_exponent letters : List ℕ) (exponent : Exponent) →
    sign_at text ≡ sign → after sign text ≡ unsigned →
    digits_at unsigned ≡ digits → after digits unsigned ≡ at_point →
    point_at at_point ≡ point → after point at_point ≡ at_fraction →
    digits_at at_fraction ≡ fraction → after fraction at_fraction ≡ at_exponent →
    exponent_at at_exponent ≡ exponent → after (exponent_text exponent) at_exponent ≡ letters →
    found text ≡ record { sign = sign; digits = digits; point = point; fraction = fraction; exponent = exponent; letters = letters }
found_from text sign unsigned digits at_point point at_fraction fraction at_exponent letters exponent s s' d d' p p' f f' e e' =
    let u = ap (λ x. after x text) s ∙ s' in
    let du = ap digits_at u ∙ d in
    let a = ap (λ x. after x (after (sign_at text) text)) du ∙ ap (λ x. after digits x) u ∙ d' in
    let pa = ap point_at a ∙ p in
    let b = ap (λ x. after (point_at x) x) a ∙ ap (λ x. after x at_point) p ∙ p' in
    let fb = ap digits_at b ∙ f in
    let c = ap (λ x. after (digits_at x) x) b ∙ ap (λ x. after x at_fraction) f ∙ f' in
    let ec = ap exponent_at c ∙ e in
    let l = ap (λ x. after (exponent_text (exponent_at x)) x) c ∙ ap (λ x. after (exponent_text x) at_exponent) e ∙ e' in
    same_split s du pa fb ec l

found_is : (p : Split) → IsSplit (text_of p) p → found (text_of p) ≡ p
found_is p h =
    let tail = exponent_text p.exponent ++ p.letters in
    let at_fraction = p.fraction ++ tail in
    let at_point = p.point ++ at_fraction in
    let unsigned = p.digits ++ at_point in
    found_from (text_of p) p.sign unsigned p.digits at_point p.point at_fraction p.fraction tail p.letters p.exponent
    (sign_found unsigned h.sign (decimal_begins p.digits p.point p.fraction at_fraction h.decimal h.digits))
    (after_front p.sign unsigned)
    (all_digits_at p.digits at_point h.digits (point_begins p.digits p.point p.fraction tail h.decimal (tail_begins is_ascii_digit p.exponent.mark p.exponent.sign p.exponent.digits p.letters letter_is_no_digit h.exponent h.letters)))
    (after_front p.digits at_point)
    (point_found p.digits p.point p.fraction tail h.decimal (tail_begins is_point p.exponent.mark p.exponent.sign p.exponent.digits p.letters letter_is_no_point h.exponent h.letters))
    (after_front p.point at_fraction)
    (all_digits_at p.fraction tail h.fraction (tail_begins is_ascii_digit p.exponent.mark p.exponent.sign p.exponent.digits p.letters letter_is_no_digit h.exponent h.letters))
    (after_front p.fraction tail)
    (exponent_found p.exponent p.letters h.exponent h.exponent_digits h.letters)
    (after_front (exponent_text p.exponent) p.letters)

split_found : (p : Split) → IsSplit (text_of p) p → split_of (text_of p) ≡ Some p
split_found p h =
    let both : (is_any (p.digits ++ p.fraction) && are_letters p.letters) ≡ true = and_from _ _ (decimal_is_any p.digits p.point p.fraction h.decimal) h.letters in
    split_is (text_of p) ∙ ap split_if_number (found_is p h) ∙ ap (λ b. cond b (Some p) None) both

-- a split of the text is found
pub finds : (text : List ℕ) (p : Split) → IsSplit text p → split_of text ≡ Some p
finds text p h = ap split_of h.whole ∙ split_found p (subst (λ t. IsSplit t p) h.whole h)
