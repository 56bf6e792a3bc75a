-- A printed line as it is read.
use Rattle.std.proofs.Common.{◌≡◌, ℕ, zero, suc, ◌-◌, List, [], ◌∷◌, ◌++◌, length, map, get_or, Bool, true, false, ◌||◌, refl, sym, ap, subst, ◌∙◌, arith, inl, inr}
use Rattle.std.specs.Prelude.{◌==◌, slice_index}
use Rattle.std.specs.List.{list_any, flat_map}
use Rattle.std.proofs.lemmas.Bool.{cases_Bool, both_ways, or_parts, eqb-true, cond-false}
use Rattle.std.proofs.lemmas.List.{take_at, get_or_push, length_push}
use Rattle.cvc_base.specs.declared.fault.FileKind.TheVariants.{Netlist as NetlistFile}
use Rattle.cvc_lex.specs.Bytes.{is_blank, is_bad, is_line_feed}
use Rattle.cvc_lex.specs.Physical.{without_last, text_of, shape_of, tokens_of, tokens_from, Read, read, read_text}
use Rattle.cvc_lex.specs.Lines.{starts, continues, is_directive, is_start, is_continuation}
use Rattle.cvc_cdl.specs.Pieces.{PrintedLine, piece_text, printed_text, whole_line, printed_tokens, begins_directive, Begins, IsReadableLine, text_of_token}
use Rattle.cvc_cdl.proofs.LineWords.{words-are}
use Rattle.cvc_cdl.proofs.PrintedLinesTexts.{any_less, clean_line, solid, words_of_line, uncut_line}

-- ## The line's text

not_bad : (b x : ℕ) → is_bad b ≡ true → is_bad x ≡ false → (x == b) ≡ false
not_bad b x bad h = elim (cases_Bool (x == b)) [
  | inl e ↦ absurd (both_ways (is_bad x) h (ap is_bad (eqb-true x b e) ∙ bad))
  | inr e ↦ e
]

-- no line ends within the line
pub no_feed : (text : List ℕ) → list_any is_bad text ≡ false → list_any is_line_feed text ≡ false
no_feed text h = any_less is_bad is_line_feed (λ x e. not_bad 10 x refl e) text h

no_return : (text : List ℕ) (i : ℕ) → list_any is_bad text ≡ false → (slice_index text i == 13) ≡ false
no_return [] i h = refl
no_return (x ∷ xs) zero h = not_bad 13 x refl (or_parts (is_bad x) (list_any is_bad xs) h).0
no_return (x ∷ xs) (suc i) h = no_return xs i (or_parts (is_bad x) (list_any is_bad xs) h).1

without_feed : (text : List ℕ) → without_last 10 (text ++ 10 ∷ []) ≡ text
without_feed text =
    let last : length (text ++ 10 ∷ []) - 1 ≡ length text = omega (arith, length_push text 10) in
    let feed : get_or (text ++ 10 ∷ []) (length text) 0 ≡ 10 = get_or_push text 10 0 (length text) refl in
    rw (last, feed) (take_at text (10 ∷ []) (length text) refl)

text_of_line : (text : List ℕ) → list_any is_bad text ≡ false → text_of (text ++ 10 ∷ []) ≡ text
unfolding text_of
text_of_line text h = ap (without_last 13) (without_feed text) ∙ cond-false (slice_index text (length text - 1) == 13) _ _ (no_return text (length text - 1) h)

read_is : (number : ℕ) (l : PrintedLine) → IsReadableLine l → read NetlistFile number (whole_line l) ≡ read_text NetlistFile number (printed_text l) (printed_text l)
unfolding read
read_is number l h = rw (text_of_line (printed_text l) (clean_line l h), uncut_line l h) refl

-- ## Its shape

-- it starts a directive or a card, and its tokens are those of all its bytes
record IsStart (directive : Bool) (text : List ℕ) : Type 0 where
  start : starts (shape_of NetlistFile text) ≡ true
  other : continues (shape_of NetlistFile text) ≡ false
  is : is_directive (shape_of NetlistFile text) ≡ directive
  tokens : (number : ℕ) → tokens_of NetlistFile number (shape_of NetlistFile text) text ≡ tokens_from NetlistFile number false 1 text

starts_card : (x : ℕ) (xs : List ℕ) → is_blank x ≡ false → ((x == 42) || (x == 43)) ≡ false → IsStart false (x ∷ xs)
unfolding shape_of
starts_card x xs h b =
    let parts = or_parts (x == 42) (x == 43) b in
    record {
      start = rw (h, parts.0, parts.1) refl;
      other = rw (h, parts.0, parts.1) refl;
      is = rw (h, parts.0, parts.1) refl;
      tokens = λ number. rw (h, parts.0, parts.1) refl;
    }

starts_directive : (xs : List ℕ) → IsStart true (42 ∷ 46 ∷ xs)
unfolding shape_of
starts_directive xs = record { start = refl; other = refl; is = refl; tokens = λ number. refl }

starts_by : (first rest : List ℕ) → Begins first → list_any is_blank first ≡ false → IsStart (begins_directive first) (first ++ rest)
starts_by [] rest b h = absurd b
starts_by (x ∷ []) rest b h = starts_card x rest (or_parts (is_blank x) false h).0 b
starts_by (x ∷ y ∷ ys) rest (inl b) h =
    let P : Bool → Type 0 = λ d. IsStart d (x ∷ y ∷ (ys ++ rest)) in
    subst P (sym (or_parts (x == 42) (x == 43) b).0) (starts_card x (y ∷ (ys ++ rest)) (or_parts (is_blank x) (list_any is_blank (y ∷ ys)) h).0 b)
starts_by (x ∷ y ∷ ys) rest (inr b) h = rw (b.0, b.1) (starts_directive (ys ++ rest))

-- ## The line as it is read

pub record IsReadAs (n : ℕ) (l : PrintedLine) (r : Read) : Type 0 where
  pub number : r.number ≡ n
  pub bad : r.bad ≡ false
  pub start : is_start r ≡ true
  pub other : is_continuation r ≡ false
  pub directive : is_directive r.shape ≡ begins_directive l.first
  pub tokens : map text_of_token r.tokens ≡ printed_tokens l

pub read_printed : (number : ℕ) (l : PrintedLine) → IsReadableLine l → IsReadAs number l (read NetlistFile number (whole_line l))
read_printed number l h =
    let P : Read → Type 0 = λ r. IsReadAs number l r in
    subst P (sym (read_is number l h)) (record {
      number = refl;
      bad = clean_line l h;
      start = shape.start;
      other = shape.other;
      directive = shape.is;
      tokens = ap (map text_of_token) (shape.tokens number) ∙ words-are number false 1 (printed_text l) ∙ words_of_line l h;
    })
  where
    shape : IsStart (begins_directive l.first) (printed_text l)
    shape = starts_by l.first (flat_map piece_text l.pieces) h.begins (solid l.first h.first)
