-- Where lines end in a stream that goes on.
use Rattle.std.proofs.Common.{◌≡◌, ℕ, ◌+◌, ◌<◌, List, [], ◌∷◌, ◌++◌, length, true, false, cond, refl, sym, ap, ◌∙◌, arith, inl, inr}
use Rattle.std.specs.List.{list_any}
use Rattle.std.proofs.lemmas.Bool.{cases_Bool, or_parts, or_right, eqb-true}
use Rattle.std.proofs.lemmas.List.{append_assoc, append-nil, length-append}
use Rattle.cvc_lex.specs.Bytes.{is_line_feed}
use Rattle.cvc_lex.specs.Physical.{onto_line, ended, open_rest, line_if_any, physical}
use Rattle.cvc_lex.specs.Lines.{joined}

-- no LF stands among the bytes
abbrev pub NoFeed : List ℕ → Type 0
NoFeed xs = list_any is_line_feed xs ≡ false

pub ended-cons : (x : ℕ) (xs : List ℕ) → ended (x ∷ xs) ≡ cond (is_line_feed x) ((x ∷ []) ∷ ended xs) (onto_line x (ended xs))
unfolding ended
ended-cons x xs = refl

pub ended-nil : ended [] ≡ []
unfolding ended
ended-nil = refl

pub rest-cons : (x : ℕ) (xs : List ℕ) → open_rest (x ∷ xs) ≡ cond (list_any is_line_feed (x ∷ xs)) (open_rest xs) (x ∷ xs)
unfolding open_rest
rest-cons x xs = refl

pub rest-nil : open_rest [] ≡ []
unfolding open_rest
rest-nil = refl

pub ended-none : (q : List ℕ) → NoFeed q → ended q ≡ []
ended-none [] h = ended-nil
ended-none (x ∷ xs) h =
    let parts = or_parts (is_line_feed x) (list_any is_line_feed xs) h in
    rw (ended-cons x xs, parts.0, ended-none xs parts.1) refl

pub rest-none : (q : List ℕ) → NoFeed q → open_rest q ≡ q
rest-none [] h = rest-nil
rest-none (x ∷ xs) h = rest-cons x xs ∙ rw h refl

pub ended-line : (q t : List ℕ) → NoFeed q → ended (q ++ 10 ∷ t) ≡ (q ++ 10 ∷ []) ∷ ended t
ended-line [] t h = ended-cons 10 t
ended-line (x ∷ xs) t h =
    let parts = or_parts (is_line_feed x) (list_any is_line_feed xs) h in
    rw (ended-cons x (xs ++ 10 ∷ t), parts.0, ended-line xs t parts.1) refl

has_feed : (q t : List ℕ) → list_any is_line_feed (q ++ 10 ∷ t) ≡ true
has_feed [] t = refl
has_feed (x ∷ xs) t = or_right (is_line_feed x) (list_any is_line_feed (xs ++ 10 ∷ t)) (has_feed xs t)

pub rest-line : (q t : List ℕ) → open_rest (q ++ 10 ∷ t) ≡ open_rest t
rest-line [] t = rest-cons 10 t
rest-line (x ∷ xs) t = rest-cons x (xs ++ 10 ∷ t) ∙ rw (has_feed (x ∷ xs) t) (rest-line xs t)

pub first_feed : (t : List ℕ) → list_any is_line_feed t ≡ true → (q : List ℕ) × (u : List ℕ) × (t ≡ q ++ 10 ∷ u) × NoFeed q
first_feed [] h = absurd cc
first_feed (x ∷ xs) h = elim (cases_Bool (is_line_feed x)) [
  | inl here ↦ ([], xs, ap (λ (y : ℕ). y ∷ xs) (eqb-true x 10 here), refl)
  | inr later ↦
      let rest = first_feed xs (rw later at h) in
      (x ∷ rest.0, rest.1, ap (λ (ys : List ℕ). x ∷ ys) rest.2, rw (later, rest.3) refl)
]

onto_some : (x : ℕ) (ls : List (List ℕ)) → 0 < length ls → 0 < length (onto_line x ls)
onto_some x [] h = h
onto_some x (l ∷ ls) h = omega arith

ended_some : (xs : List ℕ) → list_any is_line_feed xs ≡ true → 0 < length (ended xs)
ended_some [] h = absurd cc
ended_some (x ∷ xs) h = elim (cases_Bool (is_line_feed x)) [
  | inl here ↦ rw (ended-cons x xs, here) (omega arith)
  | inr later ↦ rw (ended-cons x xs, later) (onto_some x (ended xs) (ended_some xs (rw later at h)))
]

onto-append : (x : ℕ) (ls ms : List (List ℕ)) → 0 < length ls → onto_line x (ls ++ ms) ≡ onto_line x ls ++ ms
onto-append x [] ms h = absurd (omega arith)
onto-append x (l ∷ ls) ms h = refl

onto-joined : (x : ℕ) (ls : List (List ℕ)) → 0 < length ls → joined (onto_line x ls) ≡ x ∷ joined ls
onto-joined x [] h = absurd (omega arith)
onto-joined x (l ∷ ls) h = refl

-- what is said of a stream by its lines that have ended and the rest after them
record Cut (s t : List ℕ) : Type 0 where
  lines : ended (s ++ t) ≡ ended s ++ ended (open_rest s ++ t)
  rest : open_rest (s ++ t) ≡ open_rest (open_rest s ++ t)
  whole : joined (ended s) ++ open_rest s ≡ s
  no_feed : NoFeed (open_rest s)

any_left : (xs t : List ℕ) → list_any is_line_feed xs ≡ true → list_any is_line_feed (xs ++ t) ≡ true
any_left [] t h = absurd cc
any_left (x ∷ xs) t h = elim (cases_Bool (is_line_feed x)) [
  | inl here ↦ rw here refl
  | inr later ↦ rw later (any_left xs t (rw later at h))
]

cut_first : (x : ℕ) (xs t : List ℕ) → is_line_feed x ≡ true → Cut xs t → open_rest (x ∷ xs) ≡ open_rest xs → Cut (x ∷ xs) t
cut_first x xs t here c e = record {
  lines = rw (ended-cons x (xs ++ t), ended-cons x xs, here, e, c.lines) refl;
  rest = rest-cons x (xs ++ t) ∙ rw (here, e) c.rest;
  whole = rw (e, ended-cons x xs, here) (ap (λ (ys : List ℕ). x ∷ ys) c.whole);
  no_feed = rw e c.no_feed;
}

cut_later : (x : ℕ) (xs t : List ℕ) → is_line_feed x ≡ false → 0 < length (ended xs) → Cut xs t → open_rest (x ∷ xs) ≡ open_rest xs → list_any is_line_feed (xs ++ t) ≡ true → Cut (x ∷ xs) t
cut_later x xs t later some_line c e more = record {
  lines = rw (ended-cons x (xs ++ t), ended-cons x xs, later, e, c.lines) (onto-append x (ended xs) (ended (open_rest xs ++ t)) some_line);
  rest = rest-cons x (xs ++ t) ∙ rw (later, more, e) c.rest;
  whole = rw (e, ended-cons x xs, later, onto-joined x (ended xs) some_line) (ap (λ (ys : List ℕ). x ∷ ys) c.whole);
  no_feed = rw e c.no_feed;
}

cut_more : (x : ℕ) (xs t : List ℕ) → list_any is_line_feed (x ∷ xs) ≡ true → Cut xs t → Cut (x ∷ xs) t
cut_more x xs t h c =
    let e : open_rest (x ∷ xs) ≡ open_rest xs = rest-cons x xs ∙ rw h refl in
    elim (cases_Bool (is_line_feed x)) [
      | inl here ↦ cut_first x xs t here c e
      | inr later ↦ let some_feed : list_any is_line_feed xs ≡ true = rw later at h in cut_later x xs t later (ended_some xs some_feed) c e (any_left xs t some_feed)
    ]

cut_none : (s t : List ℕ) → NoFeed s → Cut s t
cut_none s t h = record {
  lines = rw (rest-none s h, ended-none s h) refl;
  rest = rw (rest-none s h) refl;
  whole = rw (rest-none s h, ended-none s h) refl;
  no_feed = rw (rest-none s h) h;
}

cut : (s t : List ℕ) → Cut s t
cut [] t = cut_none [] t refl
cut (x ∷ xs) t = elim (cases_Bool (list_any is_line_feed (x ∷ xs))) [
  | inl h ↦ cut_more x xs t h (cut xs t)
  | inr h ↦ cut_none (x ∷ xs) t h
]

pub ended-append : (s t : List ℕ) → ended (s ++ t) ≡ ended s ++ ended (open_rest s ++ t)
ended-append s t = (cut s t).lines

pub rest-append : (s t : List ℕ) → open_rest (s ++ t) ≡ open_rest (open_rest s ++ t)
rest-append s t = (cut s t).rest

pub stream_is : (s : List ℕ) → joined (ended s) ++ open_rest s ≡ s
stream_is s = (cut s []).whole

pub rest_no_feed : (s : List ℕ) → NoFeed (open_rest s)
rest_no_feed s = (cut s []).no_feed

pub length_stream : (s : List ℕ) → length (joined (ended s)) + length (open_rest s) ≡ length s
length_stream s = sym (length-append (joined (ended s)) (open_rest s)) ∙ ap length (stream_is s)

pub no_feed-append : (xs ys : List ℕ) → NoFeed xs → NoFeed ys → NoFeed (xs ++ ys)
no_feed-append [] ys h k = k
no_feed-append (x ∷ xs) ys h k =
    let parts = or_parts (is_line_feed x) (list_any is_line_feed xs) h in
    rw (parts.0, no_feed-append xs ys parts.1 k) refl

physical-is : (s : List ℕ) → physical s ≡ ended s ++ line_if_any (open_rest s)
unfolding physical
physical-is s = refl

pub physical_of : (s : List ℕ) → physical s ≡ ended s ++ line_if_any (open_rest s)
physical_of s = physical-is s

pub physical-append : (s t : List ℕ) → physical (s ++ t) ≡ ended s ++ physical (open_rest s ++ t)
physical-append s t = rw (physical-is (s ++ t), physical-is (open_rest s ++ t), ended-append s t, rest-append s t) (append_assoc (ended s) (ended (open_rest s ++ t)) (line_if_any (open_rest (open_rest s ++ t))))

-- a stream that goes on by less than the end of its line, and by the end of its line
pub ended-more : (s q : List ℕ) → NoFeed q → ended (s ++ q) ≡ ended s
ended-more s q h = ended-append s q ∙ rw (ended-none (open_rest s ++ q) (no_feed-append (open_rest s) q (rest_no_feed s) h)) (append-nil (ended s))

pub rest-more : (s q : List ℕ) → NoFeed q → open_rest (s ++ q) ≡ open_rest s ++ q
rest-more s q h = rest-append s q ∙ rest-none (open_rest s ++ q) (no_feed-append (open_rest s) q (rest_no_feed s) h)

pub ended-end : (s q : List ℕ) → NoFeed q → ended (s ++ (q ++ 10 ∷ [])) ≡ ended s ++ (open_rest s ++ (q ++ 10 ∷ [])) ∷ []
ended-end s q h = ended-append s (q ++ 10 ∷ []) ∙ rw (← append_assoc (open_rest s) q (10 ∷ []), ended-line (open_rest s ++ q) [] (no_feed-append (open_rest s) q (rest_no_feed s) h), ended-nil) refl

pub rest-end : (s q : List ℕ) → open_rest (s ++ (q ++ 10 ∷ [])) ≡ []
rest-end s q = rw (← append_assoc s q (10 ∷ [])) (rest-line (s ++ q) [] ∙ rest-nil)
