-- How many logical lines a file has.
use Rattle.std.proofs.Common.{◌≡◌, ℕ, ◌+◌, ◌≤◌, List, [], ◌∷◌, length, None, refl, sym, ap, ◌∙◌, arith, inl, inr}
use Rattle.std.specs.List.{list_any}
use Rattle.std.proofs.lemmas.Bool.{cases_Bool}
use Rattle.std.proofs.lemmas.List.{append-nil, length-append, length-map}
use Rattle.std.proofs.lemmas.List.Concat.{flat_map-append}
use Rattle.cvc_base.specs.declared.fault.FileKind.{FileKind}
use Rattle.cvc_lex.specs.Bytes.{is_line_feed, file_limit}
use Rattle.cvc_lex.specs.Lines.{is_start, groups, logical, line_of, joined, lexical, closed_at_end}
use Rattle.cvc_lex.specs.Physical.{read, reads_from, onto_line, ended, open_rest, line_if_any, physical}
use Rattle.cvc_lex.proofs.Faults.{at_end-none, faultless_within, lexical-is}
use Rattle.cvc_lex.proofs.Streams.{ended-cons, ended-nil, rest-nil, rest-cons, rest-none, ended-none, length_stream, physical_of}

groups-few : (kind : FileKind) (n : ℕ) (ls : List (List ℕ)) → length (groups kind (reads_from kind n ls)) ≤ length ls
unfolding groups
groups-few kind n [] = omega arith
groups-few kind n (l ∷ ls) = elim (cases_Bool (is_start (read kind n l))) [
  | inl h ↦ rw h (let few = groups-few kind (n + 1) ls in omega arith)
  | inr h ↦ rw h (let few = groups-few kind (n + 1) ls in omega arith)
]

logical_few : (kind : FileKind) (ls : List (List ℕ)) → length (logical kind ls) ≤ length ls
unfolding logical
logical_few kind ls = groups-few kind 1 ls

onto_length : (x : ℕ) (ls : List (List ℕ)) → length (onto_line x ls) ≡ length ls
onto_length x [] = refl
onto_length x (l ∷ ls) = refl

ended_few : (s : List ℕ) → length (ended s) + length (open_rest s) ≤ length s
ended_few [] = rw (ended-nil, rest-nil) (omega arith)
ended_few (x ∷ xs) = elim (cases_Bool (list_any is_line_feed (x ∷ xs))) [
  | inl h ↦
      let few = ended_few xs in
      let rest : open_rest (x ∷ xs) ≡ open_rest xs = rest-cons x xs ∙ rw h refl in
      elim (cases_Bool (is_line_feed x)) [
        | inl e ↦ rw (rest, ended-cons x xs, e) (omega arith)
        | inr e ↦ rw (rest, ended-cons x xs, e, onto_length x (ended xs)) (omega arith)
      ]
  | inr h ↦ rw (ended-none (x ∷ xs) h, rest-none (x ∷ xs) h) (omega arith)
]

if_any_few : (u : List ℕ) → length (line_if_any u) ≤ length u
if_any_few [] = omega arith
if_any_few (x ∷ u) = omega arith

if_any_joined : (u : List ℕ) → joined (line_if_any u) ≡ u
if_any_joined [] = refl
if_any_joined (x ∷ u) = append-nil (x ∷ u)

physical_few : (s : List ℕ) → length (physical s) ≤ length s
physical_few s =
    let parts : length (physical s) ≡ length (ended s) + length (line_if_any (open_rest s)) = ap length (physical_of s) ∙ length-append (ended s) (line_if_any (open_rest s)) in
    let few = ended_few s in
    let last = if_any_few (open_rest s) in
    omega (arith, parts, few, last)

physical_long : (s : List ℕ) → length (joined (physical s)) ≡ length s
physical_long s =
    ap (λ (ls : List (List ℕ)). length (joined ls)) (physical_of s) ∙ ap length (flat_map-append (λ (y : List ℕ). y) (ended s) (line_if_any (open_rest s)))
    ∙ length-append (joined (ended s)) (joined (line_if_any (open_rest s))) ∙ ap (λ (u : List ℕ). length (joined (ended s)) + length u) (if_any_joined (open_rest s)) ∙ length_stream s

pub few_lines : (kind : FileKind) (s : List ℕ) → lexical kind s ≡ None → length (closed_at_end kind s) ≤ file_limit kind
few_lines kind s e =
    let within = faultless_within kind (physical s) (sym (lexical-is kind s) ∙ e) in
    let same : length (closed_at_end kind s) ≡ length (logical kind (physical s)) = ap length (at_end-none kind s e) ∙ length-map (logical kind (physical s)) line_of in
    let logical_ones = logical_few kind (physical s) in
    let physical_ones = physical_few s in
    let long = physical_long s in
    omega (arith, within, same, logical_ones, physical_ones, long)
