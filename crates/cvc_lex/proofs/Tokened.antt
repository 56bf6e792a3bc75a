-- Each logical line has a token.
use Rattle.std.proofs.Common.{◌≡◌, ℕ, ◌+◌, ◌<◌, List, [], ◌∷◌, length, Bool, true, false, cond, not, ◌&&◌, ◌||◌, Option, Some, None, refl, sym, ap, subst, ◌∙◌, arith, inl, inr, All}
use Rattle.std.specs.Prelude.{filter, flat_map}
use Rattle.std.proofs.lemmas.Bool.{cases_Bool}
use Rattle.std.proofs.lemmas.List.{length-append}
use Rattle.std.proofs.lemmas.List.Elements.{All-cons, All-filter, All-map, All-nil}
use Rattle.cvc_base.specs.declared.fault.Fault.{Fault}
use Rattle.cvc_base.specs.declared.fault.FileKind.{FileKind}
use Rattle.cvc_base.specs.declared.line.Line.{Line}
use Rattle.cvc_lex.specs.declared.shape.Shape.{Shape}
use Rattle.cvc_lex.specs.declared.shape.Shape.TheVariants.{Skipped, Directive, Card, Continuation}
use Rattle.cvc_lex.specs.Bytes.{is_netlist, is_blank, is_alone, is_word}
use Rattle.cvc_lex.specs.Laws.{HasToken}
use Rattle.cvc_lex.specs.Lines.{starts, is_start, Group, own, group, groups, logical, line_of, is_closed, closed, faultless, lexical, closed_at_end, closed_so_far}
use Rattle.cvc_lex.specs.Physical.{Read, read, reads_from, physical, ended, unindented, card_shape, row_shape, shape_of, begins_token, token_text, tokens_from, tokens_of, text_of, cut}
use Rattle.cvc_lex.proofs.Texts.{tokens-blank}
use Rattle.cvc_lex.proofs.Faults.{at_end-none, at_end-fault, so_far-is}

tokens-cons : (kind : FileKind) (number c x : ℕ) (xs : List ℕ) → tokens_from kind number false c (x ∷ xs)
    ≡ cond (begins_token kind false x) (record { text = token_text kind x xs; line = number; column = c } ∷ tokens_from kind number (is_word kind x) (c + 1) xs) (tokens_from kind number (is_word kind x) (c + 1) xs)
unfolding tokens_from
tokens-cons kind number c x xs = refl

begins : (kind : FileKind) (x : ℕ) → is_blank x ≡ false → begins_token kind false x ≡ true
begins kind x e = by (is_alone kind x)
  where
    by : (b : Bool) → (b || (not (is_blank x) && not b && not false)) ≡ true
    by true = refl
    by false = rw e refl

some_token : (kind : FileKind) (number c : ℕ) (text : List ℕ) → (unindented text ≡ [] → ⊥) → 0 < length (tokens_from kind number false c text)
some_token kind number c [] h = absurd (h refl)
some_token kind number c (x ∷ xs) h = elim (cases_Bool (is_blank x)) [
  | inl e ↦ rw (tokens-blank kind number c x xs e) (some_token kind number (c + 1) xs (λ none. h (rw e none)))
  | inr e ↦ rw (tokens-cons kind number c x xs, begins kind x e) (omega arith)
]

shape-is : (kind : FileKind) (text : List ℕ) → shape_of kind text ≡ cond (is_netlist kind) (card_shape (unindented text)) (row_shape (unindented text))
unfolding shape_of
shape-is kind text = refl

not_empty : (kind : FileKind) (text : List ℕ) → starts (shape_of kind text) ≡ true → unindented text ≡ [] → ⊥
not_empty kind text h e =
    let skipped : shape_of kind text ≡ Skipped = shape-is kind text ∙ ap (λ (u : List ℕ). cond (is_netlist kind) (card_shape u) (row_shape u)) e ∙ same (is_netlist kind) in
    let both : true ≡ false = sym h ∙ ap starts skipped in
    absurd cc
  where
    same : (b : Bool) → cond b Skipped Skipped ≡ Skipped
    same true = refl
    same false = refl

start_tokens : (kind : FileKind) (number : ℕ) (text : List ℕ) (shape : Shape) → shape_of kind text ≡ shape → starts shape ≡ true → 0 < length (tokens_of kind number shape text)
start_tokens kind number text Skipped e h = absurd cc
start_tokens kind number text Directive e h = some_token kind number 1 text (not_empty kind text (ap starts e))
start_tokens kind number text Card e h = some_token kind number 1 text (not_empty kind text (ap starts e))
start_tokens kind number text Continuation e h = absurd cc

read_tokens : (kind : FileKind) (number : ℕ) (line : List ℕ) → is_start (read kind number line) ≡ true → 0 < length (read kind number line).tokens
unfolding read
read_tokens kind number line h = start_tokens kind number (cut kind (text_of line)) (shape_of kind (cut kind (text_of line))) refl h

abbrev GroupHasToken : Group → Type 0
GroupHasToken g = HasToken (line_of g)

groups-cons : (kind : FileKind) (r : Read) (rs : List Read) → groups kind (r ∷ rs) ≡ cond (is_start r) (group kind r rs ∷ groups kind rs) (groups kind rs)
unfolding groups
groups-cons kind r rs = refl

groups-nil : (kind : FileKind) → groups kind [] ≡ []
unfolding groups
groups-nil kind = refl

group_token : (kind : FileKind) (r : Read) (rs : List Read) → 0 < length r.tokens → GroupHasToken (group kind r rs)
group_token kind r rs h = let long = length-append r.tokens (flat_map (λ (c : Read). c.tokens) (own kind rs)) in omega (arith, long, h)

all_tokens : (kind : FileKind) (n : ℕ) (ls : List (List ℕ)) → All GroupHasToken (groups kind (reads_from kind n ls))
all_tokens kind n [] = rw (groups-nil kind) (All-nil GroupHasToken)
all_tokens kind n (l ∷ ls) = elim (cases_Bool (is_start (read kind n l))) [
  | inl h ↦ rw (groups-cons kind (read kind n l) (reads_from kind (n + 1) ls), h) (All-cons GroupHasToken (group kind (read kind n l) (reads_from kind (n + 1) ls)) (groups kind (reads_from kind (n + 1) ls)) (group_token kind (read kind n l) (reads_from kind (n + 1) ls) (read_tokens kind n l h)) (all_tokens kind (n + 1) ls))
  | inr h ↦ rw (groups-cons kind (read kind n l) (reads_from kind (n + 1) ls), h) (all_tokens kind (n + 1) ls)
]

logical_tokens : (kind : FileKind) (ls : List (List ℕ)) → All GroupHasToken (logical kind ls)
unfolding logical
logical_tokens kind ls = all_tokens kind 1 ls

closed_tokens : (kind : FileKind) (ls : List (List ℕ)) → All HasToken (closed kind ls)
closed_tokens kind ls = All-map HasToken line_of (filter is_closed (logical kind ls)) (All-filter is_closed GroupHasToken (logical kind ls) (logical_tokens kind ls))

pub so_far_tokens : (kind : FileKind) (s : List ℕ) → All HasToken (closed_so_far kind s)
so_far_tokens kind s = let P : List Line → Type 0 = λ ls. All HasToken ls in subst P (sym (so_far-is kind s)) (closed_tokens kind (faultless kind [] (ended s)))

pub at_end_tokens : (kind : FileKind) (s : List ℕ) → All HasToken (closed_at_end kind s)
at_end_tokens kind s = by (lexical kind s) refl
  where
    by : (o : Option Fault) → lexical kind s ≡ o → All HasToken (closed_at_end kind s)
    by None e = let Q : List Line → Type 0 = λ ls. All HasToken ls in subst Q (sym (at_end-none kind s e)) (All-map HasToken line_of (logical kind (physical s)) (logical_tokens kind (physical s)))
    by (Some f) e = let Q : List Line → Type 0 = λ ls. All HasToken ls in subst Q (sym (at_end-fault kind s f e)) (closed_tokens kind (faultless kind [] (physical s)))
