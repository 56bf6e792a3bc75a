-- A physical line as it is read, by its shape.
use Rattle.std.proofs.Common.{◌≡◌, ℕ, ◌+◌, ◌<◌, List, [], ◌∷◌, length, true, false, Option, Some, Result, Ok, Err, refl, sym, ap, subst, ◌∙◌, inl, inr}
use Rattle.std.specs.List.{list_any, prefix_len}
use Rattle.std.proofs.lemmas.Bool.{cases_Bool, cases_lt}
use Rattle.std.proofs.lemmas.List.{drop_all}
use Rattle.cvc_base.specs.declared.cause.Cause.TheVariants.{BadByte}
use Rattle.cvc_base.specs.declared.fault.FileKind.{FileKind}
use Rattle.cvc_lex.specs.declared.scanner.Logical.{Logical}
use Rattle.cvc_lex.specs.declared.shape.Shape.{Shape}
use Rattle.cvc_lex.specs.declared.shape.Shape.TheVariants.{Skipped, Directive, Card, Continuation}
use Rattle.cvc_base.specs.declared.stop.Stop.{Stop}
use Rattle.cvc_base.specs.declared.stop.Stop.TheVariants.{At, NoMemory}
use Rattle.cvc_lex.specs.Bytes.{is_netlist, is_blank, is_bad}
use Rattle.cvc_lex.specs.Physical.{Read, read, text_of, cut, shape_of, card_shape, row_shape, unindented}
use Rattle.cvc_lex.specs.Lines.{cause_of}
use Rattle.cvc_lex.specs.Lexing.{Lexing}
use Rattle.cvc_lex.specs.Scanning.{with_shape, Adds, Ends, shaped}
use Rattle.cvc_lex.proofs.Texts.{unindented_is}

pub bad_cause : (kind : FileKind) (n : ℕ) (line : List ℕ) (started : Option Logical) → list_any is_bad (text_of line) ≡ true → cause_of kind started (read kind n line) ≡ Some BadByte
unfolding read
bad_cause kind n line started e = rw e refl

pub read_shaped : (kind : FileKind) (n : ℕ) (line text kept : List ℕ) → text ≡ text_of line → list_any is_bad text ≡ false → kept ≡ cut kind text → shaped kind n (shape_of kind kept) kept ≡ read kind n line
unfolding read
read_shaped kind n line text kept a b c =
    let bad : list_any is_bad (text_of line) ≡ false = ap (list_any is_bad) (sym a) ∙ b in
    let same : cut kind (text_of line) ≡ kept = ap (cut kind) (sym a) ∙ sym c in
    rw (bad, same) refl

pub by_shape : (old new : Lexing) (kind : FileKind) (n : ℕ) (text : List ℕ) (shape : Shape) (result : Result (Unit {0}) Stop) → shape_of kind text ≡ shape → Adds old new (shaped kind n shape text) result → Adds old new (shaped kind n (shape_of kind text) text) result
by_shape old new kind n text shape result e h = let P : Shape → Type 0 = λ s. Adds old new (shaped kind n s text) result in subst P (sym e) h

pub skipped : (old : Lexing) (n : ℕ) (text : List ℕ) (done : Unit {0}) → Adds old old (shaped old.file n Skipped text) (Ok done)
skipped old n text done = elim (cases_Bool (is_netlist old.file)) [
  | inl h ↦ (rw h refl, refl)
  | inr h ↦ (rw h refl, refl)
]

-- adding the line ends it
stopped : (old new : Lexing) (r : Read) (stop : Stop) → Adds old new r (Err stop) → Ends old new r (Err stop)
stopped old new r (At cause) h = h
stopped old new r NoMemory h = h

pub stopped_line : (old new : Lexing) (r s : Read) (stop : Stop) → r ≡ s → Adds old new r (Err stop) → Ends old new s (Err stop)
stopped_line old new r s stop e h = let P : Read → Type 0 = λ t. Ends old new t (Err stop) in subst P e (stopped old new r stop h)

same_count : (x : Lexing) (r : Read) (shape : Shape) → (with_shape x r shape).count ≡ x.count
same_count x r Skipped = refl
same_count x r Directive = refl
same_count x r Card = refl
same_count x r Continuation = refl

pub added_line : (old new : Lexing) (r s : Read) (done : Unit {0}) → r ≡ s → Adds old new r (Ok done) → Ends old (record new { count = old.count + 1 }) s (Ok done)
added_line old new r s done e h =
    let P : Read → Type 0 = λ t. Ends old (record new { count = old.count + 1 }) t (Ok done) in
    subst P e (h.0, ap (λ (x : Lexing). record x { count = old.count + 1 }) h.1 ∙ ap (λ (n : ℕ). record (with_shape old r r.shape) { count = n + 1 }) (sym (same_count old r r.shape)))

-- ## What a continuation is

row_no_continuation : (text : List ℕ) → row_shape text ≡ Continuation → ⊥
row_no_continuation [] e = cc
row_no_continuation (x ∷ xs) e = cc

rows_at : (kind : FileKind) (text : List ℕ) → is_netlist kind ≡ false → shape_of kind text ≡ row_shape (unindented text)
unfolding shape_of
rows_at kind text e = rw e refl

cards_at : (kind : FileKind) (text : List ℕ) → is_netlist kind ≡ true → shape_of kind text ≡ card_shape (unindented text)
unfolding shape_of
cards_at kind text e = rw e refl

pub continuation_netlist : (kind : FileKind) (text : List ℕ) → shape_of kind text ≡ Continuation → is_netlist kind ≡ true
continuation_netlist kind text e = elim (cases_Bool (is_netlist kind)) [
  | inl h ↦ h
  | inr h ↦ absurd (row_no_continuation (unindented text) (sym (rows_at kind text h) ∙ e))
]

pub continuation_plus : (kind : FileKind) (text : List ℕ) → shape_of kind text ≡ Continuation → prefix_len is_blank text < length text
continuation_plus kind text e = elim (cases_lt (prefix_len is_blank text) (length text)) [
  | inl h ↦ h
  | inr h ↦
      let none : unindented text ≡ [] = sym (unindented_is text) ∙ drop_all (prefix_len is_blank text) text h in
      let not : Skipped ≡ Continuation = ap card_shape (sym none) ∙ sym (cards_at kind text (continuation_netlist kind text e)) ∙ e in
      absurd cc
]
