-- A whole file of rows, from what its lexer handed out at the end and the verdicts on that.
use Rattle.std.proofs.Common.{◌≡◌, ◌≤◌, ℕ, true, List, [], length, Option, Some, None, Result, Ok, Err, sym, ap, subst, ◌∙◌}
use Rattle.cvc_base.specs.declared.cause.Cause.{Cause}
use Rattle.cvc_base.specs.declared.fault.Fault.{Fault}
use Rattle.cvc_base.specs.declared.fault.FileKind.{FileKind}
use Rattle.cvc_base.specs.declared.fault.Refusal.{Refusal}
use Rattle.cvc_base.specs.declared.fault.Refusal.TheVariants as input
use Rattle.cvc_base.specs.declared.line.Line.{Line}
use Rattle.cvc_base.specs.Answers.{Refuses, refusal_in}
use Rattle.cvc_base.specs.Order.{◌>>=◌}
use Rattle.cvc_lex.specs.Bytes.{file_limit}
use Rattle.cvc_lex.specs.Lexing.{Lexing, StandsFor, HasRead, closed_in}
use Rattle.cvc_lex.specs.Lines.{lexical, closed_at_end}
use Rattle.cvc_rows.specs.declared.reading.Lexed.{Lexed}
use Rattle.cvc_rows.specs.declared.refused.LineFault.{LineFault}
use Rattle.cvc_rows.specs.declared.refused.Refused.{Refused}
use Rattle.cvc_rows.specs.declared.refused.Refused.TheVariants.{At, NoMemory}
use Rattle.cvc_rows.specs.Lexed.{IsLexed, IsToldAs}
use Rattle.cvc_rows.specs.Refusing.{Answers}
use Rattle.cvc_rows.specs.Rows.{rows_behind, rows_of, unless_lexical}

module _ (file kind : FileKind) (same : kind ≡ file) (x : Lexing) (bytes : List ℕ) (stands : StandsFor x bytes 0) (of_file : x.file ≡ file) (finished : x.finished ≡ true)
    (ended : Result (Unit {0}) Refusal) (refused : x.refused ≡ refusal_in ended) (refuses : Refuses (lexical kind bytes) ended) (fault : Option Fault) (told : IsToldAs ended fault) where
  lines_are : x.waiting ≡ closed_at_end file bytes
  lines_are = by ended refused told ∙ (λ i. closed_in (of_file i) (finished i) bytes)
    where
      by : (r : Result (Unit {0}) Refusal) → x.refused ≡ refusal_in r → IsToldAs r fault → x.waiting ≡ closed_in x.file x.finished bytes
      by (Ok done) e t = (subst (HasRead x bytes 0) e stands.state).1
      by (Err (input.At first)) e t = (subst (HasRead x bytes 0) e stands.state).1
      by (Err input.NoMemory) e t = absurd t

  fault_is : fault ≡ lexical file bytes
  fault_is = by ended refuses told ∙ ap (λ k. lexical k bytes) same
    where
      by : (r : Result (Unit {0}) Refusal) → Refuses (lexical kind bytes) r → IsToldAs r fault → fault ≡ lexical kind bytes
      by (Ok done) first t = t ∙ sym first
      by (Err (input.At f)) first t = t ∙ sym first
      by (Err input.NoMemory) first t = absurd t

  pub lexed : (lexical file bytes ≡ None → length (closed_at_end file bytes) ≤ file_limit file) → IsLexed file bytes record { lexer = x; fault = fault }
  lexed few = record {
    lines = lines_are;
    fault = fault_is;
    few = λ none. subst (λ (l : List Line). length l ≤ file_limit file) (sym lines_are) (few (sym fault_is ∙ none));
  }

module _ {A C : Type 0} (told : Cause → C) (verdict : List A → Line → Result A C) (file : FileKind) (bytes : List ℕ) (x : Lexed) (is : IsLexed file bytes x) where
  by_rows : (r : Result (List A) (LineFault C)) → rows_behind verdict [] x.lexer.waiting ≡ r → rows_of told verdict file bytes ≡ ◌>>=◌ r (unless_lexical told x.fault)
  unfolding rows_of
  by_rows r e = λ i. ◌>>=◌ ((ap (rows_behind verdict []) (sym is.lines) ∙ e) i) (unless_lexical told (sym is.fault i))

  pub at_refusal : (r : Refused (LineFault C)) → Answers {A = List A} (Err r) (rows_behind verdict [] x.lexer.waiting) → Answers {A = List A} (Err r) (rows_of told verdict file bytes)
  at_refusal (At fault) e = by_rows (Err fault) e
  at_refusal NoMemory e = tt

  module _ (rows : List A) (e : rows_behind verdict [] x.lexer.waiting ≡ Ok rows) where
    pub all_rows : x.fault ≡ None → rows_of told verdict file bytes ≡ Ok rows
    all_rows none = by_rows (Ok rows) e ∙ ap (λ o. unless_lexical told o rows) none

    pub lexical_fault : (fault : Fault) → x.fault ≡ Some fault → (cause : C) → cause ≡ told fault.cause → rows_of told verdict file bytes ≡ Err (record { line = fault.place.line; cause = cause })
    lexical_fault fault some cause e' = by_rows (Ok rows) e ∙ ap (λ o. unless_lexical told o rows) some ∙ ap (λ c. Err (record { line = fault.place.line; cause = c })) (sym e')
