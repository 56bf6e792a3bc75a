-- A walk through lines that are judged: rows so far, and an answer for the lines that are left.
use Rattle.std.proofs.Common.{◌≡◌, ℕ, ◌+◌, All, List, [], ◌∷◌, ◌++◌, length, Result, Ok, Err, sym, ap, subst, ◌∙◌, arith, length-append}
use Rattle.std.proofs.lemmas.List.Elements.{All-append, All-cons, All-nil}
use Rattle.cvc_base.specs.declared.line.Line.{Line}
use Rattle.cvc_base.specs.Order.{◌>>=◌}
use Rattle.cvc_rows.specs.declared.refused.LineFault.{LineFault}
use Rattle.cvc_rows.specs.declared.refused.Refused.{Refused}
use Rattle.cvc_rows.specs.declared.refused.Refused.TheVariants.{At, NoMemory}
use Rattle.cvc_rows.specs.Refusing.{Answers, refused_at}
use Rattle.cvc_rows.specs.Rows.{at_line, rows_behind}

module _ {A C : Type 0} (answer : Result (List A) (LineFault C)) (verdict : List A → Line → Result A C) (rows : List A) (waiting : List Line) (rest : answer ≡ rows_behind verdict rows waiting) where
  pub at_end : waiting ≡ [] → answer ≡ Ok rows
  unfolding rows_behind
  at_end none = rest ∙ ap (rows_behind verdict rows) none

  module _ (line : Line) (lines : List Line) (taken : waiting ≡ line ∷ lines) where
    by_verdict : (r : Result A C) → verdict rows line ≡ r → answer ≡ ◌>>=◌ (at_line line.first r) (λ row. rows_behind verdict (rows ++ row ∷ []) lines)
    unfolding rows_behind
    by_verdict r e = rest ∙ ap (rows_behind verdict rows) taken ∙ ap (λ v. ◌>>=◌ (at_line line.first v) (λ row. rows_behind verdict (rows ++ row ∷ []) lines)) e

    pub at_refusal : (r : Refused C) → Answers {A = A} (Err r) (verdict rows line) → Answers {A = List A} (Err (refused_at line.first r)) answer
    at_refusal (At cause) e = by_verdict (Err cause) e
    at_refusal NoMemory e = tt

    pub at_row : (row : A) → verdict rows line ≡ Ok row → (more : List A) → more ≡ rows ++ row ∷ [] → (next : List A → Line → Result A C) → next ≡ verdict
        → answer ≡ rows_behind next more lines
    at_row row e more f next same = by_verdict (Ok row) e ∙ (λ i. rows_behind (sym same i) (sym f i) lines)

pub fine_more : {A : Type 0} (P : A → Type 0) (rows : List A) (row : A) (more : List A) → more ≡ rows ++ row ∷ [] → All P rows → P row → All P more
fine_more P rows row more e all one = subst (All P) (sym e) (All-append P rows (row ∷ []) all (All-cons P row [] one (All-nil P)))

pub few_more : {A : Type 0} (rows : List A) (row : A) (more : List A) → more ≡ rows ++ row ∷ [] → (line : Line) (lines waiting : List Line) → waiting ≡ line ∷ lines
    → (n : ℕ) → length rows + length waiting ≡ n → length more + length lines ≡ n
few_more rows row more e line lines waiting f n sum =
    let size = ap length e ∙ length-append rows (row ∷ []) in let left = ap length f in omega (arith, size, left, sum)
