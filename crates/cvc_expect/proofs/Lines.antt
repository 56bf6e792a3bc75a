-- The row of a line by its tokens.
use Rattle.std.proofs.Common.{◌≡◌, ◌<◌, ◌≤◌, List, [], ◌∷◌, length, Result, Ok, Err, refl, sym, ap, ◌∙◌, arith}
use Rattle.cvc_base.specs.declared.cause.Cause.{Cause}
use Rattle.cvc_base.specs.declared.cause.Cause.TheVariants.{BadRow}
use Rattle.cvc_base.specs.declared.line.Line.{Line}
use Rattle.cvc_base.specs.declared.line.Token.{Token}
use Rattle.cvc_base.specs.Order.{◌>>=◌}
use Rattle.cvc_rows.specs.Tokens.{texts_of}
use Rattle.cvc_expect.specs.declared.row.Bound.{Bound}
use Rattle.cvc_expect.specs.Rows.{bound_of, row_in, row_of, row_with}

module _ (line : Line) (ts : List Token) (same : ts ≡ line.tokens) where
  few : (us : List Token) → length us < 3 → row_in line.first (texts_of us) ≡ Err BadRow
  unfolding row_in
  few [] h = refl
  few (a ∷ []) h = refl
  few (a ∷ b ∷ []) h = refl
  few (a ∷ b ∷ d ∷ us) h = absurd (omega arith)

  many : (us : List Token) → 4 ≤ length us → row_in line.first (texts_of us) ≡ Err BadRow
  unfolding row_in
  many [] h = absurd (omega arith)
  many (a ∷ []) h = absurd (omega arith)
  many (a ∷ b ∷ []) h = absurd (omega arith)
  many (a ∷ b ∷ d ∷ []) h = absurd (omega arith)
  many (a ∷ b ∷ d ∷ g ∷ us) h = refl

  pub too_few : length ts < 3 → row_of line ≡ Err BadRow
  too_few h = ap (λ us. row_in line.first (texts_of us)) (sym same) ∙ few ts h

  pub too_many : 4 ≤ length ts → row_of line ≡ Err BadRow
  too_many h = ap (λ us. row_in line.first (texts_of us)) (sym same) ∙ many ts h

  -- what the bounds of three tokens are read as, and what they are
  pub by_bounds : (name low high : Token) → ts ≡ name ∷ low ∷ high ∷ [] → (l h : Result Bound Cause) → l ≡ bound_of low.text → h ≡ bound_of high.text
      → row_of line ≡ ◌>>=◌ l (λ x. ◌>>=◌ h (λ y. Ok (row_with line.first name.text x y)))
  unfolding row_in
  by_bounds name low high are l h e f = ap (λ us. row_in line.first (texts_of us)) (sym same ∙ are)
      ∙ (λ i. ◌>>=◌ (sym e i) (λ x. ◌>>=◌ (sym f i) (λ y. Ok (row_with line.first name.text x y))))
