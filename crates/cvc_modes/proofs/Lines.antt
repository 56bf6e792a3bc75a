-- The row of a line by its tokens.
use Rattle.std.proofs.Common.{◌≡◌, ◌<◌, ◌≤◌, List, [], ◌∷◌, length, get_or, Result, Ok, Err, sym, ap, ◌∙◌, refl, arith}
use Rattle.cvc_base.specs.declared.cause.Cause.TheVariants.{BadRow}
use Rattle.cvc_base.specs.declared.line.Line.{Line}
use Rattle.cvc_base.specs.declared.line.Token.{Token}
use Rattle.cvc_rows.specs.Tokens.{texts_of}
use Rattle.cvc_rows.proofs.Items.{two_items}
use Rattle.cvc_modes.specs.declared.fault.ListCause.TheVariants.{Text}
use Rattle.cvc_modes.specs.Modes.{row_in, row_of, row_with}

module _ (line : Line) (ts : List Token) (same : ts ≡ line.tokens) where
  by_tokens : (us : List Token) → ts ≡ us → row_of line ≡ row_in line.first (texts_of us)
  by_tokens us e = ap (λ vs. row_in line.first (texts_of vs)) (sym same ∙ e)

  few : (us : List Token) → length us < 2 → row_in line.first (texts_of us) ≡ Err (Text BadRow)
  unfolding row_in
  few [] h = refl
  few (a ∷ []) h = refl
  few (a ∷ b ∷ us) h = absurd (omega arith)

  many : (us : List Token) → 3 ≤ length us → row_in line.first (texts_of us) ≡ Err (Text BadRow)
  unfolding row_in
  many [] h = absurd (omega arith)
  many (a ∷ []) h = absurd (omega arith)
  many (a ∷ b ∷ []) h = absurd (omega arith)
  many (a ∷ b ∷ d ∷ us) h = refl

  pub too_few : length ts < 2 → row_of line ≡ Err (Text BadRow)
  too_few h = by_tokens ts refl ∙ few ts h

  pub too_many : 3 ≤ length ts → row_of line ≡ Err (Text BadRow)
  too_many h = by_tokens ts refl ∙ many ts h

  pub two : (name file : Token) → 2 ≤ length ts → length ts < 3 → name ≡ get_or ts 0 name → file ≡ get_or ts 1 file → row_of line ≡ Ok (row_with line.first name.text file.text)
  unfolding row_in
  two name file low high e f = by_tokens (name ∷ file ∷ []) (two_items ts name file low high e f)
