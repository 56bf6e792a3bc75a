-- The row of a line by its first token and what stands behind it.
use Rattle.std.proofs.Common.{◌≡◌, ◌<◌, ◌≤◌, ◌-◌, List, length, get_or, take, drop, Result, Ok, Err, sym, ap, ◌∙◌}
use Rattle.cvc_base.specs.declared.cause.Cause.{Cause}
use Rattle.cvc_base.specs.declared.cause.Cause.TheVariants.{BadRow}
use Rattle.cvc_base.specs.declared.line.Line.{Line}
use Rattle.cvc_base.specs.declared.line.Token.{Token}
use Rattle.cvc_base.specs.Order.{◌>>=◌}
use Rattle.cvc_rows.specs.Tokens.{texts_of}
use Rattle.cvc_rows.proofs.Items.{no_items, first_item}
use Rattle.cvc_power.specs.declared.row.Span.{Span}
use Rattle.cvc_power.specs.Power.{row_in, row_of, row_with}
use Rattle.cvc_power.specs.Rows.{span_of}

module _ (line : Line) (ts : List Token) (same : ts ≡ line.tokens) where
  pub no_tokens : length ts < 1 → row_of line ≡ Err BadRow
  unfolding row_in
  no_tokens h = ap (λ us. row_in line.first (texts_of us)) (sym same ∙ no_items ts h)

  pub by_span : (name : Token) → 1 ≤ length ts → name ≡ get_or ts 0 name → (r : Result Span Cause) → r ≡ span_of (texts_of (take (length ts - 1) (drop 1 ts)))
      → row_of line ≡ ◌>>=◌ r (λ span. Ok (row_with line.first name.text span))
  unfolding row_in
  by_span name within at r e = ap (λ us. row_in line.first (texts_of us)) (sym same ∙ first_item ts name within at) ∙ ap (λ s. ◌>>=◌ s (λ span. Ok (row_with line.first name.text span))) (sym e)
