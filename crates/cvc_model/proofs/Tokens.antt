-- The row of a line by its first two tokens.
use Rattle.std.proofs.Common.{◌≡◌, ℕ, ◌<◌, ◌≤◌, List, [], ◌∷◌, map, length, get_or, drop, Some, None, Ok, Err, refl, sym, ap, ◌∙◌, arith, ◌-◌, take}
use Rattle.cvc_base.specs.declared.cause.Cause.{Cause}
use Rattle.cvc_base.specs.declared.cause.Cause.TheVariants.{BadRow, UnknownKind}
use Rattle.cvc_base.specs.declared.device.Kind.{Kind}
use Rattle.cvc_base.specs.declared.device.Volts.{Volts}
use Rattle.cvc_base.specs.declared.line.Line.{Line}
use Rattle.cvc_base.specs.declared.line.Token.{Token}
use Rattle.cvc_model.specs.declared.row.Test.{Test}
use Rattle.cvc_model.specs.Words.{kind_of}
use Rattle.cvc_model.specs.Rows.{Content, no_content, row_from, row_in, row_of, row_with, volts_of, with_texts}
use Rattle.cvc_rows.specs.Tokens.{text_of}
use Rattle.cvc_rows.proofs.Items.{first_two}
use Rattle.cvc_base.specs.Order.{◌>>=◌}

too_few : (number : ℕ) (ts : List Token) → length ts < 2 → row_in number (map text_of ts) ≡ Err BadRow
unfolding row_in
too_few number [] h = refl
too_few number (a ∷ []) h = refl
too_few number (a ∷ b ∷ ts) h = absurd (omega arith)

-- what was read of a line, and what it makes of its row
module _ (line : Line) (ts : List Token) (same : ts ≡ line.tokens) where
  pub short : length ts < 2 → row_of line ≡ Err BadRow
  short h = ap (λ us. row_in line.first (map text_of us)) (sym same) ∙ too_few line.first ts h

  module _ (name word : Token) (within : 2 ≤ length ts) (at_name : name ≡ get_or ts 0 name) (at_word : word ≡ get_or ts 1 word) (w : List ℕ) (read : w ≡ word.text) where
    abbrev items : List Token
    items = take (length ts - 2) (drop 2 ts)

    as_read : row_of line ≡ row_with line.first name.text (kind_of w) (map text_of items)
    unfolding row_in
    as_read = ap (λ us. row_in line.first (map text_of us)) (sym same ∙ first_two ts name word within at_name at_word)
        ∙ ap (λ t. row_with line.first name.text (kind_of t) (map text_of items)) (sym read)

    pub unknown : kind_of w ≡ None → row_of line ≡ Err UnknownKind
    unknown e = as_read ∙ ap (λ k. row_with line.first name.text k (map text_of items)) e

    module _ (kind : Kind) (of_kind : kind_of w ≡ Some kind) where
      with_items : row_of line ≡ ◌>>=◌ (with_texts kind no_content (map text_of items)) (row_from line.first name.text kind)
      with_items = as_read ∙ ap (λ k. row_with line.first name.text k (map text_of items)) of_kind

      pub bad_item : (cause : Cause) → with_texts kind no_content (map text_of items) ≡ Err cause → row_of line ≡ Err cause
      bad_item cause e = with_items ∙ ap (λ r. ◌>>=◌ r (row_from line.first name.text kind)) e

      module _ (content : Content) (said : with_texts kind no_content (map text_of items) ≡ Ok content) where
        with_content : row_of line ≡ row_from line.first name.text kind content
        with_content = with_items ∙ ap (λ r. ◌>>=◌ r (row_from line.first name.text kind)) said

        pub bad_volts : (cause : Cause) → volts_of kind content.settings ≡ Err cause → row_of line ≡ Err cause
        bad_volts cause e = with_content ∙ ap (λ v. ◌>>=◌ v (λ volts. Ok (record { name = name.text; kind = kind; volts = volts; tests = content.tests; line = line.first }))) e

        pub the_row : (volts : Volts) → volts_of kind content.settings ≡ Ok volts → (n : List ℕ) → n ≡ name.text
            → (ts : List Test) → ts ≡ content.tests → row_of line ≡ Ok (record { name = n; kind = kind; volts = volts; tests = ts; line = line.first })
        the_row volts e n f ts g = with_content ∙ ap (λ v. ◌>>=◌ v (λ volts. Ok (record { name = name.text; kind = kind; volts = volts; tests = content.tests; line = line.first }))) e
            ∙ (let p = sym f in let q = sym g in λ i. Ok (record { name = p i; kind = kind; volts = volts; tests = q i; line = line.first }))
