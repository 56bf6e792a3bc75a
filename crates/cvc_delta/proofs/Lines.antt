-- The edit of a row by its first token and what stands behind it.
use Rattle.std.proofs.Common.{◌≡◌, ◌<◌, ◌≤◌, ◌-◌, ℕ, Bool, true, false, codes, List, [], ◌∷◌, length, get_or, take, drop, Result, Ok, Err, if◌then◌else◌, sym, ap, ◌∙◌}
use Rattle.std.specs.Str.{str_eq_ignore_ascii_case}
use Rattle.cvc_base.specs.declared.cause.Cause.TheVariants.{BadRow}
use Rattle.cvc_base.specs.declared.line.Token.{Token}
use Rattle.cvc_rows.specs.Tokens.{texts_of}
use Rattle.cvc_rows.proofs.Items.{no_items, first_item}
use Rattle.cvc_delta.specs.declared.edit.Edit.{Edit}
use Rattle.cvc_delta.specs.declared.fault.EditsCause.{EditsCause}
use Rattle.cvc_delta.specs.declared.fault.EditsCause.TheVariants.{Text}
use Rattle.cvc_delta.specs.Reading.{edit_of, set_of, unset_of, recheck_of}

pub no_tokens : (ts : List Token) → length ts < 1 → edit_of (texts_of ts) ≡ Err (Text BadRow)
unfolding edit_of
no_tokens ts h = ap (λ us. edit_of (texts_of us)) (no_items ts h)

-- by the tests of the three words
abbrev by_words : List (List ℕ) → Bool → Bool → Bool → Result Edit EditsCause
by_words texts set unset recheck = if set then set_of texts else (if unset then unset_of texts else (if recheck then recheck_of texts else Err (Text BadRow)))

module _ (ts : List Token) (word : Token) (within : 1 ≤ length ts) (at : word ≡ get_or ts 0 word) (w : List ℕ) (read : w ≡ word.text) where
  abbrev behind : List (List ℕ)
  behind = texts_of (take (length ts - 1) (drop 1 ts))

  by_tests : edit_of (texts_of ts) ≡ by_words behind (str_eq_ignore_ascii_case w (codes "set")) (str_eq_ignore_ascii_case w (codes "unset")) (str_eq_ignore_ascii_case w (codes "recheck"))
  unfolding edit_of
  by_tests = ap (λ us. edit_of (texts_of us)) (first_item ts word within at)
      ∙ ap (λ v. by_words behind (str_eq_ignore_ascii_case v (codes "set")) (str_eq_ignore_ascii_case v (codes "unset")) (str_eq_ignore_ascii_case v (codes "recheck"))) (sym read)

  module _ (a b d : Bool) where
    pub is_set : a ≡ str_eq_ignore_ascii_case w (codes "set") → a ≡ true → edit_of (texts_of ts) ≡ set_of behind
    is_set ta ea = by_tests ∙ ap (λ x. by_words behind x (str_eq_ignore_ascii_case w (codes "unset")) (str_eq_ignore_ascii_case w (codes "recheck"))) (sym ta ∙ ea)

    pub is_unset : a ≡ str_eq_ignore_ascii_case w (codes "set") → a ≡ false → b ≡ str_eq_ignore_ascii_case w (codes "unset") → b ≡ true → edit_of (texts_of ts) ≡ unset_of behind
    is_unset ta ea tb eb = by_tests ∙ (λ i. by_words behind ((sym ta ∙ ea) i) ((sym tb ∙ eb) i) (str_eq_ignore_ascii_case w (codes "recheck")))

    pub by_last : a ≡ str_eq_ignore_ascii_case w (codes "set") → a ≡ false → b ≡ str_eq_ignore_ascii_case w (codes "unset") → b ≡ false
        → d ≡ str_eq_ignore_ascii_case w (codes "recheck") → (last : Bool) → d ≡ last → edit_of (texts_of ts) ≡ (if last then recheck_of behind else Err (Text BadRow))
    by_last ta ea tb eb td last ed = by_tests ∙ (λ i. by_words behind ((sym ta ∙ ea) i) ((sym tb ∙ eb) i) ((sym td ∙ ed) i))
