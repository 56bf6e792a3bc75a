-- The first token of a line decides how its other tokens are read. Of the directives only `*.GLOBAL` says anything. On a card
-- keywords come first, then the first letter. `None` is a line that is ignored, whatever follows.
use Rattle.std.specs.Prelude.{ℕ, Bool, ◌==◌, List, [], ◌∷◌, Option, Some, None, Result, Ok, Err, if◌then◌else◌, codes}
use Rattle.std.specs.Char.{to_ascii_uppercase}
use Rattle.std.specs.List.{list_any}
use Rattle.cvc_base.specs.declared.cause.Cause.{Cause}
use Rattle.cvc_base.specs.declared.cause.Cause.TheVariants.{UnknownCard, Unsupported}
use Rattle.cvc_card.specs.declared.card.Letter.TheVariants.{M, D, R, C, L, Q}
use Rattle.cvc_card.specs.declared.form.Form.{Form}
use Rattle.cvc_card.specs.declared.form.Form.TheVariants.{Device, Inst, Subckt, Ends, Global, Params}
use Rattle.cvc_card.specs.Words.{is_keyword}

abbrev pub is_one_of : List (List ℕ) → List ℕ → Bool
is_one_of words token = list_any (λ word. is_keyword word token) words

abbrev pub ignored_words : List (List ℕ)
ignored_words = codes ".model" ∷ codes ".option" ∷ codes ".options" ∷ codes ".temp" ∷ codes ".end" ∷ []

abbrev pub unsupported_words : List (List ℕ)
unsupported_words = codes ".include" ∷ codes ".inc" ∷ codes ".lib" ∷ []

-- what each first letter says, in upper case
abbrev pub letters : List (ℕ × Result (Option Form) Cause)
letters =
    (77, Ok (Some (Device M)))
    ∷ (68, Ok (Some (Device D)))
    ∷ (82, Ok (Some (Device R)))
    ∷ (67, Ok (Some (Device C)))
    ∷ (76, Ok (Some (Device L)))
    ∷ (81, Ok (Some (Device Q)))
    ∷ (88, Ok (Some Inst))
    ∷ (86, Err Unsupported)
    ∷ (73, Err Unsupported)
    ∷ (74, Err Unsupported)
    ∷ []

-- the answer of the row for a letter
abbrev pub by_letter : ℕ → List (ℕ × Result (Option Form) Cause) → Result (Option Form) Cause
by_letter c [] = Err UnknownCard
by_letter c (row ∷ rows) = if to_ascii_uppercase c == row.0 then row.1 else by_letter c rows

abbrev pub letter_form : List ℕ → Result (Option Form) Cause
letter_form [] = Err UnknownCard
letter_form (c ∷ _) = by_letter c letters

abbrev pub card_form : List ℕ → Result (Option Form) Cause
card_form token =
    if is_one_of ignored_words token then Ok None
    else (if is_one_of unsupported_words token then Err Unsupported
    else (if is_keyword (codes ".subckt") token then Ok (Some Subckt)
    else (if is_keyword (codes ".ends") token then Ok (Some Ends)
    else (if is_keyword (codes ".global") token then Ok (Some Global)
    else (if is_keyword (codes ".param") token then Ok (Some Params)
    else letter_form token)))))

abbrev pub directive_form : List ℕ → Result (Option Form) Cause
directive_form token = if is_keyword (codes "*.global") token then Ok (Some Global) else Ok None

unfoldable pub form_of : Bool → List ℕ → Result (Option Form) Cause
form_of directive token = if directive then directive_form token else card_form token
