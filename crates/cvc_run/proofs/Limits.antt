-- Bytes up to a limit and one more: enough to judge a file by, since a file past its limit has its first fault up to there.
use Rattle.std.proofs.Common.{◌≡◌, ℕ, ◌+◌, ◌<◌, ◌≤◌, Bool, true, false, List, [], ◌++◌, length, take, drop, Option, Some, None, Result, refl, sym, ap, ◌∙◌, arith, take-append-drop}
use Rattle.std.specs.Prelude.{nat_lt}
use Rattle.std.proofs.lemmas.Bool.Decides.{nat_tests}
use Rattle.std.proofs.lemmas.List.{length-take-le, take_all}
use Rattle.cvc_base.specs.declared.fault.Fault.{Fault}
use Rattle.cvc_base.specs.declared.fault.FileKind.{FileKind}
use Rattle.cvc_base.specs.declared.line.Line.{Line}
use Rattle.cvc_base.specs.declared.cause.Cause.{Cause}
use Rattle.cvc_base.specs.declared.cause.Cause.TheVariants.{FileTooLong}
use Rattle.cvc_base.specs.Faults.{fault_on}
use Rattle.cvc_base.specs.Order.{◌>>=◌}
use Rattle.cvc_lex.specs.Bytes.{file_limit}
use Rattle.cvc_lex.specs.Lines.{closed_at_end, first_fault, lexical, sure_fault}
use Rattle.cvc_lex.specs.Physical.{ended}
use Rattle.cvc_lex.proofs.Faults.{at_end-sure, decided-append, sure_from_ended, sure_from_limit}
use Rattle.cvc_rows.specs.Rows.{rows_behind, rows_of, unless_lexical}
use Rattle.cvc_run.specs.Loads.{up_to}

module _ (kind : FileKind) where
  sure_past : (s : List ℕ) → file_limit kind < length s → (fault : Fault) × (sure_fault kind s ≡ Some fault)
  sure_past s long = by (first_fault kind [] (ended s)) refl
    where
      by : (o : Option Fault) → first_fault kind [] (ended s) ≡ o → (fault : Fault) × (sure_fault kind s ≡ Some fault)
      by None e = (fault_on kind (length (ended s) + 1) FileTooLong, sure_from_limit kind s e long)
      by (Some fault) e = (fault, sure_from_ended kind s fault e)

  module _ {A C : Type 0} (told : Cause → C) (verdict : List A → Line → Result A C) where
    rows_same : (a b : List ℕ) → lexical kind a ≡ lexical kind b → closed_at_end kind a ≡ closed_at_end kind b → rows_of told verdict kind a ≡ rows_of told verdict kind b
    unfolding rows_of
    rows_same a b first lines = λ i. ◌>>=◌ (rows_behind verdict [] (lines i)) (unless_lexical told (first i))

    rows_past : (s t : List ℕ) → file_limit kind < length s → rows_of told verdict kind (s ++ t) ≡ rows_of told verdict kind s
    rows_past s t long =
        let sure = sure_past s long in
        let whole = decided-append kind s t sure.0 sure.1 in
        let front = at_end-sure kind s sure.0 sure.1 in
        rows_same (s ++ t) s (whole.0 ∙ sym front.0) (whole.1 ∙ sym front.1)

    pub rows-up_to : (bytes : List ℕ) → rows_of told verdict kind (up_to (file_limit kind) bytes) ≡ rows_of told verdict kind bytes
    rows-up_to bytes = by (nat_lt (file_limit kind) (length bytes)) refl
      where
        by : (b : Bool) → nat_lt (file_limit kind) (length bytes) ≡ b → rows_of told verdict kind (up_to (file_limit kind) bytes) ≡ rows_of told verdict kind bytes
        by false e = let le : length bytes ≤ file_limit kind = grind (arith, nat_tests) in ap (rows_of told verdict kind) (take_all (file_limit kind + 1) bytes (omega arith))
        by true e =
            let lt : file_limit kind < length bytes = grind (arith, nat_tests) in
            let size : length (take (file_limit kind + 1) bytes) ≡ file_limit kind + 1 = length-take-le (file_limit kind + 1) bytes (omega arith) in
            sym (rows_past (take (file_limit kind + 1) bytes) (drop (file_limit kind + 1) bytes) (omega arith)) ∙ ap (rows_of told verdict kind) (take-append-drop (file_limit kind + 1) bytes)
