-- Whole files, computed, and what is missed of them.
use Rattle.std.specs.Prelude.{◌≡◌, [], ◌∷◌, ◌++◌, codes, Ok, Err, pos, refl, Some, None}
use Rattle.cvc_base.specs.declared.cause.Cause.TheVariants.{BadByte, BadRow, BadVoltage, TwiceRow}
use Rattle.cvc_base.specs.declared.ids.Side.TheVariants.{Low, High}
use Rattle.cvc_lex.specs.Physical.{ended, open_rest, physical, text_of, cut, shape_of, tokens_from, read}
use Rattle.cvc_lex.specs.Lines.{groups, logical, fault_with, fault_after, first_fault, faultless, lexical, lines, closed_at_end}
use Rattle.cvc_units.specs.Number.{millivolts_of, scale_of}
use Rattle.cvc_units.specs.Split.{split_of, exponent_at}
use Rattle.std.specs.Fmt.{digits}
use Rattle.cvc_rows.specs.Rows.{rows_behind, rows_of}
use Rattle.cvc_expect.specs.declared.row.Bound.TheVariants.{Any, Unknown, At}
use Rattle.cvc_expect.specs.Rows.{expected_of, row_in}
use Rattle.cvc_expect.specs.Misses.{missed_row, missed_from}
use Rattle.cvc_expect.specs.Text.{missed_text}

-- ## Files

-- `out ? 2.6`, `en * *`
two_rows : expected_of (codes "out ? 2.6" ++ 10 ∷ codes "en * *") ≡ Ok (record { name = codes "out"; low = Unknown; high = At (pos 2600); line = 1 } ∷ record { name = codes "en"; low = Any; high = Any; line = 2 } ∷ [])
unfolding rows_of rows_behind row_in millivolts_of split_of exponent_at scale_of closed_at_end lexical lines first_fault fault_after fault_with logical groups physical ended open_rest text_of cut shape_of tokens_from read
two_rows = refl

-- `out 0`, and `out 0 1 2`
two_tokens : expected_of (codes "out 0") ≡ Err record { line = 1; cause = BadRow }
unfolding rows_of rows_behind row_in millivolts_of split_of exponent_at scale_of closed_at_end lexical lines first_fault fault_after fault_with logical groups physical ended open_rest text_of cut shape_of tokens_from read
two_tokens = refl

four_tokens : expected_of (codes "out 0 1 2") ≡ Err record { line = 1; cause = BadRow }
unfolding rows_of rows_behind row_in millivolts_of split_of exponent_at scale_of closed_at_end lexical lines first_fault fault_after fault_with logical groups physical ended open_rest text_of cut shape_of tokens_from read
four_tokens = refl

-- `out * 1.0005`
too_fine : expected_of (codes "out * 1.0005") ≡ Err record { line = 1; cause = BadVoltage }
unfolding rows_of rows_behind row_in millivolts_of split_of exponent_at scale_of closed_at_end lexical lines first_fault fault_after fault_with logical groups physical ended open_rest text_of cut shape_of tokens_from read
too_fine = refl

-- `a * *`, `a ? ?`
twice : expected_of (codes "a * *" ++ 10 ∷ codes "a ? ?") ≡ Err record { line = 2; cause = TwiceRow }
unfolding rows_of rows_behind row_in millivolts_of split_of exponent_at scale_of closed_at_end lexical lines first_fault fault_after fault_with logical groups physical ended open_rest text_of cut shape_of tokens_from read
twice = refl

-- `a x`, and a control byte on the same line
byte_before : expected_of (codes "a x" ++ 1 ∷ []) ≡ Err record { line = 1; cause = BadByte }
unfolding rows_of rows_behind row_in millivolts_of split_of exponent_at scale_of closed_at_end faultless lexical lines first_fault fault_after fault_with logical groups physical ended open_rest text_of cut shape_of tokens_from read
byte_before = refl

-- ## What is missed

-- `out ? 2.6` and `en * *`, of nets that are found unknown and at 2600, and at 0 and 2500
none_missed : missed_from (record { low = Some (pos 0); high = Some (pos 2500) } ∷ record { low = None; high = Some (pos 2600) } ∷ []) 0 (record { 0 = 1 } ∷ record { 0 = 0 } ∷ [])
    (record { name = codes "out"; low = Unknown; high = At (pos 2600); line = 1 } ∷ record { name = codes "en"; low = Any; high = Any; line = 2 } ∷ []) ≡ []
unfolding missed_from
none_missed = refl

-- `out 0 2.5`, of a net that is found unknown and at 2600
two_missed : missed_row 0 record { name = codes "out"; low = At (pos 0); high = At (pos 2500); line = 1 } record { low = None; high = Some (pos 2600) }
    ≡ record { row = 0; side = Low; found = None } ∷ record { row = 0; side = High; found = Some (pos 2600) } ∷ []
two_missed = refl

-- `out ? ?`, of a net that is found at 0 and unknown
known_missed : missed_row 3 record { name = codes "out"; low = Unknown; high = Unknown; line = 7 } record { low = Some (pos 0); high = None } ≡ record { row = 3; side = Low; found = Some (pos 0) } ∷ []
known_missed = refl

-- ## Texts

none_told : missed_text [] [] ≡ codes "CVC expectations" ++ 10 ∷ codes "missed 0" ++ 10 ∷ []
unfolding missed_text digits
none_told = refl

two_told : missed_text (record { name = codes "out"; low = At (pos 0); high = At (pos 2500); line = 1 } ∷ []) (record { row = 0; side = Low; found = None } ∷ record { row = 0; side = High; found = Some (pos 2600) } ∷ [])
    ≡ codes "CVC expectations" ++ 10 ∷ codes "missed out low expected 0 found ?" ++ 10 ∷ codes "missed out high expected 2500 found 2600" ++ 10 ∷ codes "missed 2" ++ 10 ∷ []
unfolding missed_text digits
two_told = refl
