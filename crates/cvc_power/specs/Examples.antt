-- Whole files, computed.
use Rattle.std.specs.Prelude.{◌≡◌, [], ◌∷◌, ◌++◌, codes, Ok, Err, pos, refl}
use Rattle.cvc_base.specs.declared.cause.Cause.TheVariants.{BadByte, BadRow, BadVoltage, MinAboveMax, TwiceRow}
use Rattle.cvc_base.specs.declared.fault.FileKind.TheVariants.{Power}
use Rattle.cvc_lex.specs.Physical.{ended, open_rest, physical, text_of, cut, shape_of, tokens_from, read}
use Rattle.cvc_base.specs.Faults.{fault_on}
use Rattle.cvc_lex.specs.Lines.{groups, logical, fault_with, fault_after, first_fault, faultless, lexical, lines, closed_at_end}
use Rattle.cvc_units.specs.Number.{millivolts_of, scale_of}
use Rattle.cvc_units.specs.Split.{split_of, exponent_at}
use Rattle.cvc_power.specs.Rows.{span_of}
use Rattle.cvc_rows.specs.Rows.{rows_behind, rows_of}
use Rattle.cvc_power.specs.Power.{power_of, row_in}

-- `VDD power 1.2005`
too_fine : power_of (codes "VDD power 1.2005") ≡ Err (fault_on Power 1 BadVoltage)
unfolding rows_of rows_behind row_in span_of millivolts_of split_of exponent_at scale_of closed_at_end lexical lines first_fault fault_after fault_with logical groups physical ended open_rest text_of cut shape_of tokens_from read
too_fine = refl

-- `a input 1 0`
reversed : power_of (codes "a input 1 0") ≡ Err (fault_on Power 1 MinAboveMax)
unfolding rows_of rows_behind row_in span_of millivolts_of split_of exponent_at scale_of closed_at_end lexical lines first_fault fault_after fault_with logical groups physical ended open_rest text_of cut shape_of tokens_from read
reversed = refl

-- `a power 1`, `a power 2`
twice : power_of (codes "a power 1" ++ 10 ∷ codes "a power 2") ≡ Err (fault_on Power 2 TwiceRow)
unfolding rows_of rows_behind row_in span_of millivolts_of split_of exponent_at scale_of closed_at_end lexical lines first_fault fault_after fault_with logical groups physical ended open_rest text_of cut shape_of tokens_from read
twice = refl

-- `a ground`, and a control byte on the next line, or on the same
row_before : power_of (codes "a ground" ++ 10 ∷ 1 ∷ []) ≡ Err (fault_on Power 1 BadRow)
unfolding rows_of rows_behind row_in span_of millivolts_of split_of exponent_at scale_of closed_at_end faultless lexical lines first_fault fault_after fault_with logical groups physical ended open_rest text_of cut shape_of tokens_from read
row_before = refl

byte_before : power_of (codes "a ground" ++ 1 ∷ []) ≡ Err (fault_on Power 1 BadByte)
unfolding rows_of rows_behind row_in span_of millivolts_of split_of exponent_at scale_of closed_at_end faultless lexical lines first_fault fault_after fault_with logical groups physical ended open_rest text_of cut shape_of tokens_from read
byte_before = refl

-- `A POWER 1.2`, `a input 0 1 # core`
two_rows : power_of (codes "A POWER 1.2" ++ 10 ∷ codes "a input 0 1 # core") ≡ Ok (record { name = codes "A"; low = pos 1200; high = pos 1200; line = 1 } ∷ record { name = codes "a"; low = pos 0; high = pos 1000; line = 2 } ∷ [])
unfolding rows_of rows_behind row_in span_of millivolts_of split_of exponent_at scale_of closed_at_end lexical lines first_fault fault_after fault_with logical groups physical ended open_rest text_of cut shape_of tokens_from read
two_rows = refl
