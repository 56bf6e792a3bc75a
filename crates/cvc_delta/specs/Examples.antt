-- Edits of one declared row, computed.
use Rattle.std.specs.Prelude.{◌≡◌, List, [], ◌∷◌, ◌++◌, codes, Ok, Err, pos, refl}
use Rattle.cvc_base.specs.declared.cause.Cause.TheVariants.{BadRow}
use Rattle.cvc_lex.specs.Physical.{ended, open_rest, physical, text_of, cut, shape_of, tokens_from, read}
use Rattle.cvc_lex.specs.Lines.{groups, logical, fault_with, fault_after, first_fault, faultless, lexical, lines, closed_at_end}
use Rattle.cvc_power.specs.declared.row.PowerRow.{PowerRow}
use Rattle.cvc_power.specs.Power.{row_with}
use Rattle.cvc_power.specs.Rows.{span_of}
use Rattle.cvc_rows.specs.Rows.{rows_behind, rows_of}
use Rattle.cvc_units.specs.Number.{millivolts_of, scale_of}
use Rattle.cvc_units.specs.Split.{split_of, exponent_at}
use Rattle.cvc_delta.specs.declared.edit.Edit.TheVariants.{Set, Unset, Recheck}
use Rattle.cvc_delta.specs.declared.fault.EditsCause.TheVariants.{Text, NotThere}
use Rattle.cvc_delta.specs.Edits.{numbered_from, set_row, unset_row, after_all}
use Rattle.cvc_delta.specs.Reading.{edit_of, edits_of}

-- `VDD power 1.2`
abbrev vdd : PowerRow
vdd = row_with 1 (codes "VDD") (record { low = pos 1200; high = pos 1200 })

-- `set n1 power 0`, `recheck`, `unset n1`, `recheck`
four_edits : edits_of (vdd ∷ []) (codes "set n1 power 0" ++ 10 ∷ codes "RECHECK" ++ 10 ∷ codes "unset n1" ++ 10 ∷ codes "recheck") ≡ Ok (Set (codes "n1") (pos 0) (pos 0) ∷ Recheck ∷ Unset (codes "n1") ∷ Recheck ∷ [])
unfolding edit_of numbered_from after_all span_of millivolts_of split_of exponent_at scale_of rows_of rows_behind closed_at_end lexical lines first_fault fault_after fault_with logical groups physical ended open_rest text_of cut shape_of tokens_from read
four_edits = refl

-- `unset VSS`
not_there : edits_of (vdd ∷ []) (codes "unset VSS") ≡ Err (record { line = 1; cause = NotThere })
unfolding edit_of numbered_from after_all rows_of rows_behind closed_at_end lexical lines first_fault fault_after fault_with logical groups physical ended open_rest text_of cut shape_of tokens_from read
not_there = refl

-- `unset VDD`, `unset VDD`
twice : edits_of (vdd ∷ []) (codes "unset VDD" ++ 10 ∷ codes "unset VDD") ≡ Err (record { line = 2; cause = NotThere })
unfolding edit_of numbered_from after_all rows_of rows_behind closed_at_end lexical lines first_fault fault_after fault_with logical groups physical ended open_rest text_of cut shape_of tokens_from read
twice = refl

-- `set VDD`
too_short : edits_of (vdd ∷ []) (codes "set VDD") ≡ Err (record { line = 1; cause = Text BadRow })
unfolding edit_of numbered_from after_all span_of rows_of rows_behind closed_at_end lexical lines first_fault fault_after fault_with logical groups physical ended open_rest text_of cut shape_of tokens_from read
too_short = refl

-- a new row stands last, and one that is there keeps its place
second_row : set_row (vdd ∷ []) (codes "zz") (pos 1000) (pos 1000) ≡ vdd ∷ row_with 2 (codes "zz") (record { low = pos 1000; high = pos 1000 }) ∷ []
second_row = refl

same_place : set_row (vdd ∷ row_with 2 (codes "zz") (record { low = pos 1000; high = pos 1000 }) ∷ []) (codes "VDD") (pos 0) (pos 1200)
    ≡ row_with 1 (codes "VDD") (record { low = pos 0; high = pos 1200 }) ∷ row_with 2 (codes "zz") (record { low = pos 1000; high = pos 1000 }) ∷ []
same_place = refl

-- later rows move up
moved_up : unset_row (vdd ∷ row_with 2 (codes "zz") (record { low = pos 1000; high = pos 1000 }) ∷ []) (codes "VDD") ≡ row_with 1 (codes "zz") (record { low = pos 1000; high = pos 1000 }) ∷ []
unfolding numbered_from
moved_up = refl
