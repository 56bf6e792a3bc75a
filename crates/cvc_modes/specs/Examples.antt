-- Whole lists, computed.
use Rattle.std.specs.Prelude.{◌≡◌, ℕ, true, List, [], ◌∷◌, ◌++◌, codes, Ok, Err, is_ok, refl}
use Rattle.std.specs.List.{flat_map}
use Rattle.cvc_base.specs.declared.cause.Cause.TheVariants.{BadByte, BadRow, TwiceRow}
use Rattle.cvc_lex.specs.Physical.{ended, open_rest, physical, text_of, cut, shape_of, tokens_from, read}
use Rattle.cvc_lex.specs.Lines.{groups, logical, fault_with, fault_after, first_fault, faultless, lexical, lines, closed_at_end}
use Rattle.cvc_rows.specs.Rows.{rows_behind, rows_of}
use Rattle.cvc_modes.specs.declared.fault.ListCause.TheVariants.{Text, TooMany}
use Rattle.cvc_modes.specs.Modes.{modes_of, row_in, row_with}

-- `a pa`, `b pb`
two_modes : modes_of (codes "a pa" ++ 10 ∷ codes "b pb") ≡ Ok (row_with 1 (codes "a") (codes "pa") ∷ row_with 2 (codes "b") (codes "pb") ∷ [])
unfolding rows_of rows_behind row_in closed_at_end lexical lines first_fault fault_after fault_with logical groups physical ended open_rest text_of cut shape_of tokens_from read
two_modes = refl

-- no row
none : modes_of [] ≡ Ok []
unfolding rows_of rows_behind row_in closed_at_end lexical lines first_fault fault_after fault_with logical groups physical ended open_rest text_of cut shape_of tokens_from read
none = refl

-- `a pa`, `a pb`
twice : modes_of (codes "a pa" ++ 10 ∷ codes "a pb") ≡ Err (record { line = 2; cause = Text TwiceRow })
unfolding rows_of rows_behind row_in closed_at_end lexical lines first_fault fault_after fault_with logical groups physical ended open_rest text_of cut shape_of tokens_from read
twice = refl

-- two modes of one power file, and a third word
three_words : modes_of (codes "a p" ++ 10 ∷ codes "A p" ++ 10 ∷ codes "b p q") ≡ Err (record { line = 3; cause = Text BadRow })
unfolding rows_of rows_behind row_in closed_at_end lexical lines first_fault fault_after fault_with logical groups physical ended open_rest text_of cut shape_of tokens_from read
three_words = refl

-- a control byte on the line of a row that is bad, too
byte_before : modes_of (codes "a" ++ 1 ∷ []) ≡ Err (record { line = 1; cause = Text BadByte })
unfolding rows_of rows_behind row_in closed_at_end faultless lexical lines first_fault fault_after fault_with logical groups physical ended open_rest text_of cut shape_of tokens_from read
byte_before = refl

-- ## As many as there are at most, and one more

-- a row of one power file for each of these letters
abbrev rows : List ℕ → List ℕ
rows letters = flat_map (λ c. c ∷ codes " p" ++ 10 ∷ []) letters

sixteen : is_ok (modes_of (rows (codes "abcdefghijklmnop"))) ≡ true
unfolding rows_of rows_behind row_in closed_at_end lexical lines first_fault fault_after fault_with logical groups physical ended open_rest text_of cut shape_of tokens_from read
sixteen = refl

seventeen : modes_of (rows (codes "abcdefghijklmnopq")) ≡ Err (record { line = 17; cause = TooMany })
unfolding rows_of rows_behind row_in closed_at_end lexical lines first_fault fault_after fault_with logical groups physical ended open_rest text_of cut shape_of tokens_from read
seventeen = refl

-- the seventeenth row is of an earlier mode
seventeenth_twice : modes_of (rows (codes "abcdefghijklmnopa")) ≡ Err (record { line = 17; cause = Text TwiceRow })
unfolding rows_of rows_behind row_in closed_at_end lexical lines first_fault fault_after fault_with logical groups physical ended open_rest text_of cut shape_of tokens_from read
seventeenth_twice = refl
