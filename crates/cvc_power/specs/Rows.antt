-- The voltages of one row of a power file. A row is `NET power V`, which declares one voltage, or `NET input MIN MAX`, which declares a lowest
-- and a highest; the words are read without regard to case. Its cause is BadRow where it has neither form, then BadVoltage where a voltage is
-- none, then MinAboveMax where the lowest exceeds the highest.
use Rattle.std.specs.Prelude.{ℕ, List, [], ◌∷◌, Result, Ok, Err, ℤ, int_lt, if◌then◌else◌, codes}
use Rattle.std.specs.Str.{str_eq_ignore_ascii_case}
use Rattle.cvc_base.specs.declared.cause.Cause.{Cause}
use Rattle.cvc_base.specs.declared.cause.Cause.TheVariants.{BadRow, MinAboveMax}
use Rattle.cvc_rows.specs.Tokens.{voltage_of}
use Rattle.cvc_power.specs.declared.row.Span.{Span}

-- one voltage is the lowest and the highest
abbrev pub exactly : Result ℤ Cause → Result Span Cause
exactly (Ok v) = Ok (record { low = v; high = v })
exactly (Err cause) = Err cause

-- of two, the first that is none decides, and then their order
abbrev pub between : Result ℤ Cause → Result ℤ Cause → Result Span Cause
between (Ok low) (Ok high) = if int_lt high low then Err MinAboveMax else Ok (record { low = low; high = high })
between (Ok low) (Err cause) = Err cause
between (Err cause) high = Err cause

-- the voltages of a row with these texts behind its name
unfoldable pub span_of : List (List ℕ) → Result Span Cause
span_of (word ∷ only ∷ []) = if str_eq_ignore_ascii_case word (codes "power") then exactly (voltage_of only) else Err BadRow
span_of (word ∷ min ∷ max ∷ []) = if str_eq_ignore_ascii_case word (codes "input") then between (voltage_of min) (voltage_of max) else Err BadRow
span_of _ = Err BadRow
