-- What tokens of rows say: their texts, and voltages.
use Rattle.std.specs.Prelude.{ℕ, ℤ, List, map, Result, Ok, Err}
use Rattle.cvc_base.specs.declared.cause.Cause.{Cause}
use Rattle.cvc_base.specs.declared.cause.Cause.TheVariants.{BadVoltage}
use Rattle.cvc_base.specs.declared.line.Token.{Token}
use Rattle.cvc_units.specs.declared.fault.NumFault.{NumFault}
use Rattle.cvc_units.specs.Number.{millivolts_of}

abbrev pub text_of : Token → List ℕ
text_of token = token.text

abbrev pub texts_of : List Token → List (List ℕ)
texts_of tokens = map text_of tokens

-- a text that is no voltage is BadVoltage, whatever it lacks
abbrev pub voltage_from : Result ℤ NumFault → Result ℤ Cause
voltage_from (Ok v) = Ok v
voltage_from (Err e) = Err BadVoltage

abbrev pub voltage_of : List ℕ → Result ℤ Cause
voltage_of text = voltage_from (millivolts_of text)
