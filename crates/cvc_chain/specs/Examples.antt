-- A resistor from a net at 1200 millivolts to another, computed.
use Rattle.std.specs.Prelude.{◌≡◌, ℕ, List, [], ◌∷◌, ◌++◌, Some, None, Result, Ok, Err, pos, neg_ℤ, codes, refl}
use Rattle.cvc_base.specs.declared.cause.Cause.{Cause}
use Rattle.cvc_base.specs.declared.cause.Cause.TheVariants.{BadRow}
use Rattle.cvc_rows.specs.declared.refused.LineFault.{LineFault}
use Rattle.std.proofs.Common.{arith}
use Rattle.std.proofs.lemmas.Int.{ints}
use Rattle.std.specs.Fmt.{digits}
use Rattle.cvc_base.specs.declared.device.Kind.TheVariants.{Resistor}
use Rattle.cvc_law.specs.declared.interval.Interval.{Interval}
use Rattle.cvc_law.specs.Network.{Network}
use Rattle.cvc_law.specs.Reach.{no_volts}
use Rattle.cvc_serial.specs.declared.log.LogLine.{LogLine}
use Rattle.cvc_serial.specs.Derivation.{family_of, AreJustified, declared_family}
use Rattle.cvc_chain.specs.Text.{log_text}
use Rattle.cvc_chain.specs.Replay.{StopsAt}
use Rattle.cvc_chain.specs.Reading.{log_behind, log_of, line_of}

abbrev circuit : Network
circuit = record {
  fixed = Some (record { low = pos 1200; high = pos 1200 }) ∷ None ∷ [];
  devices = record { kind = Resistor; pins = record { items = record { 0 = 0 } ∷ record { 0 = 1 } ∷ [] }; volts = no_volts } ∷ [];
}

abbrev line : ℕ → ℕ → LogLine
line slot value = record { device = 0; slot = slot; value = pos value }

abbrev log : List LogLine
log = line 0 1200 ∷ line 1 1200 ∷ []

abbrev at_1200 : Interval
at_1200 = record { low = Some (pos 1200); high = Some (pos 1200) }

family : family_of circuit log ≡ at_1200 ∷ at_1200 ∷ []
family = refl

-- `0 0 1200`, `0 1 1200`
justified : AreJustified circuit (declared_family circuit) log
justified = (record { free = refl; gives = refl }, (record { free = refl; gives = refl }, tt))

-- `0 0 1100`
another_value : StopsAt circuit (line 0 1100 ∷ []) 1
another_value = λ just. let gives : Some (pos 1200) ≡ Some (pos 1100) = just.gives in let same : pos 1200 ≡ pos 1100 = cc in omega (arith, ints)

text : log_text log ≡ codes "0 0 1200" ++ 10 ∷ codes "0 1 1200" ++ 10 ∷ []
unfolding digits
text = refl

-- what is written reads back
reads : log_of (log_text log) ≡ Ok log
unfolding digits log_of log_behind line_of
reads = refl

abbrev refused : ℕ → Cause → Result (List LogLine) (LineFault Cause)
refused line cause = Err (record { line = line; cause = cause })

-- no zero leads, no number is signed that is 0, and each line is ended
leading_zero : log_of (codes "0 0 01200" ++ 10 ∷ []) ≡ refused 1 BadRow
unfolding log_of log_behind line_of
leading_zero = refl

signed_zero : log_of (codes "0 0 1200" ++ 10 ∷ codes "0 1 -0" ++ 10 ∷ []) ≡ refused 2 BadRow
unfolding log_of log_behind line_of
signed_zero = refl

below_zero : log_of (codes "0 1 -1000000" ++ 10 ∷ []) ≡ Ok (record { device = 0; slot = 1; value = neg_ℤ (pos 1000000) } ∷ [])
unfolding log_of log_behind line_of
below_zero = refl

past_all_voltages : log_of (codes "0 1 1000001" ++ 10 ∷ []) ≡ refused 1 BadRow
unfolding log_of log_behind line_of
past_all_voltages = refl

fifth_slot : log_of (codes "0 4 0" ++ 10 ∷ []) ≡ refused 1 BadRow
unfolding log_of log_behind line_of
fifth_slot = refl

two_blanks : log_of (codes "0  1 0" ++ 10 ∷ []) ≡ refused 1 BadRow
unfolding log_of log_behind line_of
two_blanks = refl

not_ended : log_of (codes "0 0 1200") ≡ refused 1 BadRow
unfolding log_of log_behind line_of
not_ended = refl

empty_line : log_of (10 ∷ []) ≡ refused 1 BadRow
unfolding log_of log_behind line_of
empty_line = refl

no_lines : log_of [] ≡ Ok []
unfolding log_of log_behind
no_lines = refl
