-- Faults by their parts, and the refusal that a stop at a line makes.
use Rattle.std.specs.Prelude.{ℕ}
use Rattle.cvc_base.specs.declared.cause.Cause.{Cause}
use Rattle.cvc_base.specs.declared.fault.Fault.{Fault}
use Rattle.cvc_base.specs.declared.fault.FileKind.{FileKind}
use Rattle.cvc_base.specs.declared.fault.Refusal.{Refusal}
use Rattle.cvc_base.specs.declared.fault.Refusal.TheVariants as refusals
use Rattle.cvc_base.specs.declared.stop.Stop.{Stop}
use Rattle.cvc_base.specs.declared.stop.Stop.TheVariants as stops

abbrev pub fault_on : FileKind → ℕ → Cause → Fault
fault_on file line cause = record { place = record { file = file; line = line }; cause = cause }

abbrev pub refusal_on : FileKind → ℕ → Stop → Refusal
refusal_on file line (stops.At cause) = refusals.At (fault_on file line cause)
refusal_on file line stops.NoMemory = refusals.NoMemory
