-- What clauses say of answers that may be refused, and the refusal of an input file by that of its rows.
use Rattle.std.specs.Prelude.{◌≡◌, ℕ, Result, Ok, Err}
use Rattle.cvc_base.specs.declared.cause.Cause.{Cause}
use Rattle.cvc_base.specs.declared.fault.FileKind.{FileKind}
use Rattle.cvc_base.specs.declared.fault.Refusal.{Refusal}
use Rattle.cvc_base.specs.declared.fault.Refusal.TheVariants as input
use Rattle.cvc_base.specs.Faults.{fault_on}
use Rattle.cvc_rows.specs.declared.refused.LineFault.{LineFault}
use Rattle.cvc_rows.specs.declared.refused.Refused.{Refused}
use Rattle.cvc_rows.specs.declared.refused.Refused.TheVariants.{At, NoMemory}

-- the answer is what the definition says, or its fault; want of memory may come at any call and says nothing
abbrev pub Answers : {A F : Type 0} → Result A (Refused F) → Result A F → Type 0
Answers (Ok x) wanted = wanted ≡ Ok x
Answers (Err (At fault)) wanted = wanted ≡ Err fault
Answers (Err NoMemory) wanted = Unit {0}

-- the same of the line with this number
abbrev pub refused_at : {C : Type 0} → ℕ → Refused C → Refused (LineFault C)
refused_at line (At cause) = At (record { line = line; cause = cause })
refused_at line NoMemory = NoMemory

abbrev pub refusal_in : FileKind → Refused (LineFault Cause) → Refusal
refusal_in file (At fault) = input.At (fault_on file fault.line fault.cause)
refusal_in file NoMemory = input.NoMemory
