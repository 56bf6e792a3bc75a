-- What the steps of a run answer: what the definition says, or its refusal; a read fault, which has a cause; or want of memory, which is free.
use Rattle.std.specs.Prelude.{◌≡◌, Result, Ok, Err}
use Rattle.cvc_base.specs.declared.fault.Fault.{Fault}
use Rattle.cvc_base.specs.declared.fault.Refusal.{Refusal}
use Rattle.cvc_base.specs.declared.fault.Refusal.TheVariants as refusals
use Rattle.cvc_run.specs.Stages.{refused, refused_file}
use Rattle.cvc_run.specs.declared.stage.Refused.{Refused}
use Rattle.cvc_run.specs.declared.stage.Stage.{Stage}
use Rattle.cvc_run.specs.declared.stop.RunStop.{RunStop}
use Rattle.cvc_run.specs.declared.stop.RunStop.TheVariants.{At, Read, NoMemory}

-- the answer is what the definition says, seen through the view, or its refusal
abbrev pub Says : {A B F : Type 0} → (A → B) → Result A (RunStop F) → Result B F → Type 0
Says view (Ok x) wanted = wanted ≡ Ok (view x)
Says view (Err (At refusal)) wanted = wanted ≡ Err refusal
Says view (Err Read) wanted = Unit {0}
Says view (Err NoMemory) wanted = Unit {0}

-- the same of an answer with the fault alone, which names the file that is refused
abbrev pub SaysByFile : {A B : Type 0} → (A → B) → Result A (RunStop Fault) → Result B Refused → Type 0
SaysByFile view (Ok x) wanted = wanted ≡ Ok (view x)
SaysByFile view (Err (At fault)) wanted = wanted ≡ Err (refused_file fault)
SaysByFile view (Err Read) wanted = Unit {0}
SaysByFile view (Err NoMemory) wanted = Unit {0}

-- a fact on the refusal of an answer
abbrev pub IfAt : {A F : Type 0} → Result A (RunStop F) → (F → Type 0) → Type 0
IfAt (Ok x) P = Unit {0}
IfAt (Err (At refusal)) P = P refusal
IfAt (Err Read) P = Unit {0}
IfAt (Err NoMemory) P = Unit {0}

-- it is never refused
abbrev pub IsNeverAt : {A F : Type 0} → Result A (RunStop F) → Type 0
IsNeverAt result = IfAt result (λ refusal. ⊥)

-- a read fault is answered only with this cause
abbrev pub ReadOnlyWhere : {A F : Type 0} → Result A (RunStop F) → Type 0 → Type 0
ReadOnlyWhere (Ok x) cause = Unit {0}
ReadOnlyWhere (Err (At refusal)) cause = Unit {0}
ReadOnlyWhere (Err Read) cause = cause
ReadOnlyWhere (Err NoMemory) cause = Unit {0}

-- ## From one answer to another

abbrev pub load_fault_of : Refusal → RunStop Fault
load_fault_of (refusals.At fault) = At fault
load_fault_of refusals.NoMemory = NoMemory

-- the answer of a reader of bytes, as that of a load
abbrev pub as_load : {A : Type 0} → Result A Refusal → Result A (RunStop Fault)
as_load (Ok x) = Ok x
as_load (Err refusal) = Err (load_fault_of refusal)

-- the answer of a load, as that of the step of a run at this stage
abbrev pub as_step : {A : Type 0} → Stage → Result A (RunStop Fault) → Result A (RunStop Refused)
as_step stage (Ok x) = Ok x
as_step stage (Err (At fault)) = Err (At (refused stage fault))
as_step stage (Err Read) = Err Read
as_step stage (Err NoMemory) = Err NoMemory

abbrev pub fault_of_stop : RunStop Refused → RunStop Fault
fault_of_stop (At refusal) = At refusal.fault
fault_of_stop Read = Read
fault_of_stop NoMemory = NoMemory
