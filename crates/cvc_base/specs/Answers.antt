-- What clauses say of answers that are refused. A refusal is a fault, which the definition of the file names, or want of memory, which may come at any
-- call and says nothing else: these words leave it free.
use Rattle.std.specs.Prelude.{◌≡◌, Option, Some, None, Result, Ok, Err}
use Rattle.cvc_base.specs.declared.cause.Cause.{Cause}
use Rattle.cvc_base.specs.declared.fault.Fault.{Fault}
use Rattle.cvc_base.specs.declared.fault.Refusal.{Refusal}
use Rattle.cvc_base.specs.declared.fault.Refusal.TheVariants.{At, NoMemory}
use Rattle.cvc_base.specs.declared.stop.Stop.{Stop}
use Rattle.cvc_base.specs.declared.stop.Stop.TheVariants as stops

-- a fact on the fault of an answer
abbrev pub IfAt : {A : Type 0} → Result A Refusal → (Fault → Type 0) → Type 0
IfAt (Ok x) P = Unit {0}
IfAt (Err (At fault)) P = P fault
IfAt (Err NoMemory) P = Unit {0}

-- the answer is that there is no fault, or the fault
abbrev pub Refuses : {A : Type 0} → Option Fault → Result A Refusal → Type 0
Refuses fault (Ok x) = fault ≡ None
Refuses fault (Err (At first)) = fault ≡ Some first
Refuses fault (Err NoMemory) = Unit {0}

-- the refusal that an answer leaves
abbrev pub refusal_in : {A : Type 0} → Result A Refusal → Option Refusal
refusal_in (Ok x) = None
refusal_in (Err refusal) = Some refusal

-- the answer is what the definition says, seen through the view, or its fault
abbrev pub Gives : {A B : Type 0} → (A → B) → Result A Refusal → Result B Fault → Type 0
Gives view (Ok x) wanted = wanted ≡ Ok (view x)
Gives view (Err (At fault)) wanted = wanted ≡ Err fault
Gives view (Err NoMemory) wanted = Unit {0}

-- the same of an answer without its place
abbrev pub GivesOrStops : {A B : Type 0} → (A → B) → Result A Stop → Result B Cause → Type 0
GivesOrStops view (Ok x) wanted = wanted ≡ Ok (view x)
GivesOrStops view (Err (stops.At cause)) wanted = wanted ≡ Err cause
GivesOrStops view (Err stops.NoMemory) wanted = Unit {0}
