-- What is said of an answer by the cause at which reading stopped. Want of memory says nothing.
use Rattle.std.specs.Prelude.{◌≡◌, Bool, true, false, Result, Ok, Err}
use Rattle.cvc_base.specs.declared.cause.Cause.TheVariants.{LongToken}
use Rattle.cvc_base.specs.declared.stop.Stop.{Stop}
use Rattle.cvc_base.specs.declared.stop.Stop.TheVariants.{At, NoMemory}

-- it stops at a long token exactly where there is one
abbrev pub StopsLong : Bool → Result (Unit {0}) Stop → Type 0
StopsLong long (Ok done) = long ≡ false
StopsLong long (Err (At cause)) = (cause ≡ LongToken) × (long ≡ true)
StopsLong long (Err NoMemory) = Unit {0}
