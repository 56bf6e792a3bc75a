-- A value under a condition, as the code and as the table says it.
use Rattle.std.proofs.Common.{◌≡◌, ℤ, Bool, true, false, Some, None, if◌then◌else◌, refl}
use Rattle.std.specs.Bool.{then_some}

pub then_some_is : (b : Bool) (x : ℤ) → then_some b x ≡ if b then Some x else None
then_some_is true x = refl
then_some_is false x = refl
