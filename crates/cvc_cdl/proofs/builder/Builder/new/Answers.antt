use Rattle.std.proofs.Common.{[], None, sym, subst}
use Rattle.cvc_cdl.specs.Builder.{Draft, HasBuilt}
use Rattle.cvc_cdl.proofs.Standing.{stands_new}
use Rattle.cvc_cdl.proofs.builder.Builder.new.Goals as goal

pub returns-clause-stands : goal.returns-clause-stands
returns-clause-stands c = let P : Draft → Type 0 = λ d. HasBuilt d [] None in subst P (sym c.new.ensures) stands_new
