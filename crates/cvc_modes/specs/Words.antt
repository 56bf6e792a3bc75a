-- The words of the causes of lists.
use Rattle.std.specs.Prelude.{ℕ, List, codes}
use Rattle.cvc_base.specs.Words as causes
use Rattle.cvc_modes.specs.declared.fault.ListCause.{ListCause}
use Rattle.cvc_modes.specs.declared.fault.ListCause.TheVariants.{Text, TooMany}

abbrev pub word_of : ListCause → List ℕ
word_of (Text cause) = causes.word_of cause
word_of TooMany = codes "too-many-modes"
