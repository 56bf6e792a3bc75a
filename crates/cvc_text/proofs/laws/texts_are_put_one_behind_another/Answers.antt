use Rattle.cvc_text.proofs.Putting.{nothing_put, puts_then, puts_stopped}
use Rattle.cvc_text.proofs.laws.texts_are_put_one_behind_another.Goals as goal

pub returns : goal.returns
returns c = record { none = nothing_put; both = λ u r. puts_then u r; stopped = λ e f. puts_stopped e f }
