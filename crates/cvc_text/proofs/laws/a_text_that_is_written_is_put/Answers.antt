use Rattle.std.proofs.Common.{[], refl}
use Rattle.cvc_text.proofs.Putting.{written_put}
use Rattle.cvc_text.proofs.laws.a_text_that_is_written_is_put.Goals as goal

pub returns : goal.returns
returns c = λ r before after early late text written cause. written_put r before after early late [] text text refl written cause
