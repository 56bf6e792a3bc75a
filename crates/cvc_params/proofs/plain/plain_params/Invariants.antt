use Rattle.std.proofs.Common.{◌≡◌, take, true}
use Rattle.cvc_params.specs.Plain.{are_plain}
use Rattle.cvc_params.proofs.Plainly.{HaveParams}
use Rattle.cvc_params.proofs.plain.plain_params.Given as goal

abbrev pub invariant-loop-pair : goal.invariant-loop-pair
invariant-loop-pair l = HaveParams (take l.pair-index l.pairs) l.params × (are_plain (take l.pair-index l.pairs) ≡ true)
