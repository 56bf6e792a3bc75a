use Rattle.std.proofs.Common.{[], ◌∷◌}
use Rattle.std.proofs.lemmas.Result.{err_from_is_err_and}
use Rattle.cvc_text.specs.Printed.{word_text}
use Rattle.cvc_text.proofs.Putting.{puts_then, puts_stopped}
use Rattle.cvc_text.proofs.buffer.TextBuffer.put_behind.Goals as goal

pub returns-in_err-put : goal.returns-in_err-put
returns-in_err-put g c =
    let p = err_from_is_err_and c.from_residual.result c.from_residual.ensures.1 in
    rw p.1 (puts_stopped _ p.0 _ _ (32 ∷ []) (word_text c.args.word.now) c.in_err-put.ensures)

pub returns : goal.returns
returns g c = puts_then _ c.put_word.result _ _ _ (32 ∷ []) (word_text c.args.word.now) c.in_ok-put.ensures c.put_word.ensures
