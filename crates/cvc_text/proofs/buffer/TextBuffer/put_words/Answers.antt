use Rattle.std.proofs.Common.{◌∷◌, sym}
use Rattle.std.proofs.lemmas.List.{take_all}
use Rattle.std.proofs.lemmas.List.Folds.{flat_map-map}
use Rattle.std.proofs.lemmas.Result.{err_from_is_err_and}
use Rattle.cvc_text.specs.Printed.{word_text}
use Rattle.cvc_text.proofs.Putting.{item_put, item_stopped}
use Rattle.cvc_text.proofs.buffer.TextBuffer.put_words.Goals as goal

pub returns-in_err-put_behind : goal.returns-in_err-put_behind
returns-in_err-put_behind g c =
    let p = err_from_is_err_and c.from_residual.result c.from_residual.ensures.1 in
    rw (p.1, flat_map-map (λ w. 32 ∷ w) word_text c.args.words.now) (item_stopped (λ w. 32 ∷ word_text w) c.args.words.now c.loop-word.word-index c.word-item.result _ _ p.0 _ _ _ c.word-item.is c.loop-word-test.true c.loop-word.invariant c.in_err-put_behind.ensures)

pub loop-word-preserved : goal.loop-word-preserved
loop-word-preserved g c = item_put (λ w. 32 ∷ word_text w) c.args.words.now c.loop-word.word-index c.word-item.result _ _ _ _ _ c.word-item.is c.loop-word-test.true c.loop-word.invariant c.in_ok-put_behind.ensures

pub returns : goal.returns
returns g c = rw (flat_map-map (λ w. 32 ∷ w) word_text c.args.words.now, sym (take_all c.loop-word.word-index c.args.words.now c.loop-word-test.false)) c.loop-word.invariant
