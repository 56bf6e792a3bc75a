use Rattle.std.proofs.Common.{◌<◌, length, arith, ap, ◌∙◌}
use Rattle.cvc_law.specs.ReachWord.{stored}
use Rattle.cvc_field.proofs.Opens.{row_pushed}
use Rattle.cvc_field.proofs.opening.start_words.Goals as goal

pub loop-n-preserved : goal.loop-n-preserved
loop-n-preserved c = let lt : c.loop-n.n < length c.args.circuit.now.fixed = omega arith in
    row_pushed c.loop-n.words.items c.push-in-loop-n.new.self.items c.push-in-loop-n-2.new.self.items _ c.args.circuit.now.fixed c.loop-n.n c.low_word.result c.high_word.result lt c.loop-n.invariant (c.low_word.ensures ∙ ap (stored 0) c.declared_low.ensures) (c.high_word.ensures ∙ ap (stored 1) c.declared_high.ensures) c.in_ok-push-2.ensures.items c.in_ok-push-3.ensures.items
