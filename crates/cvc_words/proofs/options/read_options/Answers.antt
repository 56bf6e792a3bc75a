use Rattle.std.proofs.Common.{ap, ◌∙◌}
use Rattle.std.proofs.lemmas.Result.{err_from_is_err_and}
use Rattle.cvc_words.specs.Options.{with_word}
use Rattle.cvc_words.specs.Views.{options_view}
use Rattle.cvc_words.proofs.Stepping.{refused, taken, ended}
use Rattle.cvc_words.proofs.options.read_options.Goals as goal

pub returns-in_err-options-clause-options : goal.returns-in_err-options-clause-options
returns-in_err-options-clause-options c =
    let o = options_view c.loop-word.options in
    let p = err_from_is_err_and c.from_residual.result c.from_residual.ensures.1 in
    let e = c.in_err-options.ensures.option ∙ ap (with_word c.args.takes o) c.bytes.ensures in
    rw (p.1, p.2) (refused c.args.takes o c.args.words.now c.loop-word.word-index c.word-item.result _ _ c.loop-word-test.true c.word-item.is e c.loop-word.invariant.so_far)

pub loop-word-preserved : goal.loop-word-preserved
loop-word-preserved c =
    let o = options_view c.loop-word.options in
    let e = c.in_ok-options.ensures.option ∙ ap (with_word c.args.takes o) c.bytes.ensures in
    record {
      so_far = taken c.args.takes o (options_view c.in_ok-options.options) c.args.words.now c.loop-word.word-index c.word-item.result _ c.loop-word-test.true c.word-item.is e c.loop-word.invariant.so_far;
      limited = c.in_ok-options.ensures.limited;
    }

pub returns-clause-options : goal.returns-clause-options
returns-clause-options c = ended c.args.takes (options_view c.loop-word.options) c.args.words.now c.loop-word.word-index _ c.loop-word-test.false c.loop-word.invariant.so_far
