use Rattle.std.proofs.Common.{◌≡◌, Bool, ◌≤◌, get_or, ◌∙◌, arith, cond}
use Rattle.cvc_lex.specs.Physical.{begins_token}
use Rattle.cvc_lex.proofs.Texts.{byte_is, count_end, count_small, count_step}
use Rattle.cvc_lex.proofs.tokens.token_count.Goals as goal

pub loop-byte-preserved : goal.loop-byte-preserved
loop-byte-preserved c =
    let begins : Bool = begins_token c.args.file c.loop-byte.inside (get_or c.args.text.now c.loop-byte.byte-index 0) in
    let one : c.from-count.result ≡ cond begins 1 0 = c.from-count.ensures ∙ rw (c.is_alone.ensures, c.is_word-word.ensures) (byte_is begins) in
    let small : c.from-count.result ≤ 1 = count_small begins c.from-count.result one in
    let few = c.loop-byte.invariant.0 in (
      omega (arith, small, few),
      λ number column. count_step c.args.file number column c.loop-byte.count c.loop-byte.inside c.loop-byte.byte-index c.args.text.now _ c.from-count.result c.is_word-word.result c.loop-byte-test.true one c.is_word-word.ensures (c.loop-byte.invariant.1 number column),
    )

pub returns : goal.returns
returns c = λ number column. count_end c.args.file number column c.loop-byte.count c.loop-byte.inside c.loop-byte.byte-index c.args.text.now _ c.loop-byte-test.false (c.loop-byte.invariant.1 number column)
