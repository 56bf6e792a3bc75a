use Rattle.std.proofs.Common.{arith}
use Rattle.cvc_lex.specs.Bytes.{is_word}
use Rattle.cvc_lex.proofs.Skipping.{skip_block}
use Rattle.cvc_lex.proofs.tokens.word_blocks.Goals as goal

pub loop-i-preserved : goal.loop-i-preserved
loop-i-preserved c = skip_block (is_word c.args.file) c.loop-i.i 16 c.is_words.result c.args.text.now (omega arith) c.is_words.ensures c.if-is_words.true c.loop-i.invariant
