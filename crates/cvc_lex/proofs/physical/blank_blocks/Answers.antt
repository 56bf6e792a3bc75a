use Rattle.std.proofs.Common.{arith}
use Rattle.cvc_lex.specs.Bytes.{is_blank}
use Rattle.cvc_lex.proofs.Skipping.{skip_block}
use Rattle.cvc_lex.proofs.physical.blank_blocks.Goals as goal

pub loop-i-preserved : goal.loop-i-preserved
loop-i-preserved c = skip_block is_blank c.loop-i.i 16 c.is_blanks.result c.args.text.now (omega arith) c.is_blanks.ensures c.if-is_blanks.true c.loop-i.invariant
