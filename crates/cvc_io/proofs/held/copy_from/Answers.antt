use Rattle.std.proofs.Common.{arith}
use Rattle.cvc_io.proofs.Places.{copied}
use Rattle.cvc_io.proofs.held.copy_from.Goals as goal

pub returns-clause-copied : goal.returns-clause-copied
returns-clause-copied c = copied c.args.bytes.now c.args.buf.now c.copy_from_slice.new.self c.args.at c.min-taken.result c.requires.start (omega (arith, c.min-taken.ensures)) c.copy_from_slice.ensures.after
