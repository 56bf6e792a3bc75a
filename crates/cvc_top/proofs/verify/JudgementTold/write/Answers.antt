use Rattle.cvc_top.proofs.verify.JudgementTold.write.Goals as goal

pub returns-in-Line-clause-written : goal.returns-in-Line-clause-written
returns-in-Line-clause-written g c = rw c.in-Line.is (rw c.from.ensures at c.write_rejected_at.ensures.written)

pub returns-in-Byte-clause-written : goal.returns-in-Byte-clause-written
returns-in-Byte-clause-written g c = rw c.in-Byte.is c.write_rejected_at-in-Byte.ensures.written
