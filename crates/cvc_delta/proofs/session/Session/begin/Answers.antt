use Rattle.std.proofs.Common.{arith}
use Rattle.cvc_delta.proofs.Holding.{begun}
use Rattle.cvc_delta.proofs.session.Session.begin.Goals as goal

pub invariant_of-result : goal.invariant_of-result
invariant_of-result c =
    begun c.args.flat.now.list c.args.models.now c.args.power c.number.new.rows c.requires.models c.number.ensures c.requires.ordered c.requires.apart
    (let most = c.if-len.false in let count = c.len.ensures in omega (arith, most, count))
