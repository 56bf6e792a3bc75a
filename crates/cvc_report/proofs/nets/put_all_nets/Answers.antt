use Rattle.std.proofs.Common.{arith}
use Rattle.std.proofs.lemmas.Result.{err_from_is_err_and}
use Rattle.cvc_law.specs.Network.{nets}
use Rattle.cvc_text.proofs.Putting.{nothing_put}
use Rattle.cvc_report.proofs.Naming.{nets_more, nets_stopped}
use Rattle.cvc_report.proofs.nets.put_all_nets.Goals as goal

pub returns-in_err-put_net : goal.returns-in_err-put_net
returns-in_err-put_net g c =
    let p = err_from_is_err_and c.from_residual.result c.from_residual.ensures.1 in
    rw p.1 (nets_stopped c.args.circuit.now c.args.flat.now.list c.args.family.now c.loop-n.n (nets c.args.circuit.now) _ p.0 _ _ _ (omega (arith, c.loop-n-test.true, c.nets-n-end.ensures.count)) c.loop-n.invariant c.in_err-put_net.ensures)

pub loop-n-preserved : goal.loop-n-preserved
loop-n-preserved g c = nets_more c.args.circuit.now c.args.flat.now.list c.args.family.now c.loop-n.n _ _ _ _ c.loop-n.invariant c.in_ok-put_net.ensures

pub loop-n-init : goal.loop-n-init
loop-n-init g c = nothing_put _
