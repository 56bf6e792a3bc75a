use Rattle.cvc_top.proofs.Verifying.{verdict_named}
use Rattle.cvc_top.proofs.verify.judge.Goals as goal

pub returns-clause-named : goal.returns-clause-named
returns-clause-named c =
    verdict_named c.args.bound.circuit c.args.bound.flat.list c.args.log.now c.args.nets c.bytes.result.now c.in_ok-verdict.verdict c.requires.bound c.in_ok-verdict.ensures.says
