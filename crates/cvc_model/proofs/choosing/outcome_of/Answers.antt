use Rattle.std.proofs.Common.{sym, arith}
use Rattle.cvc_model.proofs.Stepping.{one_test, no_test}
use Rattle.cvc_model.proofs.choosing.outcome_of.Goals as goal

pub returns-in-Fails : goal.returns-in-Fails
returns-in-Fails c =
    sym (one_test c.args.tests.now c.as_slice-test-items.result.now c.as_slice-test-items.ensures c.args.params.now c.loop-test.test-index c.loop-test.invariant
    c.test-item.result (omega arith) c.test-item.is _ c.in-Fails.ensures)

pub returns-in-Word : goal.returns-in-Word
returns-in-Word c =
    sym (one_test c.args.tests.now c.as_slice-test-items.result.now c.as_slice-test-items.ensures c.args.params.now c.loop-test.test-index c.loop-test.invariant
    c.test-item.result (omega arith) c.test-item.is _ c.in-Word.ensures)

pub loop-test-preserved : goal.loop-test-preserved
loop-test-preserved c =
    one_test c.args.tests.now c.as_slice-test-items.result.now c.as_slice-test-items.ensures c.args.params.now c.loop-test.test-index c.loop-test.invariant
    c.test-item.result (omega arith) c.test-item.is _ c.in-Holds.ensures

pub returns : goal.returns
returns c = no_test c.args.tests.now c.as_slice-test-items.result.now c.as_slice-test-items.ensures c.args.params.now c.loop-test.test-index c.loop-test.invariant (omega arith)
