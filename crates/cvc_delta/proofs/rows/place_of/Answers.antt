use Rattle.std.proofs.Common.{arith}
use Rattle.cvc_delta.proofs.Searching.{found_first, found_none, none_more}
use Rattle.cvc_delta.proofs.rows.place_of.Goals as goal

pub loop-place-preserved : goal.loop-place-preserved
loop-place-preserved c =
    none_more c.args.rows.now c.args.name.now c.loop-place.place c.loop-place.invariant c.index-rows-place.result c.has_name.result (omega (arith, c.loop-place-test.true)) c.index-rows-place.is
    c.has_name.ensures c.if-has_name.false

pub returns-then-has_name-clause-place : goal.returns-then-has_name-clause-place
returns-then-has_name-clause-place c =
    found_first c.args.rows.now c.args.name.now c.loop-place.place c.loop-place.invariant c.index-rows-place.result c.has_name.result (omega (arith, c.loop-place-test.true)) c.index-rows-place.is
    c.has_name.ensures c.if-has_name.true

pub returns-clause-place : goal.returns-clause-place
returns-clause-place c =
    found_none c.args.rows.now c.args.name.now c.loop-place.place c.loop-place.invariant (omega (arith, c.loop-place-test.false))
