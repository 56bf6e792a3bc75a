use Rattle.std.proofs.Common.{refl}
use Rattle.cvc_names.proofs.Repeats.{all_once, is_twice, none_once, one_more}
use Rattle.cvc_card.specs.Reading.{name_of}
use Rattle.cvc_card.proofs.instance.has_twice.Goals as goal

pub loop-pair-init : goal.loop-pair-init
loop-pair-init c = none_once c.new-seen.result c.new-seen.ensures

pub returns-then-not-branch : goal.returns-then-not-branch
returns-then-not-branch c =
    is_twice name_of c.args.pairs.now c.loop-pair.pair-index c.loop-pair-test.true c.loop-pair.seen c.loop-pair.invariant _ _ refl _ refl
    c.in_ok-insert.field-0 c.in_ok-insert.ensures.free c.if-not-branch.true

pub loop-pair-preserved : goal.loop-pair-preserved
loop-pair-preserved c =
    one_more name_of c.args.pairs.now c.loop-pair.pair-index c.loop-pair-test.true c.loop-pair.seen c.loop-pair.invariant _ _ refl _ refl
    c.in_ok-insert.field-0 c.in_ok-insert.ensures.free c.if-not-branch.false c.insert.new.self c.in_ok-insert.ensures.added

pub returns : goal.returns
returns c = all_once name_of c.args.pairs.now c.loop-pair.pair-index c.loop-pair.seen c.loop-pair.auto.pair-index-end c.loop-pair-test.false c.loop-pair.invariant
