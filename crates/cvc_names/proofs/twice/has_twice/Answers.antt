use Rattle.std.proofs.Common.{ℕ, List, ap, map-id, ◌∙◌}
use Rattle.cvc_names.specs.Names.{has_twice}
use Rattle.cvc_names.proofs.Repeats.{all_once, is_twice, none_once, one_more}
use Rattle.cvc_names.proofs.twice.has_twice.Goals as goal

pub loop-name-init : goal.loop-name-init
loop-name-init c = none_once c.new-seen.result c.new-seen.ensures

pub returns-then-not-branch : goal.returns-then-not-branch
returns-then-not-branch c =
    is_twice (λ (name : List ℕ). name) c.args.names.now c.loop-name.name-index c.loop-name-test.true c.loop-name.seen c.loop-name.invariant c.name-item.result c.name-item.result c.name-item.is c.bytes.result.now c.bytes.ensures
    c.in_ok-insert.field-0 c.in_ok-insert.ensures.free c.if-not-branch.true
    ∙ ap has_twice (map-id c.args.names.now)

pub loop-name-preserved : goal.loop-name-preserved
loop-name-preserved c =
    one_more (λ (name : List ℕ). name) c.args.names.now c.loop-name.name-index c.loop-name-test.true c.loop-name.seen c.loop-name.invariant c.name-item.result c.name-item.result c.name-item.is c.bytes.result.now c.bytes.ensures
    c.in_ok-insert.field-0 c.in_ok-insert.ensures.free c.if-not-branch.false c.insert.new.self c.in_ok-insert.ensures.added

pub returns : goal.returns
returns c =
    all_once (λ (name : List ℕ). name) c.args.names.now c.loop-name.name-index c.loop-name.seen c.loop-name.auto.name-index-end c.loop-name-test.false c.loop-name.invariant
    ∙ ap has_twice (map-id c.args.names.now)
