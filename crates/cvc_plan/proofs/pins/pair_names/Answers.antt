use Rattle.std.proofs.Common.{◌≡◌, ◌<◌, [], length, map, get_or, sym, ap, ◌∙◌, arith}
use Rattle.std.proofs.lemmas.List.{get_or-map, length-map}
use Rattle.cvc_names.specs.Names.{with_name}
use Rattle.cvc_plan.specs.Pins.{name_of_pair}
use Rattle.cvc_plan.proofs.Planned.{next_name}
use Rattle.cvc_plan.proofs.pins.pair_names.Goals as goal

pub loop-pair-preserved : goal.loop-pair-preserved
loop-pair-preserved c =
    let all = map name_of_pair c.args.pairs.now in
    let i = c.loop-pair.pair-index in
    let name = c.bytes.result.now in
    let below : i < length all = omega (arith, length-map c.args.pairs.now name_of_pair, c.loop-pair-test.true) in
    let is : name ≡ get_or all i [] = c.bytes.ensures ∙ ap name_of_pair c.pair-item.is ∙ sym (get_or-map name_of_pair c.args.pairs.now i c.pair-item.result [] c.loop-pair-test.true) in
    c.in_ok-number.ensures.names ∙ ap (λ ns. with_name ns name) c.loop-pair.invariant ∙ next_name all i name c.requires below is
