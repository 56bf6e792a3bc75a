use Rattle.std.proofs.Common.{◌≡◌, ◌<◌, [], length, map, get_or, sym, ap, ◌∙◌, arith}
use Rattle.std.proofs.lemmas.List.{get_or-map, length-map}
use Rattle.cvc_cdl.specs.Netlist.{name_of_global}
use Rattle.cvc_names.specs.Names.{with_name}
use Rattle.cvc_plan.proofs.Planned.{next_name}
use Rattle.cvc_plan.proofs.cards.global_names.Goals as goal

pub loop-global-preserved : goal.loop-global-preserved
loop-global-preserved c =
    let all = map name_of_global c.args.globals.now in
    let i = c.loop-global.global-index in
    let name = c.bytes.result.now in
    let below : i < length all = omega (arith, length-map c.args.globals.now name_of_global, c.loop-global-test.true) in
    let is : name ≡ get_or all i [] = c.bytes.ensures ∙ ap name_of_global c.global-item.is ∙ sym (get_or-map name_of_global c.args.globals.now i c.global-item.result [] c.loop-global-test.true) in
    c.in_ok-number.ensures.names ∙ ap (λ ns. with_name ns name) c.loop-global.invariant ∙ next_name all i name c.requires below is
