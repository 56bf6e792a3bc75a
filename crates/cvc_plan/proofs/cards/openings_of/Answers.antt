use Rattle.std.proofs.Common.{◌∷◌, ◌++◌, List, [], map, take, sym, ap, ◌∙◌, append_assoc, arith}
use Rattle.std.proofs.lemmas.List.{append-nil, take_all}
use Rattle.cvc_cdl.specs.declared.netlist.Global.{Global}
use Rattle.cvc_plan.specs.Nets.{Opening, opening_at}
use Rattle.cvc_plan.proofs.Growing.{grows_twice}
use Rattle.cvc_plan.proofs.Planned.{map_more, opening_more, openings_within}
use Rattle.cvc_plan.proofs.cards.openings_of.Goals as goal

abbrev of_global : Global → Opening
of_global g = opening_at g.line g.name

pub loop-global-preserved : goal.loop-global-preserved
loop-global-preserved c =
    let old = c.loop-global.names in
    let new = c.number.new.names in
    let os = c.loop-global.openings.items in
    let more = c.push.new.self.items in
    let g = c.global-item.result in
    let inv = c.loop-global.invariant in
    record {
      grows = grows_twice c.args.names.now old new inv.grows c.in_ok-name.ensures.grows;
      within = openings_within old new os more record { name = c.in_ok-name.name; line = g.line } c.in_ok-name.ensures.grows inv.within c.in_ok-name.ensures.within c.in_ok-push.ensures.items;
      openings = opening_more old new os more record { name = c.in_ok-name.name; line = g.line } (map of_global (take c.loop-global.global-index c.args.globals.now)) (of_global g) c.in_ok-name.ensures.grows inv.within inv.openings c.in_ok-push.ensures.items
          (ap (opening_at g.line) (c.in_ok-name.ensures.text ∙ c.bytes.ensures))
          ∙ map_more of_global c.args.globals.now c.loop-global.global-index g c.loop-global-test.true c.global-item.is;
    }

pub loop-port-init : goal.loop-port-init
loop-port-init c =
    let inv = c.loop-global.invariant in
    record {
      grows = inv.grows;
      within = inv.within;
      openings = inv.openings ∙ ap (map of_global) (take_all c.loop-global.global-index c.args.globals.now (omega (arith, c.loop-global-test.false))) ∙ sym (append-nil (map of_global c.args.globals.now));
    }

pub loop-port-preserved : goal.loop-port-preserved
loop-port-preserved c =
    let old = c.loop-port.names in
    let new = c.number-in-loop-port.new.names in
    let os = c.loop-port.openings.items in
    let more = c.push-in-loop-port.new.self.items in
    let port = c.port-item.result in
    let line = c.args.top.now.line in
    let ports = c.as_slice-port-items.result.now in
    let front : List Opening = map of_global c.args.globals.now in
    let done : List Opening = map (opening_at line) (take c.loop-port.port-index ports) in
    let inv = c.loop-port.invariant in
    record {
      grows = grows_twice c.args.names.now old new inv.grows c.in_ok-name-2.ensures.grows;
      within = openings_within old new os more record { name = c.in_ok-name-2.name; line = line } c.in_ok-name-2.ensures.grows inv.within c.in_ok-name-2.ensures.within c.in_ok-push-2.ensures.items;
      openings = opening_more old new os more record { name = c.in_ok-name-2.name; line = line } (front ++ done) (opening_at line port) c.in_ok-name-2.ensures.grows inv.within inv.openings c.in_ok-push-2.ensures.items
          (ap (opening_at line) (c.in_ok-name-2.ensures.text ∙ c.bytes-in-loop-port.ensures))
          ∙ append_assoc front done (opening_at line port ∷ [])
          ∙ ap (λ (l : List Opening). front ++ l) (map_more (opening_at line) ports c.loop-port.port-index port c.loop-port-test.true c.port-item.is);
    }

pub returns-clause-openings : goal.returns-clause-openings
returns-clause-openings c =
    let ports = c.as_slice-port-items.result.now in
    c.loop-port.invariant.openings
    ∙ ap (λ ps. map of_global c.args.globals.now ++ map (opening_at c.args.top.now.line) ps) (take_all c.loop-port.port-index ports (omega (arith, c.loop-port-test.false)) ∙ c.as_slice-port-items.ensures)
