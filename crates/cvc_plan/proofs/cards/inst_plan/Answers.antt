use Rattle.std.proofs.Common.{◌∷◌, [], length, get_or, take, List, ℕ, sym, ap, subst, ◌∙◌, length-append, arith}
use Rattle.cvc_cdl.specs.declared.netlist.Cell.{Cell}
use Rattle.cvc_cdl.specs.Instances.{cell_for, no_cell}
use Rattle.cvc_plan.specs.Nets.{connections_of}
use Rattle.cvc_plan.specs.Pins.{ArePortPlans}
use Rattle.cvc_plan.proofs.Pinned.{front_stays}
use Rattle.cvc_plan.proofs.Planned.{part_listed, part_stays}
use Rattle.cvc_plan.proofs.cards.inst_plan.Goals as goal

pub returns-clause-plan : goal.returns-clause-plan
returns-clause-plan c = λ n globals inside at used.
    let old = c.args.cards.now.names in
    let first = c.part_of.new.names in
    let new = c.port_plans.new.names in
    let g = c.args.globals in
    let card = c.args.card.now in
    let part = c.in_ok-part.part in
    let ports = c.args.ports.now in
    let plans = c.in_ok-plans.plans.items in
    let grown = c.in_ok-plans.ensures.grows in
    let cell = c.as_slice-used.ensures ∙ ap (λ (x : Cell). x.ports) (sym used) in
    let link = part_stays first new part grown c.in_ok-part.ensures.within ∙ c.in_ok-part.ensures.link ∙ (λ i. record { name = card.name; connections = connections_of (cell i) card.ports }) in
    let fronts = front_stays old first g c.in_ok-part.ensures.grows c.requires.below ∙ globals in
    let ups : List (List ℕ) = (cell_for n card.cell).ports in
    let more = c.in_ok-push.ensures.items in (
      record {
        inside = omega (arith, c.in_ok-number.ensures, c.len.ensures, ap length more, length-append c.args.cards.now.parts.items (part ∷ []));
        link = part_listed new c.args.cards.now.parts.items c.push.new.self.items c.in_ok-number.number part _ more (omega (arith, c.in_ok-number.ensures, c.len.ensures)) link;
        known = omega (arith, c.in_ok-cell.ensures, inside);
        used = ap (λ k. get_or n.cells k no_cell) c.in_ok-cell.ensures ∙ at ∙ sym used;
      },
      subst (λ gs. ArePortPlans new gs ports (connections_of ups card.ports) ups plans) fronts
          (subst (λ us. ArePortPlans new (take g first) ports (connections_of us card.ports) us plans) cell c.in_ok-plans.ensures.plans),
    )
