use Rattle.std.proofs.Common.{◌≡◌, ◌+◌, ◌<◌, ◌≤◌, List, [], ◌∷◌, length, map, drop, get_or, sym, ap, subst, ◌∙◌, arith}
use Rattle.std.specs.Prelude.{All}
use Rattle.std.proofs.lemmas.List.{get_or-map, length-map}
use Rattle.cvc_base.specs.declared.cause.Cause.TheVariants.{TooManyNets}
use Rattle.cvc_cdl.specs.Building.{fault_at}
use Rattle.cvc_plan.specs.declared.cards.OpeningPlan.{OpeningPlan}
use Rattle.cvc_plan.specs.declared.rows.NetRow.{NetRow}
use Rattle.cvc_plan.specs.Nets.{Net, Opening}
use Rattle.cvc_plan.specs.Planning.{opening_of}
use Rattle.cvc_flat.specs.Flat.{limits, nets_once, opening_fault}
use Rattle.cvc_flat.specs.Making.{known_nets}
use Rattle.cvc_flat.proofs.Openings.{fault_opened, fault_past, known_length, next_known, no_opening_fault, opened_inside, opened_row, opens_none, refuses_opening}
use Rattle.cvc_flat.specs.contracts.nets.NetTable.{the_row}
use Rattle.cvc_flat.proofs.steps.opened.Goals as goal

abbrev no_opening : OpeningPlan
no_opening = record { name = 0; line = 0 }

pub loop-opening-init : goal.loop-opening-init
loop-opening-init c =
    let p = c.args.plan.now in
    let none : known_nets p.cards [] c.new-nets.result ≡ [] = ap (known_nets p.cards []) c.new-nets.ensures in
    record {
      known = none ∙ opens_none (map (opening_of p.cards.names) p.openings.items);
      fault = ap (λ (k : List Net). opening_fault limits k (map (opening_of p.cards.names) p.openings.items)) (sym none);
      within = λ k d b. absurd (omega (arith, ap length c.new-nets.ensures, b));
      room = omega (arith, ap length c.new-nets.ensures);
    }

pub loop-opening-preserved : goal.loop-opening-preserved
loop-opening-preserved c =
    let p = c.args.plan.now in
    let names = p.cards.names in
    let ops = c.deref-opening-items.result.now in
    let os : List Opening = map (opening_of names) p.openings.items in
    let i = c.loop-opening.opening-index in
    let op : OpeningPlan = get_or ops i no_opening in
    let o : Opening = opening_of names op in
    let inv = c.loop-opening.invariant in
    let all : All (λ (x : OpeningPlan). x.name < length names) ops = subst (All (λ (x : OpeningPlan). x.name < length names)) (sym c.deref-opening-items.ensures.value) c.requires.opened in
    let below : i < length p.openings.items = omega (arith, c.loop-opening-test.true, ap length c.deref-opening-items.ensures.value) in
    let inside : i < length os = omega (arith, length-map p.openings.items (opening_of names), below) in
    let is : o ≡ get_or os i o = ap (λ (l : List OpeningPlan). opening_of names (get_or l i no_opening)) c.deref-opening-items.ensures.value ∙ sym (get_or-map (opening_of names) p.openings.items i no_opening o below) in
    let old : List Net = known_nets p.cards [] c.loop-opening.nets in
    let one : known_nets p.cards [] c.number.new.self ≡ nets_once old (o.net ∷ []) = ap (known_nets p.cards []) c.in_ok-number.ensures.nets ∙ opened_row p c.requires.apart c.loop-opening.nets op.name (all i no_opening c.loop-opening-test.true) inv.within in
    record {
      known = one ∙ ap (λ (k : List Net). nets_once k (o.net ∷ [])) inv.known ∙ next_known os i o inside is;
      fault = inv.fault ∙ fault_past os i o inside is old (omega (arith, ap length one, known_length p c.requires.apart c.number.new.self, c.len.ensures, c.if-len-gt-NETS.false)) ∙ ap (λ (k : List Net). opening_fault limits k (drop (i + 1) os)) (sym one);
      within = subst (All (λ (r : NetRow). (r.instance ≤ 0) × (r.name < length names))) (sym c.in_ok-number.ensures.nets) (opened_inside p c.requires.apart c.loop-opening.nets op.name (all i no_opening c.loop-opening-test.true) inv.within);
      room = omega (arith, c.len.ensures, c.if-len-gt-NETS.false);
    }

pub returns-then-len-gt-NETS-clause-refused : goal.returns-then-len-gt-NETS-clause-refused
returns-then-len-gt-NETS-clause-refused c =
    let p = c.args.plan.now in
    let names = p.cards.names in
    let ops = c.deref-opening-items.result.now in
    let os : List Opening = map (opening_of names) p.openings.items in
    let i = c.loop-opening.opening-index in
    let op : OpeningPlan = get_or ops i no_opening in
    let o : Opening = opening_of names op in
    let inv = c.loop-opening.invariant in
    let all : All (λ (x : OpeningPlan). x.name < length names) ops = subst (All (λ (x : OpeningPlan). x.name < length names)) (sym c.deref-opening-items.ensures.value) c.requires.opened in
    let below : i < length p.openings.items = omega (arith, c.loop-opening-test.true, ap length c.deref-opening-items.ensures.value) in
    let inside : i < length os = omega (arith, length-map p.openings.items (opening_of names), below) in
    let is : o ≡ get_or os i o = ap (λ (l : List OpeningPlan). opening_of names (get_or l i no_opening)) c.deref-opening-items.ensures.value ∙ sym (get_or-map (opening_of names) p.openings.items i no_opening o below) in
    let old : List Net = known_nets p.cards [] c.loop-opening.nets in
    let one : known_nets p.cards [] c.number.new.self ≡ nets_once old (o.net ∷ []) = ap (known_nets p.cards []) c.in_ok-number.ensures.nets ∙ opened_row p c.requires.apart c.loop-opening.nets op.name (all i no_opening c.loop-opening-test.true) inv.within in
    refuses_opening (the_row).Denot (opening_fault limits [] os) c.refused.result (fault_at o.line TooManyNets) c.refused.ensures
    (inv.fault ∙ fault_opened os i o inside is old (omega (arith, ap length one, known_length p c.requires.apart c.number.new.self, c.len.ensures, c.if-len-gt-NETS.true)))

pub returns-clause-refused : goal.returns-clause-refused
returns-clause-refused c =
    let p = c.args.plan.now in
    let os : List Opening = map (opening_of p.cards.names) p.openings.items in
    c.loop-opening.invariant.fault
    ∙ no_opening_fault (known_nets p.cards [] c.loop-opening.nets) os c.loop-opening.opening-index (omega (arith, length-map p.openings.items (opening_of p.cards.names), ap length c.deref-opening-items.ensures.value, c.loop-opening-test.false))
