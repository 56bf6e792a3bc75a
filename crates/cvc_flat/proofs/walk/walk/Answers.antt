use Rattle.std.proofs.Common.{◌≡◌, ℕ, ◌+◌, ◌-◌, ◌<◌, List, [], ◌∷◌, ◌++◌, length, length-append, map, drop, get_or, set, refl, sym, ap, subst, ◌∙◌, arith}
use Rattle.std.proofs.lemmas.Result.{err_from_is_err_and}
use Rattle.std.specs.Prelude.{All, Err, is_some, reverse}
use Rattle.std.specs.Option.{option_map}
use Rattle.cvc_base.specs.Answers.{Refuses}
use Rattle.cvc_cdl.specs.declared.netlist.Item.TheVariants as items
use Rattle.cvc_cdl.specs.Building.{fault_at}
use Rattle.cvc_cdl.specs.WellFormed.{IsFormedItem}
use Rattle.cvc_cdl.specs.Instances.{all_cells}
use Rattle.cvc_params.specs.Levels.{instance_of}
use Rattle.cvc_plan.specs.declared.cards.ItemPlan.TheVariants as plans
use Rattle.cvc_plan.specs.declared.cards.OpeningPlan.{OpeningPlan}
use Rattle.cvc_plan.specs.declared.pins.PortPlan.{PortPlan}
use Rattle.cvc_plan.specs.Nets.{global_names}
use Rattle.cvc_plan.specs.Pins.{ArePins, IsPlanWithin, port_row, row_of_opening}
use Rattle.cvc_plan.specs.Planning.{IsInstPlan, IsItemPlan}
use Rattle.cvc_plan.proofs.Planned.{kept_item}
use Rattle.cvc_flat.specs.declared.walk.Mark.{Mark}
use Rattle.cvc_flat.specs.declared.walk.Walked.{Walked}
use Rattle.cvc_flat.specs.Flat.{limits}
use Rattle.cvc_flat.specs.Joining.{IsHost}
use Rattle.cvc_flat.specs.Joining.{ArePorts}
use Rattle.cvc_flat.specs.Making.{instance_cause_in}
use Rattle.cvc_flat.proofs.Hosting.{first_inside, globals_open, host_here, mine_long, plans_inside, ports_begin, ports_of_cell, ports_pops, state_joined}
use Rattle.cvc_flat.proofs.Joined.{ports_step}
use Rattle.cvc_flat.proofs.Growing.{ports_grow, shared_grow, state_grows}
use Rattle.cvc_flat.proofs.States.{IsState, fault_device, fault_instance, here, item_formed, same_item, state_begins, state_device, state_done, state_pops, top_here}
use Rattle.cvc_flat.proofs.Marks.{stepped}
use Rattle.cvc_flat.proofs.Seen.{card_listed, items_listed, lists_inside, sees_on, some_level, used_cell, used_inside, used_listed}
use Rattle.cvc_flat.proofs.Sharing.{card_shared, items_shared, none_shared, shared_inside, shared_on}
use Rattle.cvc_flat.proofs.walk.walk.Goals as goal
use Rattle.cvc_flat.proofs.walk.walk.Goals.{in_default-2-via-in-Device+in_default, in_default-2-via-in-Inst+in_default}

pub visits-init : goal.visits-init
visits-init c =
    let n = c.args.source.now.netlist.now in
    let p = c.args.opened in
    let first : Mark = record { instance = 0; cell = c.args.source.now.top; plan = p.top; first = 0; next = 0 } in
    record {
      plan = c.requires.plan;
      state = state_begins n p record { nets = c.args.nets; devices = c.new.result; groups = c.new-2.result } record { instance = 0; cell = c.args.source.now.top; plan = p.top; first = 0; next = 0 } c.requires.plan c.requires.top refl refl refl c.new.ensures.items c.new-2.ensures c.requires.nets c.requires.within c.requires.room
          c.new-instances.result.items c.args.start.levels.items c.new-above.result.items c.new-instances.ensures.items c.requires.outside c.new-above.ensures.items;
      ports = ports_begin n p c.requires.plan c.new-instances.result.items c.args.start.levels.items c.in_ok-ports.ports.items first c.new-above.result.items c.new-instances.ensures.items c.requires.outside c.new-above.ensures.items refl
          (c.in_ok-ports.ensures ∙ ap (λ (os : List OpeningPlan). map row_of_opening (drop p.globals os)) c.as_slice-openings.ensures.value);
      sees = record { sight = c.requires.sight; same = c.requires.same; listed = c.requires.lists };
      shared = none_shared p.cards.names c.new-2.result (all_cells n) c.in_ok-shared.shared.items c.in_ok-shared.ensures;
    }

pub returns-in_default-clause-refused : goal.returns-in_default-clause-refused
returns-in_default-clause-refused c =
    let n = c.args.source.now.netlist.now in
    let p = c.visits.plan in
    let rows = c.visits.instances.items in
    let made = c.visits.made in
    let levels = c.visits.sight.levels.items in
    let mark = c.visits.mark in
    let above = c.visits.above.items in
    let s = c.visits.invariant.state in
    (state_done n p rows made mark levels above s (omega (arith, c.in_default.ensures.cases)) (omega (arith, c.len.ensures, c.if-mark-len.true))).1

pub returns-in_default-clause-shows : goal.returns-in_default-clause-shows
returns-in_default-clause-shows c =
    let n = c.args.source.now.netlist.now in
    let p = c.visits.plan in
    let rows = c.visits.instances.items in
    let made = c.visits.made in
    let levels = c.visits.sight.levels.items in
    let mark = c.visits.mark in
    let above = c.visits.above.items in
    let s = c.visits.invariant.state in
    (state_done n p rows made mark levels above s (omega (arith, c.in_default.ensures.cases)) (omega (arith, c.len.ensures, c.if-mark-len.true))).0

pub visits-preserved-then-mark-len : goal.visits-preserved-then-mark-len
visits-preserved-then-mark-len c =
    let n = c.args.source.now.netlist.now in
    let p = c.visits.plan in
    let rows = c.visits.instances.items in
    let made = c.visits.made in
    let levels = c.visits.sight.levels.items in
    let mark = c.visits.mark in
    let above = c.visits.above.items in
    let s = c.visits.invariant.state in
    record {
      plan = c.visits.invariant.plan;
      state = state_pops n p rows made mark levels c.leave.new.self.levels.items c.in-Some.up above c.pop.new.self.items s c.in-Some.ensures.items c.leave.ensures.levels (omega (arith, c.len.ensures, c.if-mark-len.true));
      ports = ports_pops n p rows made mark levels c.leave.new.self.levels.items c.in-Some.up above c.pop.new.self.items c.visits.ports.items c.truncate.new.self.items s c.visits.invariant.ports c.in-Some.ensures.items c.leave.ensures.levels c.truncate.ensures.items;
      sees = sees_on n c.args.source.now.lists.now.cells.items c.visits.sight c.leave.new.self c.visits.invariant.sees c.leave.ensures.sight c.leave.ensures.same;
      shared = c.visits.invariant.shared;
    }

pub leave-requires-clause-some : goal.leave-requires-clause-some
leave-requires-clause-some c =
    let n = c.args.source.now.netlist.now in
    let p = c.visits.plan in
    some_level n p c.visits.instances.items c.visits.made c.visits.mark c.visits.sight.levels.items c.visits.above.items c.pop.new.self.items c.in-Some.up c.visits.invariant.state c.in-Some.ensures.items

pub index-lists-requires : goal.index-lists-requires
index-lists-requires c =
    let n = c.args.source.now.netlist.now in
    let p = c.visits.plan in
    omega (arith, lists_inside n p c.visits.instances.items c.visits.made c.visits.sight.levels.items c.visits.mark c.visits.above.items c.visits.invariant.state c.visits.sight.indexes c.args.source.now.lists.now.cells.items c.visits.invariant.sees.listed)

pub place-requires-clause-device : goal.place-requires-clause-device
place-requires-clause-device c =
    let n = c.args.source.now.netlist.now in
    let p = c.plan_next.new.plan in
    let rows = c.visits.instances.items in
    let made = c.visits.made in
    let levels = c.visits.sight.levels.items in
    let mark = c.visits.mark in
    let above = c.visits.above.items in
    let s = state_grows n c.visits.plan p c.in_ok-fresh.ensures.grows c.visits.invariant.plan c.in_ok-fresh.ensures.plan rows made levels mark above c.visits.invariant.state in
    let inside : mark.next < length mark.cell.now.items = omega (arith, c.len.ensures, c.if-mark-len.false) in
    let item = c.get-item.result.now in
    let i = c.planned_item-planned.result.now in
    let planned : IsItemPlan n p.cards mark.cell.now.ports item i = kept_item n p mark.cell.now.ports item c.in_ok-fresh.fresh mark.plan mark.next i c.in_ok-fresh.ensures.kept c.planned_item-planned.ensures in
    (subst (λ it. IsItemPlan n p.cards mark.cell.now.ports it (plans.Device c.in-Device-Device.number c.in-Device-Device.device)) c.in-Device-Device.is-0 (subst (IsItemPlan n p.cards mark.cell.now.ports item) c.in-Device-Device.is-1 planned)).0

pub place-requires-clause-pins : goal.place-requires-clause-pins
place-requires-clause-pins c =
    let n = c.args.source.now.netlist.now in
    let p = c.plan_next.new.plan in
    let rows = c.visits.instances.items in
    let made = c.visits.made in
    let levels = c.visits.sight.levels.items in
    let mark = c.visits.mark in
    let above = c.visits.above.items in
    let s = state_grows n c.visits.plan p c.in_ok-fresh.ensures.grows c.visits.invariant.plan c.in_ok-fresh.ensures.plan rows made levels mark above c.visits.invariant.state in
    let ports = c.visits.ports.items in
    let h = ports_grow n c.visits.plan p c.in_ok-fresh.ensures.grows c.visits.invariant.plan c.in_ok-fresh.ensures.plan rows made levels mark above c.visits.invariant.state ports c.visits.invariant.ports in
    let inside : mark.next < length mark.cell.now.items = omega (arith, c.len.ensures, c.if-mark-len.false) in
    let item = c.get-item.result.now in
    let i = c.planned_item-planned.result.now in
    let planned : IsItemPlan n p.cards mark.cell.now.ports item i = kept_item n p mark.cell.now.ports item c.in_ok-fresh.fresh mark.plan mark.next i c.in_ok-fresh.ensures.kept c.planned_item-planned.ensures in
    subst (λ ps. ArePins p.cards.names (global_names n) ps c.in-Device-Device.card.nets c.in-Device-Device.device.pins.items) (ports_of_cell n p rows made levels mark above ports s h)
    (subst (λ it. IsItemPlan n p.cards mark.cell.now.ports it (plans.Device c.in-Device-Device.number c.in-Device-Device.device)) c.in-Device-Device.is-0 (subst (IsItemPlan n p.cards mark.cell.now.ports item) c.in-Device-Device.is-1 planned)).1

pub ports_from-own-requires : goal.ports_from-own-requires
ports_from-own-requires c =
    let n = c.args.source.now.netlist.now in
    let p = c.plan_next.new.plan in
    let rows = c.visits.instances.items in
    let made = c.visits.made in
    let levels = c.visits.sight.levels.items in
    let mark = c.visits.mark in
    let above = c.visits.above.items in
    let s = state_grows n c.visits.plan p c.in_ok-fresh.ensures.grows c.visits.invariant.plan c.in_ok-fresh.ensures.plan rows made levels mark above c.visits.invariant.state in
    let ports = c.visits.ports.items in
    let h = ports_grow n c.visits.plan p c.in_ok-fresh.ensures.grows c.visits.invariant.plan c.in_ok-fresh.ensures.plan rows made levels mark above c.visits.invariant.state ports c.visits.invariant.ports in
    omega (arith, first_inside n p rows made levels mark above ports s h, ap length c.deref.ensures.value)

pub place-requires-clause-ports : goal.place-requires-clause-ports
place-requires-clause-ports c =
    let n = c.args.source.now.netlist.now in
    let p = c.plan_next.new.plan in
    let rows = c.visits.instances.items in
    let made = c.visits.made in
    let levels = c.visits.sight.levels.items in
    let mark = c.visits.mark in
    let above = c.visits.above.items in
    let s = state_grows n c.visits.plan p c.in_ok-fresh.ensures.grows c.visits.invariant.plan c.in_ok-fresh.ensures.plan rows made levels mark above c.visits.invariant.state in
    let ports = c.visits.ports.items in
    let h = ports_grow n c.visits.plan p c.in_ok-fresh.ensures.grows c.visits.invariant.plan c.in_ok-fresh.ensures.plan rows made levels mark above c.visits.invariant.state ports c.visits.invariant.ports in
    ap length (c.ports_from-own.ensures ∙ ap (drop mark.first) c.deref.ensures.value) ∙ mine_long n p rows made levels mark above ports s h

pub place-requires-clause-formed : goal.place-requires-clause-formed
place-requires-clause-formed c =
    let n = c.args.source.now.netlist.now in
    let p = c.plan_next.new.plan in
    let rows = c.visits.instances.items in
    let made = c.visits.made in
    let levels = c.visits.sight.levels.items in
    let mark = c.visits.mark in
    let above = c.visits.above.items in
    let s = state_grows n c.visits.plan p c.in_ok-fresh.ensures.grows c.visits.invariant.plan c.in_ok-fresh.ensures.plan rows made levels mark above c.visits.invariant.state in
    let inside : mark.next < length mark.cell.now.items = omega (arith, c.len.ensures, c.if-mark-len.false) in
    subst (IsFormedItem n.cells) c.in-Device-Device.is-0 (item_formed n p rows made levels mark above s c.requires.formed c.get-item.result.now inside c.get-item.ensures)

pub returns-in_err-place-in-Device-Device-clause-refused : goal.returns-in_err-place-in-Device-Device-clause-refused
returns-in_err-place-in-Device-Device-clause-refused c =
    let n = c.args.source.now.netlist.now in
    let p = c.plan_next.new.plan in
    let rows = c.visits.instances.items in
    let made = c.visits.made in
    let levels = c.visits.sight.levels.items in
    let mark = c.visits.mark in
    let above = c.visits.above.items in
    let s = state_grows n c.visits.plan p c.in_ok-fresh.ensures.grows c.visits.invariant.plan c.in_ok-fresh.ensures.plan rows made levels mark above c.visits.invariant.state in
    let ports = c.visits.ports.items in
    let h = ports_grow n c.visits.plan p c.in_ok-fresh.ensures.grows c.visits.invariant.plan c.in_ok-fresh.ensures.plan rows made levels mark above c.visits.invariant.state ports c.visits.invariant.ports in
    let own = c.ports_from-own.ensures ∙ ap (drop mark.first) c.deref.ensures.value in
    let host = subst (IsHost n p rows made (instance_of levels) mark.instance) (sym own) (host_here n p rows made levels mark above ports s h) in
    let inside : mark.next < length mark.cell.now.items = omega (arith, c.len.ensures, c.if-mark-len.false) in
    let is : get_or mark.cell.now.items mark.next (items.Device c.in-Device-Device.card) ≡ items.Device c.in-Device-Device.card = same_item mark.cell.now.items mark.next c.get-item.result.now (items.Device c.in-Device-Device.card) c.get-item.ensures c.in-Device-Device.is-0 in
    let w = err_from_is_err_and c.from_residual-in_err-place-in-Device-Device.result c.from_residual-in_err-place-in-Device-Device.ensures.1 in
    rw (w.1, w.2) (fault_device n p rows made levels mark above s inside (Unit {0}) Walked c.in-Device-Device.card c.in_err-place-in-Device-Device.field-0.0 is
    (c.in_err-place-in-Device-Device.ensures.refused rows host))

pub index_mut-groups-requires : goal.index_mut-groups-requires
index_mut-groups-requires c =
    let n = c.args.source.now.netlist.now in
    let p = c.plan_next.new.plan in
    let rows = c.visits.instances.items in
    let made = c.visits.made in
    let levels = c.visits.sight.levels.items in
    let mark = c.visits.mark in
    let above = c.visits.above.items in
    let s = state_grows n c.visits.plan p c.in_ok-fresh.ensures.grows c.visits.invariant.plan c.in_ok-fresh.ensures.plan rows made levels mark above c.visits.invariant.state in
    omega (arith, shared_inside n p rows made levels mark above s p.cards.names made.groups c.visits.shared.items (shared_grow c.visits.plan.cards.names p.cards.names made.groups (all_cells n) c.visits.shared.items c.in_ok-fresh.ensures.grows.cards.names c.visits.invariant.shared))

pub index_mut-requires : goal.index_mut-requires
index_mut-requires c =
    let n = c.args.source.now.netlist.now in
    let p = c.plan_next.new.plan in
    let rows = c.visits.instances.items in
    let made = c.visits.made in
    let levels = c.visits.sight.levels.items in
    let mark = c.visits.mark in
    let above = c.visits.above.items in
    let s = state_grows n c.visits.plan p c.in_ok-fresh.ensures.grows c.visits.invariant.plan c.in_ok-fresh.ensures.plan rows made levels mark above c.visits.invariant.state in
    let inside : mark.next < length mark.cell.now.items = omega (arith, c.len.ensures, c.if-mark-len.false) in
    omega (arith, items_shared n p rows made levels mark above s p.cards.names made.groups c.visits.shared.items (shared_grow c.visits.plan.cards.names p.cards.names made.groups (all_cells n) c.visits.shared.items c.in_ok-fresh.ensures.grows.cards.names c.visits.invariant.shared) c.index_mut-groups.result.now c.index_mut-groups.ensures.value, inside)

pub place-requires-clause-shared : goal.place-requires-clause-shared
place-requires-clause-shared c =
    let n = c.args.source.now.netlist.now in
    let p = c.plan_next.new.plan in
    let rows = c.visits.instances.items in
    let made = c.visits.made in
    let levels = c.visits.sight.levels.items in
    let mark = c.visits.mark in
    let above = c.visits.above.items in
    let s = state_grows n c.visits.plan p c.in_ok-fresh.ensures.grows c.visits.invariant.plan c.in_ok-fresh.ensures.plan rows made levels mark above c.visits.invariant.state in
    let inside : mark.next < length mark.cell.now.items = omega (arith, c.len.ensures, c.if-mark-len.false) in
    let is : get_or mark.cell.now.items mark.next (items.Device c.in-Device-Device.card) ≡ items.Device c.in-Device-Device.card = same_item mark.cell.now.items mark.next c.get-item.result.now (items.Device c.in-Device-Device.card) c.get-item.ensures c.in-Device-Device.is-0 in
    let back : mark.next + 1 - 1 ≡ mark.next = omega arith in
    let row = c.index_mut-groups.result.now in
    let group = c.index_mut.result.now in
    card_shared n p rows made levels mark above s p.cards.names made.groups c.visits.shared.items (shared_grow c.visits.plan.cards.names p.cards.names made.groups (all_cells n) c.visits.shared.items c.in_ok-fresh.ensures.grows.cards.names c.visits.invariant.shared) row c.in-Device-Device.card group group c.index_mut-groups.ensures.value inside is
    (c.index_mut.ensures.value ∙ ap (λ j. get_or row.items.items j group) back)

pub visits-preserved-in-Device-Device : goal.visits-preserved-in-Device-Device
visits-preserved-in-Device-Device c =
    let n = c.args.source.now.netlist.now in
    let p = c.plan_next.new.plan in
    let rows = c.visits.instances.items in
    let made = c.visits.made in
    let levels = c.visits.sight.levels.items in
    let mark = c.visits.mark in
    let above = c.visits.above.items in
    let s = state_grows n c.visits.plan p c.in_ok-fresh.ensures.grows c.visits.invariant.plan c.in_ok-fresh.ensures.plan rows made levels mark above c.visits.invariant.state in
    let inside : mark.next < length mark.cell.now.items = omega (arith, c.len.ensures, c.if-mark-len.false) in
    let is : get_or mark.cell.now.items mark.next (items.Device c.in-Device-Device.card) ≡ items.Device c.in-Device-Device.card = same_item mark.cell.now.items mark.next c.get-item.result.now (items.Device c.in-Device-Device.card) c.get-item.ensures c.in-Device-Device.is-0 in
    let card = c.in-Device-Device.card in
    let ports = c.visits.ports.items in
    let h = ports_grow n c.visits.plan p c.in_ok-fresh.ensures.grows c.visits.invariant.plan c.in_ok-fresh.ensures.plan rows made levels mark above c.visits.invariant.state ports c.visits.invariant.ports in
    let own = c.ports_from-own.ensures ∙ ap (drop mark.first) c.deref.ensures.value in
    let host = subst (IsHost n p rows made (instance_of levels) mark.instance) (sym own) (host_here n p rows made levels mark above ports s h) in
    let back : mark.next + 1 - 1 ≡ mark.next = omega arith in
    let row = c.index_mut-groups.result.now in
    let placed = c.in_ok-place-in-Device-Device.ensures in
    let added = placed.added rows host in
    record {
      plan = c.in_ok-fresh.ensures.plan;
      state = subst (λ ls. IsState n p rows c.place.new.made ls (stepped mark) above) (sym placed.sees.levels)
          (state_device n p rows made levels mark above s inside c.place.new.made card is (placed.refused rows host) added);
      ports = subst (λ ls. ArePorts n p rows (reverse ls) ports (stepped mark) (reverse above)) (sym placed.sees.levels) (ports_step n p rows (reverse levels) ports mark (reverse above) h);
      sees = sees_on n c.args.source.now.lists.now.cells.items c.visits.sight c.place.new.sight c.visits.invariant.sees placed.sight (placed.sees.netlist, placed.sees.indexes);
      shared = shared_on n p rows made levels mark above s p.cards.names made.groups c.place.new.made.groups added.more c.visits.shared.items row _ card c.place.new.shared
          added.groups (shared_grow c.visits.plan.cards.names p.cards.names made.groups (all_cells n) c.visits.shared.items c.in_ok-fresh.ensures.grows.cards.names c.visits.invariant.shared) c.index_mut-groups.ensures.value is placed.shared (ap (λ j. set row.items.items j c.place.new.shared) back);
    }

pub visits-smaller-in-Device-Device : goal.visits-smaller-in-Device-Device
visits-smaller-in-Device-Device c =
    let n = c.args.source.now.netlist.now in
    let p = c.plan_next.new.plan in
    let rows = c.visits.instances.items in
    let made = c.visits.made in
    let levels = c.visits.sight.levels.items in
    let mark = c.visits.mark in
    let above = c.visits.above.items in
    let s = state_grows n c.visits.plan p c.in_ok-fresh.ensures.grows c.visits.invariant.plan c.in_ok-fresh.ensures.plan rows made levels mark above c.visits.invariant.state in
    let ports = c.visits.ports.items in
    let h = ports_grow n c.visits.plan p c.in_ok-fresh.ensures.grows c.visits.invariant.plan c.in_ok-fresh.ensures.plan rows made levels mark above c.visits.invariant.state ports c.visits.invariant.ports in
    let own = c.ports_from-own.ensures ∙ ap (drop mark.first) c.deref.ensures.value in
    let host = subst (IsHost n p rows made (instance_of levels) mark.instance) (sym own) (host_here n p rows made levels mark above ports s h) in
    let added = c.in_ok-place-in-Device-Device.ensures.added rows host in
    omega (arith, ap length added.devices, length-append made.devices.items (added.row ∷ []), added.sound.device_count, s.sound.instance_count)

pub returns-in_err-instance-in-Inst-Inst-clause-refused : goal.returns-in_err-instance-in-Inst-Inst-clause-refused
returns-in_err-instance-in-Inst-Inst-clause-refused c =
    let n = c.args.source.now.netlist.now in
    let p = c.plan_next.new.plan in
    let rows = c.visits.instances.items in
    let made = c.visits.made in
    let levels = c.visits.sight.levels.items in
    let mark = c.visits.mark in
    let above = c.visits.above.items in
    let s = state_grows n c.visits.plan p c.in_ok-fresh.ensures.grows c.visits.invariant.plan c.in_ok-fresh.ensures.plan rows made levels mark above c.visits.invariant.state in
    let inside : mark.next < length mark.cell.now.items = omega (arith, c.len.ensures, c.if-mark-len.false) in
    let is : get_or mark.cell.now.items mark.next (items.Inst c.in-Inst-Inst.card) ≡ items.Inst c.in-Inst-Inst.card = same_item mark.cell.now.items mark.next c.get-item.result.now (items.Inst c.in-Inst-Inst.card) c.get-item.ensures c.in-Inst-Inst.is-0 in
    let w = err_from_is_err_and c.from_residual-in_err-instance-in-Inst-Inst.result c.from_residual-in_err-instance-in-Inst-Inst.ensures.1 in
    let deep : c.depth.result ≡ length levels = omega (arith, c.depth.ensures) in
    rw (w.1, w.2) (fault_instance n p rows made levels mark above s inside ℕ Walked c.in-Inst-Inst.card c.in_err-instance-in-Inst-Inst.field-0.0 is
    (subst (λ d. Refuses {A = ℕ} (option_map (fault_at c.in-Inst-Inst.card.line) (instance_cause_in limits (length rows) (d + 1))) (Err c.in_err-instance-in-Inst-Inst.field-0.0)) deep c.in_err-instance-in-Inst-Inst.ensures.refused))

pub cell_of-cell-requires : goal.cell_of-cell-requires
cell_of-cell-requires c =
    let n = c.args.source.now.netlist.now in
    let p = c.plan_next.new.plan in
    let rows = c.visits.instances.items in
    let made = c.visits.made in
    let levels = c.visits.sight.levels.items in
    let mark = c.visits.mark in
    let above = c.visits.above.items in
    let s = state_grows n c.visits.plan p c.in_ok-fresh.ensures.grows c.visits.invariant.plan c.in_ok-fresh.ensures.plan rows made levels mark above c.visits.invariant.state in
    let inside : mark.next < length mark.cell.now.items = omega (arith, c.len.ensures, c.if-mark-len.false) in
    let item = c.get-item.result.now in
    let i = c.planned_item-planned.result.now in
    let planned : IsItemPlan n p.cards mark.cell.now.ports item i = kept_item n p mark.cell.now.ports item c.in_ok-fresh.fresh mark.plan mark.next i c.in_ok-fresh.ensures.kept c.planned_item-planned.ensures in
    let both = subst (λ it. IsItemPlan n p.cards mark.cell.now.ports it (plans.Inst c.in-Inst-Inst.number c.in-Inst-Inst.used)) c.in-Inst-Inst.is-0 (subst (IsItemPlan n p.cards mark.cell.now.ports item) c.in-Inst-Inst.is-1 planned) in
    let inst : IsInstPlan n p.cards c.in-Inst-Inst.card c.in-Inst-Inst.number c.in-Inst-Inst.used.cell = both.0 in
    omega (arith, inst.known)

pub visits-preserved : goal.visits-preserved
visits-preserved c =
    let n = c.args.source.now.netlist.now in
    let p = c.plan_next.new.plan in
    let rows = c.visits.instances.items in
    let made = c.visits.made in
    let levels = c.visits.sight.levels.items in
    let mark = c.visits.mark in
    let above = c.visits.above.items in
    let s = state_grows n c.visits.plan p c.in_ok-fresh.ensures.grows c.visits.invariant.plan c.in_ok-fresh.ensures.plan rows made levels mark above c.visits.invariant.state in
    let ports = c.visits.ports.items in
    let h = ports_grow n c.visits.plan p c.in_ok-fresh.ensures.grows c.visits.invariant.plan c.in_ok-fresh.ensures.plan rows made levels mark above c.visits.invariant.state ports c.visits.invariant.ports in
    let inside : mark.next < length mark.cell.now.items = omega (arith, c.len.ensures, c.if-mark-len.false) in
    let item = c.get-item.result.now in
    let i = c.planned_item-planned.result.now in
    let planned : IsItemPlan n p.cards mark.cell.now.ports item i = kept_item n p mark.cell.now.ports item c.in_ok-fresh.fresh mark.plan mark.next i c.in_ok-fresh.ensures.kept c.planned_item-planned.ensures in
    let is : get_or mark.cell.now.items mark.next (items.Inst c.in-Inst-Inst.card) ≡ items.Inst c.in-Inst-Inst.card = same_item mark.cell.now.items mark.next c.get-item.result.now (items.Inst c.in-Inst-Inst.card) c.get-item.ensures c.in-Inst-Inst.is-0 in
    let both = subst (λ it. IsItemPlan n p.cards mark.cell.now.ports it (plans.Inst c.in-Inst-Inst.number c.in-Inst-Inst.used)) c.in-Inst-Inst.is-0 (subst (IsItemPlan n p.cards mark.cell.now.ports item) c.in-Inst-Inst.is-1 planned) in
    let inst : IsInstPlan n p.cards c.in-Inst-Inst.card c.in-Inst-Inst.number c.in-Inst-Inst.used.cell = both.0 in
    let deep : c.depth.result ≡ length levels = omega (arith, c.depth.ensures) in
    let e = c.in_ok-instance-in-Inst-Inst.ensures in
    let formed = subst (IsFormedItem n.cells) c.in-Inst-Inst.is-0 (item_formed n p rows made levels mark above s c.requires.formed item inside c.get-item.ensures) in
    let w = state_joined n p rows made levels mark above ports s h inside c.requires.formed c.in-Inst-Inst.card c.in-Inst-Inst.number c.in-Inst-Inst.used.cell c.in-Inst-Inst.used.ports.items _ _
    record { instance = c.in_ok-instance-in-Inst-Inst.instance; cell = c.cell_of-cell.result; plan = c.in-Inst-Inst.used.cell; first = c.len-first.result; next = 0 }
    c.enter.new.instances.items c.enter-in-Inst-Inst.new.self.levels.items c.push.new.self.items c.join.new.ports.items c.in_ok-enter-in-Inst-Inst.ensures.levels e.rows c.in_ok-push-in-Inst-Inst.ensures.items
    (c.in_ok-join-in-Inst-Inst.ensures ∙ ap (λ (qs : List PortPlan). ports ++ map (port_row mark.instance (drop mark.first ports) c.in_ok-instance-in-Inst-Inst.instance) qs) c.as_slice-plans.ensures.value)
    is inst both.1 formed
    (sym (ap (λ d. option_map (fault_at c.in-Inst-Inst.card.line) (instance_cause_in limits (length rows) (d + 1))) deep) ∙ e.refused) e.room (omega (arith, deep, e.short)) refl c.cell_of-cell.ensures refl refl e.number refl refl refl (omega (arith, c.len-first.ensures)) in
    record {
      plan = c.in_ok-fresh.ensures.plan;
      state = w.0;
      ports = w.1;
      sees = sees_on n c.args.source.now.lists.now.cells.items c.visits.sight c.enter-in-Inst-Inst.new.self c.visits.invariant.sees c.in_ok-enter-in-Inst-Inst.ensures.sight c.in_ok-enter-in-Inst-Inst.ensures.same;
      shared = (shared_grow c.visits.plan.cards.names p.cards.names made.groups (all_cells n) c.visits.shared.items c.in_ok-fresh.ensures.grows.cards.names c.visits.invariant.shared);
    }

pub unreachable-requires : goal.unreachable-requires
unreachable-requires c =
    let n = c.args.source.now.netlist.now in
    let p = c.plan_next.new.plan in
    let rows = c.visits.instances.items in
    let made = c.visits.made in
    let levels = c.visits.sight.levels.items in
    let mark = c.visits.mark in
    let above = c.visits.above.items in
    let s = state_grows n c.visits.plan p c.in_ok-fresh.ensures.grows c.visits.invariant.plan c.in_ok-fresh.ensures.plan rows made levels mark above c.visits.invariant.state in
    let inside : mark.next < length mark.cell.now.items = omega (arith, c.len.ensures, c.if-mark-len.false) in
    let item = c.get-item.result.now in
    let i = c.planned_item-planned.result.now in
    let planned : IsItemPlan n p.cards mark.cell.now.ports item i = kept_item n p mark.cell.now.ports item c.in_ok-fresh.fresh mark.plan mark.next i c.in_ok-fresh.ensures.kept c.planned_item-planned.ensures in
    elim c.in_default-2.branch [
      | in_default-2-via-in-Device+in_default w ↦ (let h = w.in_default-2 in subst (λ it. IsItemPlan n p.cards mark.cell.now.ports it (plans.Inst h.field-0-1 h.field-1-1)) h.is-0 (subst (IsItemPlan n p.cards mark.cell.now.ports item) h.is-1 planned))
      | in_default-2-via-in-Inst+in_default w ↦ (let h = w.in_default-2 in subst (λ it. IsItemPlan n p.cards mark.cell.now.ports it (plans.Device h.field-0-1 h.field-1-1)) h.is-0 (subst (IsItemPlan n p.cards mark.cell.now.ports item) h.is-1 planned))
    ]

pub index-given-requires : goal.index-given-requires
index-given-requires c =
    let n = c.args.source.now.netlist.now in
    let p = c.plan_next.new.plan in
    let rows = c.visits.instances.items in
    let made = c.visits.made in
    let levels = c.visits.sight.levels.items in
    let mark = c.visits.mark in
    let above = c.visits.above.items in
    let s = state_grows n c.visits.plan p c.in_ok-fresh.ensures.grows c.visits.invariant.plan c.in_ok-fresh.ensures.plan rows made levels mark above c.visits.invariant.state in
    let inside : mark.next < length mark.cell.now.items = omega (arith, c.len.ensures, c.if-mark-len.false) in
    let item = c.get-item.result.now in
    let i = c.planned_item-planned.result.now in
    let planned : IsItemPlan n p.cards mark.cell.now.ports item i = kept_item n p mark.cell.now.ports item c.in_ok-fresh.fresh mark.plan mark.next i c.in_ok-fresh.ensures.kept c.planned_item-planned.ensures in
    let both = subst (λ it. IsItemPlan n p.cards mark.cell.now.ports it (plans.Inst c.in-Inst-Inst.number c.in-Inst-Inst.used)) c.in-Inst-Inst.is-0 (subst (IsItemPlan n p.cards mark.cell.now.ports item) c.in-Inst-Inst.is-1 planned) in
    let inst : IsInstPlan n p.cards c.in-Inst-Inst.card c.in-Inst-Inst.number c.in-Inst-Inst.used.cell = both.0 in
    omega (arith, used_inside n c.visits.sight.indexes c.args.source.now.lists.now.cells.items c.visits.invariant.sees.listed c.in-Inst-Inst.used.cell inst.known)

pub index-requires : goal.index-requires
index-requires c =
    let n = c.args.source.now.netlist.now in
    let p = c.plan_next.new.plan in
    let rows = c.visits.instances.items in
    let made = c.visits.made in
    let levels = c.visits.sight.levels.items in
    let mark = c.visits.mark in
    let above = c.visits.above.items in
    let s = state_grows n c.visits.plan p c.in_ok-fresh.ensures.grows c.visits.invariant.plan c.in_ok-fresh.ensures.plan rows made levels mark above c.visits.invariant.state in
    let inside : mark.next < length mark.cell.now.items = omega (arith, c.len.ensures, c.if-mark-len.false) in
    let item = c.get-item.result.now in
    let x = c.visits.sight.indexes in
    let lists = c.args.source.now.lists.now.cells.items in
    let listed = c.visits.invariant.sees.listed in
    let back : mark.next + 1 - 1 ≡ mark.next = omega arith in
    omega (arith, items_listed n p rows made levels mark above s x lists listed c.index-lists.result.now c.index-lists.ensures, inside)

pub enter-requires-in-Inst-Inst-clause-level : goal.enter-requires-in-Inst-Inst-clause-level
enter-requires-in-Inst-Inst-clause-level c =
    let n = c.args.source.now.netlist.now in
    let p = c.plan_next.new.plan in
    let rows = c.visits.instances.items in
    let made = c.visits.made in
    let levels = c.visits.sight.levels.items in
    let mark = c.visits.mark in
    let above = c.visits.above.items in
    let s = state_grows n c.visits.plan p c.in_ok-fresh.ensures.grows c.visits.invariant.plan c.in_ok-fresh.ensures.plan rows made levels mark above c.visits.invariant.state in
    let inside : mark.next < length mark.cell.now.items = omega (arith, c.len.ensures, c.if-mark-len.false) in
    let item = c.get-item.result.now in
    let i = c.planned_item-planned.result.now in
    let planned : IsItemPlan n p.cards mark.cell.now.ports item i = kept_item n p mark.cell.now.ports item c.in_ok-fresh.fresh mark.plan mark.next i c.in_ok-fresh.ensures.kept c.planned_item-planned.ensures in
    let both = subst (λ it. IsItemPlan n p.cards mark.cell.now.ports it (plans.Inst c.in-Inst-Inst.number c.in-Inst-Inst.used)) c.in-Inst-Inst.is-0 (subst (IsItemPlan n p.cards mark.cell.now.ports item) c.in-Inst-Inst.is-1 planned) in
    let inst : IsInstPlan n p.cards c.in-Inst-Inst.card c.in-Inst-Inst.number c.in-Inst-Inst.used.cell = both.0 in
    used_cell n c.visits.sight.netlist.now p c.in-Inst-Inst.card c.in-Inst-Inst.number c.in-Inst-Inst.used.cell c.cell_of-cell.result.now c.visits.invariant.sees.same inst c.cell_of-cell.ensures

pub enter-requires-in-Inst-Inst-clause-card : goal.enter-requires-in-Inst-Inst-clause-card
enter-requires-in-Inst-Inst-clause-card c =
    let n = c.args.source.now.netlist.now in
    let p = c.plan_next.new.plan in
    let rows = c.visits.instances.items in
    let made = c.visits.made in
    let levels = c.visits.sight.levels.items in
    let mark = c.visits.mark in
    let above = c.visits.above.items in
    let s = state_grows n c.visits.plan p c.in_ok-fresh.ensures.grows c.visits.invariant.plan c.in_ok-fresh.ensures.plan rows made levels mark above c.visits.invariant.state in
    let inside : mark.next < length mark.cell.now.items = omega (arith, c.len.ensures, c.if-mark-len.false) in
    let item = c.get-item.result.now in
    let x = c.visits.sight.indexes in
    let lists = c.args.source.now.lists.now.cells.items in
    let listed = c.visits.invariant.sees.listed in
    let back : mark.next + 1 - 1 ≡ mark.next = omega arith in
    card_listed n p rows made levels mark above s x lists listed c.index-lists.result.now item c.in-Inst-Inst.card c.index.result.now c.index.result.now c.index-lists.ensures inside c.get-item.ensures
    (c.index.ensures ∙ ap (λ j. get_or c.index-lists.result.now.items.items j c.index.result.now) back) c.in-Inst-Inst.is-0

pub enter-requires-in-Inst-Inst-clause-cell : goal.enter-requires-in-Inst-Inst-clause-cell
enter-requires-in-Inst-Inst-clause-cell c =
    let n = c.args.source.now.netlist.now in
    let p = c.plan_next.new.plan in
    let rows = c.visits.instances.items in
    let made = c.visits.made in
    let levels = c.visits.sight.levels.items in
    let mark = c.visits.mark in
    let above = c.visits.above.items in
    let s = state_grows n c.visits.plan p c.in_ok-fresh.ensures.grows c.visits.invariant.plan c.in_ok-fresh.ensures.plan rows made levels mark above c.visits.invariant.state in
    let inside : mark.next < length mark.cell.now.items = omega (arith, c.len.ensures, c.if-mark-len.false) in
    let item = c.get-item.result.now in
    let i = c.planned_item-planned.result.now in
    let planned : IsItemPlan n p.cards mark.cell.now.ports item i = kept_item n p mark.cell.now.ports item c.in_ok-fresh.fresh mark.plan mark.next i c.in_ok-fresh.ensures.kept c.planned_item-planned.ensures in
    let both = subst (λ it. IsItemPlan n p.cards mark.cell.now.ports it (plans.Inst c.in-Inst-Inst.number c.in-Inst-Inst.used)) c.in-Inst-Inst.is-0 (subst (IsItemPlan n p.cards mark.cell.now.ports item) c.in-Inst-Inst.is-1 planned) in
    let inst : IsInstPlan n p.cards c.in-Inst-Inst.card c.in-Inst-Inst.number c.in-Inst-Inst.used.cell = both.0 in
    used_listed n c.visits.sight.indexes c.args.source.now.lists.now.cells.items c.visits.invariant.sees.listed c.in-Inst-Inst.used.cell inst.known c.cell_of-cell.result.now c.index-given.result.now c.cell_of-cell.ensures c.index-given.ensures

pub top_ports-requires : goal.top_ports-requires
top_ports-requires c = omega (arith, globals_open c.args.source.now.netlist.now c.args.opened c.requires.plan, ap length c.as_slice-openings.ensures.value)

pub join-requires-clause-inside : goal.join-requires-clause-inside
join-requires-clause-inside c =
    let n = c.args.source.now.netlist.now in
    let p = c.plan_next.new.plan in
    let rows = c.visits.instances.items in
    let made = c.visits.made in
    let levels = c.visits.sight.levels.items in
    let mark = c.visits.mark in
    let above = c.visits.above.items in
    let s = state_grows n c.visits.plan p c.in_ok-fresh.ensures.grows c.visits.invariant.plan c.in_ok-fresh.ensures.plan rows made levels mark above c.visits.invariant.state in
    let ports = c.visits.ports.items in
    let h = ports_grow n c.visits.plan p c.in_ok-fresh.ensures.grows c.visits.invariant.plan c.in_ok-fresh.ensures.plan rows made levels mark above c.visits.invariant.state ports c.visits.invariant.ports in
    omega (arith, first_inside n p rows made levels mark above ports s h)

pub join-requires-clause-within : goal.join-requires-clause-within
join-requires-clause-within c =
    let n = c.args.source.now.netlist.now in
    let p = c.plan_next.new.plan in
    let rows = c.visits.instances.items in
    let made = c.visits.made in
    let levels = c.visits.sight.levels.items in
    let mark = c.visits.mark in
    let above = c.visits.above.items in
    let s = state_grows n c.visits.plan p c.in_ok-fresh.ensures.grows c.visits.invariant.plan c.in_ok-fresh.ensures.plan rows made levels mark above c.visits.invariant.state in
    let ports = c.visits.ports.items in
    let h = ports_grow n c.visits.plan p c.in_ok-fresh.ensures.grows c.visits.invariant.plan c.in_ok-fresh.ensures.plan rows made levels mark above c.visits.invariant.state ports c.visits.invariant.ports in
    let inside : mark.next < length mark.cell.now.items = omega (arith, c.len.ensures, c.if-mark-len.false) in
    let item = c.get-item.result.now in
    let i = c.planned_item-planned.result.now in
    let planned : IsItemPlan n p.cards mark.cell.now.ports item i = kept_item n p mark.cell.now.ports item c.in_ok-fresh.fresh mark.plan mark.next i c.in_ok-fresh.ensures.kept c.planned_item-planned.ensures in
    let is : get_or mark.cell.now.items mark.next (items.Inst c.in-Inst-Inst.card) ≡ items.Inst c.in-Inst-Inst.card = same_item mark.cell.now.items mark.next c.get-item.result.now (items.Inst c.in-Inst-Inst.card) c.get-item.ensures c.in-Inst-Inst.is-0 in
    let both = subst (λ it. IsItemPlan n p.cards mark.cell.now.ports it (plans.Inst c.in-Inst-Inst.number c.in-Inst-Inst.used)) c.in-Inst-Inst.is-0 (subst (IsItemPlan n p.cards mark.cell.now.ports item) c.in-Inst-Inst.is-1 planned) in
    let inst : IsInstPlan n p.cards c.in-Inst-Inst.card c.in-Inst-Inst.number c.in-Inst-Inst.used.cell = both.0 in
    subst (All (IsPlanWithin (length (drop mark.first ports)))) (sym c.as_slice-plans.ensures.value) (plans_inside n p rows made levels mark above ports s h c.in-Inst-Inst.card c.in-Inst-Inst.used.ports.items both.1)

pub plan_next-requires-clause-known : goal.plan_next-requires-clause-known
plan_next-requires-clause-known c =
    let n = c.args.source.now.netlist.now in
    let p = c.visits.plan in
    let rows = c.visits.instances.items in
    let made = c.visits.made in
    let levels = c.visits.sight.levels.items in
    let mark = c.visits.mark in
    let above = c.visits.above.items in
    let s = c.visits.invariant.state in
    (here n p rows made levels mark above s).known

pub plan_next-requires-clause-cell : goal.plan_next-requires-clause-cell
plan_next-requires-clause-cell c =
    let n = c.args.source.now.netlist.now in
    let p = c.visits.plan in
    let rows = c.visits.instances.items in
    let made = c.visits.made in
    let levels = c.visits.sight.levels.items in
    let mark = c.visits.mark in
    let above = c.visits.above.items in
    let s = c.visits.invariant.state in
    (here n p rows made levels mark above s).plan

pub plan_next-requires-clause-top : goal.plan_next-requires-clause-top
plan_next-requires-clause-top c =
    let n = c.args.source.now.netlist.now in
    let p = c.visits.plan in
    let rows = c.visits.instances.items in
    let made = c.visits.made in
    let levels = c.visits.sight.levels.items in
    let mark = c.visits.mark in
    let above = c.visits.above.items in
    let s = c.visits.invariant.state in
    top_here n p rows made levels mark above s

pub planned_item-planned-requires : goal.planned_item-planned-requires
planned_item-planned-requires c = ap is_some c.in_ok-fresh.ensures.kept.1

pub returns-in_err-join-in-Inst-Inst-clause-refused : goal.returns-in_err-join-in-Inst-Inst-clause-refused
returns-in_err-join-in-Inst-Inst-clause-refused c =
    let w = err_from_is_err_and c.from_residual-in_err-join-in-Inst-Inst.result c.from_residual-in_err-join-in-Inst-Inst.ensures.1 in
    rw (w.1, w.2) tt

pub returns-in_err-push-in-Inst-Inst-clause-refused : goal.returns-in_err-push-in-Inst-Inst-clause-refused
returns-in_err-push-in-Inst-Inst-clause-refused c =
    let w = err_from_is_err_and c.from_residual-in_err-push-in-Inst-Inst.result c.from_residual-in_err-push-in-Inst-Inst.ensures.1 in
    rw (w.1, w.2) tt

pub returns-in_err-enter-in-Inst-Inst-clause-refused : goal.returns-in_err-enter-in-Inst-Inst-clause-refused
returns-in_err-enter-in-Inst-Inst-clause-refused c =
    let w = err_from_is_err_and c.from_residual-in_err-enter-in-Inst-Inst.result c.from_residual-in_err-enter-in-Inst-Inst.ensures.1 in
    rw (w.1, w.2) tt
