use Rattle.std.proofs.Common.{◌≡◌, ℕ, ◌<◌, true, false, List, length, refl, sym, ap, subst, ◌∙◌, arith}
use Rattle.std.specs.Prelude.{IfSome, Option, is_none}
use Rattle.std.specs.Option.{option_map}
use Rattle.cvc_base.specs.declared.cause.Cause.TheVariants.{TooManyNets, ParamLoop}
use Rattle.cvc_cdl.specs.Building.{fault_at}
use Rattle.cvc_cdl.specs.declared.netlist.Netlist.{Netlist}
use Rattle.cvc_cdl.specs.Instances.{Instance}
use Rattle.cvc_params.specs.Levels.{instance_of}
use Rattle.cvc_params.specs.Places.{has_loop}
use Rattle.cvc_plan.specs.declared.cards.Plan.{Plan}
use Rattle.cvc_plan.specs.declared.rows.NetRow.{NetRow}
use Rattle.cvc_plan.specs.Nets.{Net, global_names}
use Rattle.cvc_flat.specs.declared.rows.InstanceRow.{InstanceRow}
use Rattle.cvc_flat.specs.declared.steps.Made.{Made}
use Rattle.cvc_flat.specs.Flat.{limits, nets_once, pins_of}
use Rattle.cvc_flat.specs.Joining.{IsHost}
use Rattle.cvc_flat.specs.Making.{AreRows, device_cause_in, known_nets}
use Rattle.cvc_flat.specs.Sharing.{IsGroupOf, TakesGroup}
use Rattle.cvc_flat.proofs.Added.{device_added, known_length}
use Rattle.cvc_flat.proofs.Causes.{cause_loop, cause_nets, cause_none, refuses_at}
use Rattle.cvc_flat.proofs.Joined.{pins_shown, pins_within}
use Rattle.cvc_flat.proofs.Sharing.{by_card, by_number}
use Rattle.cvc_flat.proofs.steps.place.Goals as goal

-- rows in sound tables
host_rows : (n : Netlist) (p : Plan) (rows : List InstanceRow) (made : Made) (within : Instance) (i : ℕ) (ports : List NetRow) → IsHost n p rows made within i ports → AreRows p rows made.nets
host_rows n p rows made within i ports h = record { apart = h.sound.names; ways = h.sound.ways; within = h.sound.nets }

pub pins_of-requires : goal.pins_of-requires
pins_of-requires c =
    pins_within c.args.plan.now.cards.names (global_names c.args.source.now.netlist.now) _ c.args.card.now.nets (length c.args.ports.now) c.args.device.now.pins.items c.requires.ports c.requires.pins

pub returns-then-len-gt-NETS-clause-refused : goal.returns-then-len-gt-NETS-clause-refused
returns-then-len-gt-NETS-clause-refused c = λ rows host.
    let n = c.args.source.now.netlist.now in
    let p = c.args.plan.now in
    let card = c.args.card.now in
    let within = instance_of c.args.sight.now.levels.items in
    let known : List Net = known_nets p.cards rows c.args.made.now.nets in
    let count : ℕ = length c.args.made.now.devices.items in
    let few : count < 500000 = omega (arith, c.len.ensures, c.if-len-ge-DEVICES.false) in
    let shown = pins_shown n p rows within c.args.instance c.args.ports.now host.inside host.path host.has card.nets c.args.device.now.pins.items c.requires.pins in
    let pins = c.in_ok-pins.ensures p rows (host_rows n p rows c.args.made.now within c.args.instance c.args.ports.now host) shown.1 in
    let more : length (nets_once known (pins_of n within card)) ≡ length c.pins_of.new.nets =
    known_length n p rows c.args.made.now.nets c.pins_of.new.nets _ (pins_of n within card) c.in_ok-pins.pins.items shown.0 pins in
    refuses_at (device_cause_in limits n count known within card) card.line TooManyNets c.refused-then-len-gt-NETS.result c.refused-then-len-gt-NETS.ensures
    (cause_nets n count known within card few (omega (arith, more, c.len-2.ensures, c.if-len-gt-NETS.true)))

pub returns-in_default-clause-refused : goal.returns-in_default-clause-refused
returns-in_default-clause-refused c = λ rows host.
    let n = c.args.source.now.netlist.now in
    let p = c.args.plan.now in
    let card = c.args.card.now in
    let within = instance_of c.args.sight.now.levels.items in
    let known : List Net = known_nets p.cards rows c.args.made.now.nets in
    let count : ℕ = length c.args.made.now.devices.items in
    let few : count < 500000 = omega (arith, c.len.ensures, c.if-len-ge-DEVICES.false) in
    let shown = pins_shown n p rows within c.args.instance c.args.ports.now host.inside host.path host.has card.nets c.args.device.now.pins.items c.requires.pins in
    let pins = c.in_ok-pins.ensures p rows (host_rows n p rows c.args.made.now within c.args.instance c.args.ports.now host) shown.1 in
    let more : length (nets_once known (pins_of n within card)) ≡ length c.pins_of.new.nets =
    known_length n p rows c.args.made.now.nets c.pins_of.new.nets _ (pins_of n within card) c.in_ok-pins.pins.items shown.0 pins in
    let looped : has_loop n within card.pairs ≡ true = ap (λ (m : Netlist). has_loop m within card.pairs) (sym c.requires.same) ∙ sym c.in_ok-found.ensures.looped ∙ ap is_none c.in_default.is in
    refuses_at (device_cause_in limits n count known within card) card.line ParamLoop c.refused-in_default.result c.refused-in_default.ensures
    (cause_loop n count known within card few (omega (arith, more, c.len-2.ensures, c.if-len-gt-NETS.false)) looped)

pub returns-clause-refused : goal.returns-clause-refused
returns-clause-refused c = λ rows host.
    let n = c.args.source.now.netlist.now in
    let p = c.args.plan.now in
    let card = c.args.card.now in
    let within = instance_of c.args.sight.now.levels.items in
    let known : List Net = known_nets p.cards rows c.args.made.now.nets in
    let count : ℕ = length c.args.made.now.devices.items in
    let few : count < 500000 = omega (arith, c.len.ensures, c.if-len-ge-DEVICES.false) in
    let shown = pins_shown n p rows within c.args.instance c.args.ports.now host.inside host.path host.has card.nets c.args.device.now.pins.items c.requires.pins in
    let pins = c.in_ok-pins.ensures p rows (host_rows n p rows c.args.made.now within c.args.instance c.args.ports.now host) shown.1 in
    let more : length (nets_once known (pins_of n within card)) ≡ length c.pins_of.new.nets =
    known_length n p rows c.args.made.now.nets c.pins_of.new.nets _ (pins_of n within card) c.in_ok-pins.pins.items shown.0 pins in
    let free : has_loop n within card.pairs ≡ false = ap (λ (m : Netlist). has_loop m within card.pairs) (sym c.requires.same) ∙ sym c.in_ok-found.ensures.looped ∙ ap is_none c.in-Some.is in
    ap (option_map (fault_at card.line)) (cause_none n count known within card few (omega (arith, more, c.len-2.ensures, c.if-len-gt-NETS.false)) free)

pub returns-clause-added : goal.returns-clause-added
returns-clause-added c = λ rows host.
    let n = c.args.source.now.netlist.now in
    let p = c.args.plan.now in
    let card = c.args.card.now in
    let device = c.args.device.now in
    let within = instance_of c.args.sight.now.levels.items in
    let shown = pins_shown n p rows within c.args.instance c.args.ports.now host.inside host.path host.has card.nets device.pins.items c.requires.pins in
    let pins = c.in_ok-pins.ensures p rows (host_rows n p rows c.args.made.now within c.args.instance c.args.ports.now host) shown.1 in
    let takes = subst (λ (m : Netlist). TakesGroup m within card.pairs device.model c.args.made.now.groups c.group_of.new.groups c.in-Some.group) c.requires.same
    (subst (λ (o : Option ℕ). IfSome o (TakesGroup c.args.sight.now.netlist.now within card.pairs device.model c.args.made.now.groups c.group_of.new.groups)) c.in-Some.is c.in_ok-found.ensures.group) in
    device_added n p rows c.args.made.now record { nets = c.pins_of.new.nets; devices = c.push.new.self; groups = c.group_of.new.groups } within card c.args.number device
    record { instance = c.args.instance; card = c.args.number; group = c.in-Some.group; pins = c.in_ok-pins.pins }
    _ shown.0 c.requires.device c.requires.formed host.sound host.inside host.path pins refl takes c.in_ok-push.ensures.items
    (omega (arith, c.len.ensures, c.if-len-ge-DEVICES.false)) c.requires.groups (omega (arith, c.len-2.ensures, c.if-len-gt-NETS.false))

pub returns-clause-shared : goal.returns-clause-shared
returns-clause-shared c =
    by_card c.args.plan.now.cards.names c.group_of.new.groups c.args.card.now _ c.args.device.now.model c.group_of.new.shared c.requires.device.kept
    (subst (λ (o : Option ℕ). IfSome o (λ g. IfSome c.group_of.new.shared (IsGroupOf c.group_of.new.groups c.args.card.now.pairs c.args.device.now.model))) c.in-Some.is c.in_ok-found.ensures.shared)

pub group_of-requires-clause-shared : goal.group_of-requires-clause-shared
group_of-requires-clause-shared c =
    by_number c.args.plan.now.cards.names c.args.made.now.groups c.args.card.now _ c.args.device.now.model c.args.shared.now c.requires.plan.apart c.requires.device.kept c.requires.shared
