-- One more device in the tables.
use Rattle.std.proofs.Common.{◌≡◌, ℕ, ◌+◌, ◌<◌, ◌≤◌, List, [], ◌∷◌, ◌++◌, length, map, get_or, refl, sym, ap, subst, ◌∙◌, length-append, arith}
use Rattle.std.specs.Prelude.{All, Option}
use Rattle.std.specs.List.{filter_map}
use Rattle.std.specs.Option.{unwrap_or}
use Rattle.std.proofs.lemmas.List.{append-nil, get_or_append_left, length-map, map-append}
use Rattle.std.proofs.lemmas.List.Elements.{All-append}
use Rattle.cvc_base.specs.declared.ids.NetId.{NetId}
use Rattle.cvc_base.specs.declared.param.Param.{Param}
use Rattle.cvc_card.specs.declared.card.DeviceCard.{DeviceCard}
use Rattle.cvc_card.specs.Card.{net_count}
use Rattle.cvc_cdl.specs.declared.netlist.Item.TheVariants as items
use Rattle.cvc_cdl.specs.declared.netlist.Netlist.{Netlist}
use Rattle.cvc_cdl.specs.Instances.{Instance, names_to}
use Rattle.cvc_params.specs.Params.{params_in}
use Rattle.cvc_plan.specs.declared.cards.Plan.{Plan}
use Rattle.cvc_plan.specs.declared.plan.DevicePlan.{DevicePlan}
use Rattle.cvc_plan.specs.declared.rows.NetRow.{NetRow}
use Rattle.cvc_plan.specs.Nets.{Net, names_of, net_in, path_of as path_in}
use Rattle.cvc_plan.specs.Planning.{IsDevicePlan}
use Rattle.cvc_plan.specs.Parts.{part_at, text}
use Rattle.cvc_plan.proofs.Growing.{map_alike}
use Rattle.cvc_plan.proofs.Lists.{all_cons, all_head, all_one, all_tail}
use Rattle.cvc_flat.specs.declared.rows.DeviceRow.{DeviceRow}
use Rattle.cvc_flat.specs.declared.rows.Group.{Group}
use Rattle.cvc_flat.specs.declared.rows.InstanceRow.{InstanceRow}
use Rattle.cvc_flat.specs.declared.steps.Made.{Made}
use Rattle.cvc_flat.specs.Flat.{FlatDevice, Placed, device_at as placed_at, devices_behind, instance_at, flat_device, instances_behind, net_id, nets_behind, nets_once, pins_of}
use Rattle.cvc_flat.specs.Making.{AddsDevice, NumbersPins, Shows, known_nets, tables_of}
use Rattle.cvc_flat.specs.Sharing.{TakesGroup}
use Rattle.cvc_flat.specs.Tables.{IsDevice, IsSound, Tables, Way, device_at, group_at, names_on, net_at, no_group, path_of, way_at, ways_of}
use Rattle.cvc_flat.specs.Walk.{Visit}
use Rattle.cvc_flat.proofs.Numbered.{AllBelow, below_more, ids_stay, once_more}
use Rattle.cvc_flat.proofs.Once.{nets_next}
use Rattle.std.proofs.lemmas.List.Elements.{filter_map-append}

-- ## What a device's row shows

pub path_names : (n : Netlist) (p : Instance) → names_of (path_in n p) ≡ names_to p
path_names n [] = refl
path_names n (x ∷ p) = ap (λ l. x.name ∷ l) (path_names n p)

-- as many nets are known then as rows
pub known_length : (n : Netlist) (p : Plan) (rows : List InstanceRow) (old new : List NetRow) (nets wanted : List Net) (pins : List NetId) → nets ≡ wanted
    → NumbersPins p rows old new nets pins → length (nets_once (known_nets p.cards rows old) wanted) ≡ length new
known_length n p rows old new nets wanted pins e w =
    ap (λ ns. length (nets_once (known_nets p.cards rows old) ns)) (sym e) ∙ ap length (sym w.known) ∙ length-map new (net_at p.cards.names p.cards.parts.items (ways_of rows))

module _ (n : Netlist) (p : Plan) (rows : List InstanceRow) (old new : Made) (within : Instance) (card : DeviceCard) (number : ℕ) (plan : DevicePlan) (row : DeviceRow)
    (nets : List Net) (wanted : nets ≡ pins_of n within card) (d : IsDevicePlan p.cards card number plan) (formed : length card.nets ≡ net_count card.letter)
    (sound : IsSound (tables_of n p rows old)) (inside : row.instance ≤ length rows)
    (path : path_of p.cards.names p.cards.parts.items (way_at (ways_of rows) row.instance) ≡ path_in n within)
    (pins : NumbersPins p rows old.nets new.nets nets row.pins.items)
    (at : row.card ≡ number) (takes : TakesGroup n within card.pairs plan.model old.groups new.groups row.group)
    (devices : new.devices.items ≡ old.devices.items ++ row ∷ [])
    (few : length old.devices.items < 500000) (fewer : length old.groups ≤ length old.devices.items) (room : length new.nets ≤ 1000000) where
  abbrev ways : List Way
  ways = ways_of rows

  of_card : part_at p.cards.devices.items row.card ≡ part_at p.cards.devices.items number
  of_card = ap (part_at p.cards.devices.items) at

  shown : device_at (tables_of n p rows new) ways row ≡ flat_device n (known_nets p.cards rows new.nets) record { within = within; card = card }
  shown =
      let letter = ap (λ x. x.letter) of_card ∙ d.kept.letter in
      let names = ap names_of path ∙ path_names n within in
      let name = ap (λ x. text p.cards.names x.name) of_card ∙ d.kept.name in
      let numbers = pins.numbers ∙ ap (map (net_id (known_nets p.cards rows new.nets))) wanted in
      let named = ap (text p.cards.names) takes.of_model ∙ d.kept.model in
      let values = sym (ap (λ (o : Option (List Param)). unwrap_or o []) takes.params) in
      let line = ap (λ x. x.line) of_card ∙ d.kept.line in
      λ i. record { letter = letter i; within = names i; name = name i; pins = numbers i; model = named i; params = values i; line = line i }

  known_more : length old.nets ≤ length new.nets
  known_more =
      let w = once_more (known_nets p.cards rows old.nets) nets in
      omega (arith, ap length (pins.known ∙ w.1), length-append (known_nets p.cards rows old.nets) w.0, length-map old.nets (net_at p.cards.names p.cards.parts.items ways), length-map new.nets (net_at p.cards.names p.cards.parts.items ways))

  groups_more : length new.groups ≡ length old.groups + length takes.more
  groups_more = omega (arith, ap length takes.groups, length-append old.groups takes.more)

  devices_more : length new.devices.items ≡ length old.devices.items + 1
  devices_more = omega (arith, ap length devices, length-append old.devices.items (row ∷ []))

  device_here : IsDevice (tables_of n p rows new) row
  device_here =
      let below : row.card < length p.cards.devices.items = omega (arith, at, d.inside) in
      let count : length row.pins.items ≡ net_count (part_at p.cards.devices.items row.card).letter =
      ap length (pins.numbers ∙ ap (map (net_id (known_nets p.cards rows new.nets))) wanted) ∙ length-map (pins_of n within card) (net_id (known_nets p.cards rows new.nets)) ∙ length-map card.nets (net_in n within)
      ∙ formed ∙ ap net_count (sym (ap (λ x. x.letter) of_card ∙ d.kept.letter)) in
      (inside, below, takes.inside, count, pins.inside)

  device_there : (r : DeviceRow) → IsDevice (tables_of n p rows old) r → IsDevice (tables_of n p rows new) r
  device_there r w =
      let grouped : r.group < length new.groups = omega (arith, w.2, groups_more) in
      (w.0, w.1, grouped, w.3, below_more r.pins.items (length old.nets) (length new.nets) known_more w.4)

  all_devices : All (IsDevice (tables_of n p rows new)) new.devices.items
  all_devices =
      subst (All (IsDevice (tables_of n p rows new))) (sym devices)
      (All-append (IsDevice (tables_of n p rows new)) old.devices.items (row ∷ []) (λ k e b. device_there (get_or old.devices.items k e) (sound.devices k e b)) (all_one (IsDevice (tables_of n p rows new)) row device_here))

  all_groups : All (λ (g : Group). g.model < length p.cards.names) new.groups
  all_groups =
      subst (All (λ (g : Group). g.model < length p.cards.names)) (sym takes.groups)
      (All-append (λ (g : Group). g.model < length p.cards.names) old.groups takes.more sound.groups (λ k e b. subst (λ m. m < length p.cards.names) (sym (takes.models k e b)) d.kept.known))

  now_sound : IsSound (tables_of n p rows new)
  now_sound = record {
    names = sound.names;
    ways = sound.ways;
    name_count = sound.name_count;
    globals = sound.globals;
    parts = sound.parts;
    cards = sound.cards;
    groups = all_groups;
    tree = sound.tree;
    instances = sound.instances;
    devices = all_devices;
    nets = pins.within;
    instance_count = sound.instance_count;
    group_count = omega (arith, groups_more, takes.few, fewer, few);
    device_count = omega (arith, devices_more, few);
    net_count = room;
  }

  pub device_added : AddsDevice n p rows old new within card
  device_added = record {
    nets = pins.known ∙ ap (nets_once (known_nets p.cards rows old.nets)) wanted;
    more = takes.more;
    groups = takes.groups;
    row = row;
    devices = devices;
    shown = shown;
    sound = now_sound;
    counted = omega (arith, groups_more, takes.few, devices_more, fewer);
  }

-- ## What lies behind one visit more

one_device : (p : Instance) (card : DeviceCard) (visits : List Visit) → devices_behind (visits ++ record { within = p; item = items.Device card } ∷ []) ≡ devices_behind visits ++ record { within = p; card = card } ∷ []
unfolding devices_behind
one_device p card visits = filter_map-append placed_at visits (record { within = p; item = items.Device card } ∷ [])

same_instances : (p : Instance) (card : DeviceCard) (visits : List Visit) → instances_behind (visits ++ record { within = p; item = items.Device card } ∷ []) ≡ instances_behind visits
unfolding instances_behind
same_instances p card visits = filter_map-append instance_at visits (record { within = p; item = items.Device card } ∷ []) ∙ append-nil (filter_map instance_at visits)

-- the devices of rows stay as they are with more groups
rows_stay : (t u : Tables) (ways : List Way) (more : List Group) (rows : List DeviceRow) → u.names ≡ t.names → u.parts ≡ t.parts → u.cards ≡ t.cards → u.groups ≡ t.groups ++ more → All (λ (r : DeviceRow). r.group < length t.groups) rows
    → map (device_at u ways) rows ≡ map (device_at t ways) rows
rows_stay t u ways more rows a b c g h =
    map_alike (device_at u ways) (device_at t ways) rows
    (λ k d l i. let r = get_or rows k d in record {
      letter = (part_at (c i) r.card).letter;
      within = names_on (a i) (b i) (way_at ways r.instance);
      name = text (a i) (part_at (c i) r.card).name;
      pins = r.pins.items;
      model = text (a i) (same_group r (h k d l) i).model;
      params = (same_group r (h k d l) i).params;
      line = (part_at (c i) r.card).line;
    })
  where
    same_group : (r : DeviceRow) → r.group < length t.groups → group_at u.groups r.group ≡ group_at t.groups r.group
    same_group r l = ap (λ (gs : List Group). group_at gs r.group) g ∙ get_or_append_left t.groups more no_group r.group l

-- the devices of visits stay as they are with more nets
devices_stay : (n : Netlist) (known more : List Net) (ds : List Placed) → All (λ (f : FlatDevice). AllBelow (length known) f.pins) (map (flat_device n known) ds) → map (flat_device n (known ++ more)) ds ≡ map (flat_device n known) ds
devices_stay n known more [] h = refl
devices_stay n known more (d ∷ ds) h =
    let first = ids_stay known more (pins_of n d.within d.card) (all_head (λ (f : FlatDevice). AllBelow (length known) f.pins) (flat_device n known d) (map (flat_device n known) ds) h) in
    let rest = devices_stay n known more ds (all_tail (λ (f : FlatDevice). AllBelow (length known) f.pins) (flat_device n known d) (map (flat_device n known) ds) h) in
    λ i. record { letter = d.card.letter; within = names_to d.within; name = d.card.name; pins = first i; model = d.card.model; params = unwrap_or (params_in n d.within d.card.pairs) []; line = d.card.line } ∷ rest i

all_pins : (t : Tables) (ways : List Way) (rows : List DeviceRow) → All (IsDevice t) rows → All (λ (f : FlatDevice). AllBelow (length t.nets) f.pins) (map (device_at t ways) rows)
all_pins t ways [] h = λ k d b. absurd (omega arith)
all_pins t ways (r ∷ rows) h =
    all_cons (λ (f : FlatDevice). AllBelow (length t.nets) f.pins) (device_at t ways r) (map (device_at t ways) rows) (all_head (IsDevice t) r rows h).4 (all_pins t ways rows (all_tail (IsDevice t) r rows h))

-- the tables show one device more
pub shows_device : (n : Netlist) (p : Plan) (rows : List InstanceRow) (old new : Made) (within : Instance) (card : DeviceCard) (visits : List Visit) → IsSound (tables_of n p rows old)
    → Shows n (tables_of n p rows old) visits → AddsDevice n p rows old new within card → Shows n (tables_of n p rows new) (visits ++ record { within = within; item = items.Device card } ∷ [])
shows_device n p rows old new within card visits sound s a =
    let v : Visit = record { within = within; item = items.Device card } in
    let t : Tables = tables_of n p rows old in
    let known : List Net = known_nets p.cards rows old.nets in
    let nets : known_nets p.cards rows new.nets ≡ nets_behind n (visits ++ v ∷ []) = a.nets ∙ ap (λ l. nets_once l (pins_of n within card)) s.nets ∙ sym (nets_next n visits v) in
    let more = once_more known (pins_of n within card) in
    let grown : nets_behind n (visits ++ v ∷ []) ≡ known ++ more.0 = sym nets ∙ a.nets ∙ more.1 in
    let before : map (device_at t (ways_of rows)) old.devices.items ≡ map (flat_device n known) (devices_behind visits) = s.devices ∙ ap (λ l. map (flat_device n l) (devices_behind visits)) (sym s.nets) in
    let inside : All (λ (f : FlatDevice). AllBelow (length known) f.pins) (map (flat_device n known) (devices_behind visits)) =
    subst (All (λ (f : FlatDevice). AllBelow (length known) f.pins)) before
    (subst (λ k. All (λ (f : FlatDevice). AllBelow k f.pins) (map (device_at t (ways_of rows)) old.devices.items)) (sym (length-map old.nets (net_at p.cards.names p.cards.parts.items (ways_of rows)))) (all_pins t (ways_of rows) old.devices.items sound.devices)) in
    let stays : map (device_at (tables_of n p rows new) (ways_of rows)) old.devices.items ≡ map (flat_device n (nets_behind n (visits ++ v ∷ []))) (devices_behind visits) =
    rows_stay t (tables_of n p rows new) (ways_of rows) a.more old.devices.items refl refl refl a.groups (λ k d b. (sound.devices k d b).2)
    ∙ before ∙ sym (ap (λ l. map (flat_device n l) (devices_behind visits)) grown ∙ devices_stay n known more.0 (devices_behind visits) inside) in
    record {
      instances = s.instances ∙ ap (map (path_in n)) (sym (same_instances within card visits));
      nets = nets;
      devices = ap (map (device_at (tables_of n p rows new) (ways_of rows))) a.devices ∙ map-append (device_at (tables_of n p rows new) (ways_of rows)) old.devices.items (a.row ∷ [])
          ∙ (λ i. stays i ++ (a.shown ∙ ap (λ l. flat_device n l record { within = within; card = card }) nets) i ∷ [])
          ∙ sym (ap (map (flat_device n (nets_behind n (visits ++ v ∷ [])))) (one_device within card visits) ∙ map-append (flat_device n (nets_behind n (visits ++ v ∷ []))) (devices_behind visits) (record { within = within; card = card } ∷ []));
    }
