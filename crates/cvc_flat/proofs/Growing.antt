-- A plan that grows in a walk: what the tables show stays as it is.
use Rattle.std.proofs.Common.{◌≡◌, ℕ, ◌<◌, List, [], ◌∷◌, length, map, drop, get_or, take, sym, ap, ◌∙◌, length-append, arith}
use Rattle.std.specs.Prelude.{All, Option, Some, None, reverse}
use Rattle.std.proofs.lemmas.List.{get_or_append_left}
use Rattle.std.proofs.lemmas.List.Elements.{All-drop}
use Rattle.cvc_card.specs.Card.{net_count}
use Rattle.cvc_cdl.specs.declared.netlist.Cell.{Cell}
use Rattle.cvc_cdl.specs.declared.netlist.Item.{Item}
use Rattle.cvc_cdl.specs.declared.netlist.Item.TheVariants as items
use Rattle.cvc_cdl.specs.declared.netlist.Netlist.{Netlist}
use Rattle.cvc_cdl.specs.Instances.{Instance}
use Rattle.cvc_cdl.proofs.Zips.{zip_map}
use Rattle.cvc_params.specs.declared.level.Level.{Level}
use Rattle.cvc_params.specs.Levels.{card_of}
use Rattle.cvc_plan.specs.declared.cards.Plan.{Plan}
use Rattle.cvc_plan.specs.declared.rows.DevicePart.{DevicePart}
use Rattle.cvc_plan.specs.declared.rows.InstancePart.{InstancePart}
use Rattle.cvc_plan.specs.declared.rows.NetRow.{NetRow}
use Rattle.cvc_plan.specs.Names.{Grows}
use Rattle.cvc_plan.specs.Nets.{names_of, net_within}
use Rattle.cvc_plan.specs.Parts.{link_at, no_part, part_at, text}
use Rattle.cvc_plan.specs.Planning.{IsPlan, PlanGrows}
use Rattle.cvc_plan.proofs.Growing.{grows_length, grows_text, map_alike}
use Rattle.cvc_plan.proofs.Planned.{link_stays}
use Rattle.cvc_flat.specs.declared.rows.DeviceRow.{DeviceRow}
use Rattle.cvc_flat.specs.declared.rows.Group.{Group}
use Rattle.cvc_flat.specs.declared.rows.InstanceRow.{InstanceRow}
use Rattle.cvc_flat.specs.declared.shared.CellGroups.{CellGroups}
use Rattle.cvc_flat.specs.declared.steps.Made.{Made}
use Rattle.cvc_flat.specs.declared.walk.Mark.{Mark}
use Rattle.cvc_flat.specs.Joining.{ArePorts, HasPorts}
use Rattle.cvc_flat.specs.Making.{AreMarks, AreNetsWithin, IsMark, Shows, known_nets, tables_of}
use Rattle.cvc_flat.specs.Sharing.{AreItemsShared, AreShared, IsItemShared}
use Rattle.cvc_flat.specs.Tables.{IsDevice, IsSound, Way, device_at, group_at, net_at, no_group, path_of, way_at, ways_of}
use Rattle.cvc_flat.specs.Walk.{Visit}
use Rattle.cvc_flat.proofs.Marks.{IsWalked}
use Rattle.cvc_flat.proofs.States.{IsState}
use Rattle.cvc_flat.proofs.Ways.{all_on_way, all_ways}

module _ (n : Netlist) (p q : Plan) (grows : PlanGrows p q) (old : IsPlan n p) (rows : List InstanceRow) (cards : All (λ (r : InstanceRow). r.card < length p.cards.parts.items) rows) where
  abbrev names : List (List ℕ)
  names = p.cards.names

  abbrev parts : List InstancePart
  parts = p.cards.parts.items

  abbrev more : List (List ℕ)
  more = q.cards.names

  abbrev more_parts : List InstancePart
  more_parts = q.cards.parts.items

  abbrev grown : Grows names more
  grown = grows.cards.names

  -- ## Ways and nets

  links_stay : (way : Way) → All (λ c. c < length parts) way → path_of more more_parts way ≡ path_of names parts way
  links_stay way h = map_alike (link_at more more_parts) (link_at names parts) way (λ k d b. link_stays p.cards q.cards (get_or way k d) grows.cards old.cards (h k d b))

  path_stays : (i : ℕ) → path_of more more_parts (way_at (ways_of rows) i) ≡ path_of names parts (way_at (ways_of rows) i)
  path_stays i = links_stay (way_at (ways_of rows) i) (all_on_way (λ c. c < length parts) rows i cards)

  paths_stay : map (path_of more more_parts) (drop 1 (ways_of rows)) ≡ map (path_of names parts) (drop 1 (ways_of rows))
  paths_stay =
      let all : All (λ (w : Way). All (λ c. c < length parts) w) (drop 1 (ways_of rows)) = All-drop (λ (w : Way). All (λ c. c < length parts) w) 1 (ways_of rows) (all_ways (λ c. c < length parts) rows cards) in
      map_alike (path_of more more_parts) (path_of names parts) (drop 1 (ways_of rows)) (λ k d b. links_stay (get_or (drop 1 (ways_of rows)) k d) (all k d b))

  net_stays : (r : NetRow) → r.name < length names → net_at more more_parts (ways_of rows) r ≡ net_at names parts (ways_of rows) r
  net_stays r h = let path = path_stays r.instance in let name = grows_text names more r.name grown h in λ i. net_within (names_of (path i)) (name i)

  nets_stay : (nets : List NetRow) → AreNetsWithin p rows nets → known_nets q.cards rows nets ≡ known_nets p.cards rows nets
  nets_stay nets h = map_alike (net_at more more_parts (ways_of rows)) (net_at names parts (ways_of rows)) nets (λ k d b. net_stays (get_or nets k d) (h k d b).1)

  within_stays : (nets : List NetRow) → AreNetsWithin p rows nets → AreNetsWithin q rows nets
  within_stays nets h = λ k d b. let w = h k d b in let named : (get_or nets k d).name < length more = omega (arith, w.1, grows_length names more grown) in (w.0, named)

  -- ## Ports and marks

  has_stays : (within : Instance) (ports : List NetRow) → HasPorts n p rows within ports → HasPorts n q rows within ports
  has_stays within ports h = record { nets = nets_stay ports h.known ∙ h.nets; known = within_stays ports h.known; own = h.own }

  ports_stay : (ls : List Level) (ports : List NetRow) (m : Mark) (above : List Mark) → ArePorts n p rows ls ports m above → ArePorts n q rows ls ports m above
  ports_stay [] ports m above h = (h.0, has_stays [] (drop m.first ports) h.1)
  ports_stay (l ∷ ls) ports m [] h = absurd h
  ports_stay (l ∷ ls) ports m (a ∷ above) h = (h.0, has_stays (map card_of (l ∷ ls)) (drop m.first ports) h.1, ports_stay ls (take m.first ports) a above h.2)

  mark_stays : (ls : List Level) (m : Mark) → IsMark n p rows ls m → IsMark n q rows ls m
  mark_stays ls m h = record { inside = h.inside; path = path_stays m.instance ∙ h.path; cell = h.cell; known = h.known; plan = h.plan }

  marks_stay : (ls : List Level) (m : Mark) (above : List Mark) → AreMarks n p rows ls m above → AreMarks n q rows ls m above
  marks_stay [] m [] h = mark_stays [] m h
  marks_stay [] m (a ∷ above) h = absurd h
  marks_stay (l ∷ ls) m [] h = absurd h
  marks_stay (l ∷ ls) m (a ∷ above) h = (mark_stays (l ∷ ls) m h.0, marks_stay ls a above h.1)

  -- ## Tables

  part_stays : (k : ℕ) → k < length p.cards.devices.items → part_at q.cards.devices.items k ≡ part_at p.cards.devices.items k
  part_stays k h = ap (λ (l : List DevicePart). part_at l k) grows.cards.devices ∙ get_or_append_left p.cards.devices.items grows.cards.more_devices no_part k h

  module _ (made : Made) (sound : IsSound (tables_of n p rows made)) where
    device_stays : (r : DeviceRow) → IsDevice (tables_of n p rows made) r → device_at (tables_of n q rows made) (ways_of rows) r ≡ device_at (tables_of n p rows made) (ways_of rows) r
    device_stays r d =
        let part = part_stays r.card d.1 in
        let path = path_stays r.instance in
        let own : DevicePart = part_at p.cards.devices.items r.card in
        let group : Group = group_at made.groups r.group in
        let name = ap (λ (x : DevicePart). text more x.name) part ∙ grows_text names more own.name grown (sound.cards r.card no_part d.1) in
        let model = grows_text names more group.model grown (sound.groups r.group no_group d.2) in
        λ i. record { letter = (part i).letter; within = names_of (path i); name = name i; pins = r.pins.items; model = model i; params = group.params; line = (part i).line }

    device_inside : (r : DeviceRow) → IsDevice (tables_of n p rows made) r → IsDevice (tables_of n q rows made) r
    device_inside r d =
        let below : r.card < length q.cards.devices.items = omega (arith, d.1, ap length grows.cards.devices, length-append p.cards.devices.items grows.cards.more_devices) in
        (d.0, below, d.2, d.3 ∙ ap (λ (x : DevicePart). net_count x.letter) (sym (part_stays r.card d.1)), d.4)

    shows_stays : (visits : List Visit) → Shows n (tables_of n p rows made) visits → Shows n (tables_of n q rows made) visits
    shows_stays visits s = record {
      instances = paths_stay ∙ s.instances;
      nets = nets_stay made.nets sound.nets ∙ s.nets;
      devices = map_alike (device_at (tables_of n q rows made) (ways_of rows)) (device_at (tables_of n p rows made) (ways_of rows)) made.devices.items (λ k d b. device_stays (get_or made.devices.items k d) (sound.devices k d b)) ∙ s.devices;
    }

    sound_stays : IsPlan n q → IsSound (tables_of n q rows made)
    sound_stays new = record {
      names = new.apart;
      ways = λ i j a b e. sound.ways i j a b (sym (ap names_of (path_stays i)) ∙ e ∙ ap names_of (path_stays j));
      name_count = new.name_count;
      globals = new.below;
      parts = new.cards.parts;
      cards = new.cards.devices;
      groups = λ k d b. let w = sound.groups k d b in omega (arith, w, grows_length names more grown);
      tree = sound.tree;
      instances = λ k d b. let w = sound.instances k d b in omega (arith, w, ap length grows.cards.parts, length-append parts grows.cards.more_parts);
      devices = λ k d b. device_inside (get_or made.devices.items k d) (sound.devices k d b);
      nets = within_stays made.nets sound.nets;
      instance_count = sound.instance_count;
      group_count = sound.group_count;
      device_count = sound.device_count;
      net_count = sound.net_count;
    }

    walked_stays : (ls : List Level) (m : Mark) (above : List Mark) → IsWalked n p rows made ls m above → IsWalked n q rows made ls m above
    walked_stays ls m above w = record { done = w.done; shows = shows_stays w.done w.shows; whole = w.whole; fault = w.fault }

-- ## States

module _ (n : Netlist) (p q : Plan) (grows : PlanGrows p q) (old : IsPlan n p) (new : IsPlan n q) (rows : List InstanceRow) (made : Made) (levels : List Level) (mark : Mark) (above : List Mark) (s : IsState n p rows made levels mark above) where
  pub state_grows : IsState n q rows made levels mark above
  state_grows = record {
    walked = walked_stays n p q grows old rows s.sound.instances made s.sound (reverse levels) mark (reverse above) s.walked;
    sound = sound_stays n p q grows old rows s.sound.instances made s.sound new;
    marks = marks_stay n p q grows old rows s.sound.instances (reverse levels) mark (reverse above) s.marks;
    ways = s.ways;
    groups = s.groups;
    deep = s.deep;
  }

  pub ports_grow : (ports : List NetRow) → ArePorts n p rows (reverse levels) ports mark (reverse above) → ArePorts n q rows (reverse levels) ports mark (reverse above)
  ports_grow ports h = ports_stay n p q grows old rows s.sound.instances (reverse levels) ports mark (reverse above) h

-- ## Groups

item_grows : (a b : List (List ℕ)) (groups : List Group) (item : Item) (shared : Option ℕ) → Grows a b → IsItemShared a groups item shared → IsItemShared b groups item shared
item_grows a b groups (items.Device card) None g h = tt
item_grows a b groups (items.Device card) (Some x) g h = record { model = h.model; known = omega (arith, h.known, grows_length a b g); named = grows_text a b h.model g h.known ∙ h.named; group = h.group }
item_grows a b groups (items.Inst card) shared g h = tt

pub shared_grow : (a b : List (List ℕ)) (groups : List Group) (cells : List Cell) (shared : List CellGroups) → Grows a b → AreShared a groups cells shared → AreShared b groups cells shared
shared_grow a b groups cells shared g z =
    zip_map (λ (c : Cell) (s : CellGroups). AreItemsShared a groups c.items s.items.items) (λ (c : Cell) (s : CellGroups). AreItemsShared b groups c.items s.items.items) cells shared
    (λ c s w. zip_map (IsItemShared a groups) (IsItemShared b groups) c.items s.items.items (λ item x h. item_grows a b groups item x g h) w) z
