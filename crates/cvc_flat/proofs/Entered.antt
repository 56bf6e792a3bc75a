-- One more instance in the tables.
use Rattle.std.proofs.Common.{◌≡◌, ℕ, zero, suc, ◌+◌, ◌<◌, ◌≤◌, List, [], ◌∷◌, ◌++◌, length, map, drop, get_or, refl, sym, ap, subst, ◌∙◌, length-append, arith}
use Rattle.std.specs.List.{filter_map}
use Rattle.std.proofs.Math.Seq.{get_or-append_seam}
use Rattle.std.proofs.lemmas.List.{append-nil, get_or-drop, get_or-map, get_or_append_left, length-drop, length-map, map-append}
use Rattle.std.proofs.lemmas.List.Elements.{All-append, filter_map-append}
use Rattle.cvc_card.specs.declared.card.InstCard.{InstCard}
use Rattle.cvc_cdl.specs.declared.netlist.Item.{Item}
use Rattle.cvc_cdl.specs.declared.netlist.Item.TheVariants as items
use Rattle.cvc_cdl.specs.declared.netlist.Netlist.{Netlist}
use Rattle.cvc_cdl.specs.Instances.{Instance, names_to}
use Rattle.cvc_params.proofs.Each.{Each}
use Rattle.cvc_plan.specs.declared.cards.Plan.{Plan}
use Rattle.cvc_plan.specs.declared.rows.InstancePart.{InstancePart}
use Rattle.cvc_plan.specs.declared.rows.NetRow.{NetRow}
use Rattle.cvc_plan.specs.Nets.{Path, link_of as link_in, names_of, path_of as path_in}
use Rattle.cvc_plan.specs.Parts.{link_at, part_at, text}
use Rattle.cvc_plan.proofs.Growing.{map_alike}
use Rattle.cvc_plan.proofs.Lists.{all_one}
use Rattle.cvc_flat.specs.declared.rows.DeviceRow.{DeviceRow}
use Rattle.cvc_flat.specs.declared.rows.InstanceRow.{InstanceRow}
use Rattle.cvc_flat.specs.declared.steps.Made.{Made}
use Rattle.cvc_flat.specs.Flat.{device_at as placed_at, devices_behind, flat_device, instance_at, instances_behind, nets_behind, nets_once}
use Rattle.cvc_flat.specs.Making.{Shows, tables_of}
use Rattle.cvc_flat.specs.Tables.{AreWaysApart, IsDevice, IsNet, IsSound, Way, device_at, group_at, names_on, net_at, no_row, path_of, way_at, way_in, ways_from, ways_of}
use Rattle.cvc_flat.specs.Walk.{Visit}
use Rattle.cvc_flat.proofs.Added.{path_names}
use Rattle.cvc_flat.proofs.Apart.{AllApart, Different}
use Rattle.cvc_flat.proofs.Once.{nets_next}
use Rattle.cvc_flat.proofs.Resolving.{up_to_more}
use borrow.Author.Count.{below_more}
use Rattle.cvc_flat.proofs.Ways.{length_ways, way_top, ways_append}

-- ## Ways

ways_push : (rows : List InstanceRow) (r : InstanceRow) → ways_of (rows ++ r ∷ []) ≡ ways_of rows ++ way_in (ways_of rows) r ∷ []
unfolding ways_of ways_from
ways_push rows r = ways_append ([] ∷ []) rows (r ∷ [])

pub ways_count : (rows : List InstanceRow) → length (ways_of rows) ≡ 1 + length rows
unfolding ways_of
ways_count rows = length_ways ([] ∷ []) rows

pub way_stays : (rows : List InstanceRow) (r : InstanceRow) (i : ℕ) → i ≤ length rows → way_at (ways_of (rows ++ r ∷ [])) i ≡ way_at (ways_of rows) i
way_stays rows r i h = ap (λ ws. way_at ws i) (ways_push rows r) ∙ get_or_append_left (ways_of rows) (way_in (ways_of rows) r ∷ []) [] i (omega (arith, ways_count rows))

pub way_new : (rows : List InstanceRow) (r : InstanceRow) (i : ℕ) → i ≡ length rows + 1 → way_at (ways_of (rows ++ r ∷ [])) i ≡ way_in (ways_of rows) r
way_new rows r i e =
    let at : i ≡ length (ways_of rows) = omega (arith, ways_count rows) in
    ap (λ ws. way_at ws i) (ways_push rows r) ∙ ap (way_at (ways_of rows ++ way_in (ways_of rows) r ∷ [])) at ∙ get_or-append_seam (ways_of rows) (way_in (ways_of rows) r) [] []

drop_one : (ways : List Way) (w : Way) → 0 < length ways → drop 1 (ways ++ w ∷ []) ≡ drop 1 ways ++ w ∷ []
drop_one [] w h = absurd (omega arith)
drop_one (x ∷ ways) w h = refl

-- ## What lies behind one visit more

one_instance : (p : Instance) (card : InstCard) (visits : List Visit) → instances_behind (visits ++ record { within = p; item = items.Inst card } ∷ []) ≡ instances_behind visits ++ (card ∷ p) ∷ []
unfolding instances_behind
one_instance p card visits = filter_map-append instance_at visits (record { within = p; item = items.Inst card } ∷ [])

same_devices : (p : Instance) (card : InstCard) (visits : List Visit) → devices_behind (visits ++ record { within = p; item = items.Inst card } ∷ []) ≡ devices_behind visits
unfolding devices_behind
same_devices p card visits = filter_map-append placed_at visits (record { within = p; item = items.Inst card } ∷ []) ∙ append-nil (filter_map placed_at visits)

same_nets : (n : Netlist) (p : Instance) (card : InstCard) (visits : List Visit) → nets_behind n (visits ++ record { within = p; item = items.Inst card } ∷ []) ≡ nets_behind n visits
unfolding nets_once
same_nets n p card visits = nets_next n visits record { within = p; item = items.Inst card }

module _ (n : Netlist) (p : Plan) (rows : List InstanceRow) (made : Made) (within : Instance) (card : InstCard) (r : InstanceRow) (visits : List Visit)
    (sound : IsSound (tables_of n p rows made)) (shows : Shows n (tables_of n p rows made) visits)
    (above : r.parent ≤ length rows) (known : r.card < length p.cards.parts.items)
    (path : path_of p.cards.names p.cards.parts.items (way_at (ways_of rows) r.parent) ≡ path_in n within)
    (link : link_at p.cards.names p.cards.parts.items r.card ≡ link_in n card) where
  abbrev names : List (List ℕ)
  names = p.cards.names

  abbrev parts : List InstancePart
  parts = p.cards.parts.items

  abbrev v : Visit
  v = record { within = within; item = items.Inst card }

  abbrev more : List InstanceRow
  more = rows ++ r ∷ []

  -- the path to the new instance
  pub path_new : path_of names parts (way_in (ways_of rows) r) ≡ path_in n (card ∷ within)
  path_new = λ i. link i ∷ path i

  nets_stay : map (net_at names parts (ways_of more)) made.nets ≡ map (net_at names parts (ways_of rows)) made.nets
  nets_stay =
      map_alike (net_at names parts (ways_of more)) (net_at names parts (ways_of rows)) made.nets
      (λ k d b i. record { within = names_on names parts (way_stays rows r (get_or made.nets k d).instance (sound.nets k d b).0 i); name = text names (get_or made.nets k d).name })

  devices_stay : map (device_at (tables_of n p more made) (ways_of more)) made.devices.items ≡ map (device_at (tables_of n p rows made) (ways_of rows)) made.devices.items
  devices_stay =
      map_alike (device_at (tables_of n p more made) (ways_of more)) (device_at (tables_of n p rows made) (ways_of rows)) made.devices.items
      (λ k d b i. let x = get_or made.devices.items k d in record {
        letter = (part_at p.cards.devices.items x.card).letter;
        within = names_on names parts (way_stays rows r x.instance (sound.devices k d b).0 i);
        name = text names (part_at p.cards.devices.items x.card).name;
        pins = x.pins.items;
        model = text names (group_at made.groups x.group).model;
        params = (group_at made.groups x.group).params;
        line = (part_at p.cards.devices.items x.card).line;
      })

  -- the tables show one instance more
  pub shows_instance : Shows n (tables_of n p more made) (visits ++ v ∷ [])
  shows_instance = record {
    instances = ap (λ ws. map (path_of names parts) (drop 1 ws)) (ways_push rows r)
        ∙ ap (map (path_of names parts)) (drop_one (ways_of rows) (way_in (ways_of rows) r) (omega (arith, ways_count rows)))
        ∙ map-append (path_of names parts) (drop 1 (ways_of rows)) (way_in (ways_of rows) r ∷ [])
        ∙ (λ i. shows.instances i ++ path_new i ∷ [])
        ∙ sym (ap (map (path_in n)) (one_instance within card visits) ∙ map-append (path_in n) (instances_behind visits) ((card ∷ within) ∷ []));
    nets = nets_stay ∙ shows.nets ∙ sym (same_nets n within card visits);
    devices = devices_stay ∙ shows.devices ∙ sym (λ i. map (flat_device n (same_nets n within card visits i)) (same_devices within card visits i));
  }

  rows_more : length more ≡ length rows + 1
  rows_more = length-append rows (r ∷ [])

  parent_at : (i : ℕ) → i < length rows → (get_or more i no_row).parent ≤ i
  parent_at i h = subst (λ (x : InstanceRow). x.parent ≤ i) (sym (get_or_append_left rows (r ∷ []) no_row i h)) (sound.tree.parents i h)

  parent_here : (get_or more (length rows) no_row).parent ≤ length rows
  parent_here = subst (λ (x : InstanceRow). x.parent ≤ length rows) (sym (get_or-append_seam rows r [] no_row)) above

  parents_more : (i : ℕ) → i < length more → (get_or more i no_row).parent ≤ i
  parents_more i h = below_more (λ k. (get_or more k no_row).parent ≤ k) (length rows) parent_at parent_here i (omega (arith, rows_more))

  depth_at : (i : ℕ) → i ≤ length rows → length (way_at (ways_of more) i) ≤ 64
  depth_at i h = subst (λ (w : Way). length w ≤ 64) (sym (way_stays rows r i h)) (sound.tree.depth i h)

  depth_here : length within < 64 → length (way_at (ways_of more) (length rows + 1)) ≤ 64
  depth_here short =
      let up : length (way_at (ways_of rows) r.parent) ≡ length within = sym (length-map (way_at (ways_of rows) r.parent) (link_at names parts)) ∙ ap length path ∙ length-map within (link_in n) in
      subst (λ (w : Way). length w ≤ 64) (sym (way_new rows r (length rows + 1) refl)) (let d : suc (length (way_at (ways_of rows) r.parent)) ≤ 64 = omega (arith, up, short) in d)

  depth_more : length within < 64 → (i : ℕ) → i ≤ length more → length (way_at (ways_of more) i) ≤ 64
  depth_more short i h = up_to_more (λ k. length (way_at (ways_of more) k) ≤ 64) (length rows) depth_at (depth_here short) i (omega (arith, rows_more))

  device_there : (x : DeviceRow) → IsDevice (tables_of n p rows made) x → IsDevice (tables_of n p more made) x
  device_there x w = let inside : x.instance ≤ length more = omega (arith, w.0, rows_more) in (inside, w.1, w.2, w.3, w.4)

  net_there : (x : NetRow) → IsNet (tables_of n p rows made) x → IsNet (tables_of n p more made) x
  net_there x w = let inside : x.instance ≤ length more = omega (arith, w.0, rows_more) in (inside, w.1)

  pub sound_instance : length rows < 1000000 → length within < 64 → AreWaysApart names parts more → IsSound (tables_of n p more made)
  sound_instance room short apart = record {
    names = sound.names;
    ways = apart;
    name_count = sound.name_count;
    globals = sound.globals;
    parts = sound.parts;
    cards = sound.cards;
    groups = sound.groups;
    tree = record { parents = parents_more; depth = depth_more short };
    instances = All-append (λ (x : InstanceRow). x.card < length parts) rows (r ∷ []) sound.instances (all_one (λ (x : InstanceRow). x.card < length parts) r known);
    devices = λ k d b. device_there (get_or made.devices.items k d) (sound.devices k d b);
    nets = λ k d b. net_there (get_or made.nets k d) (sound.nets k d b);
    instance_count = omega (arith, rows_more, room);
    group_count = sound.group_count;
    device_count = sound.device_count;
    net_count = sound.net_count;
  }

-- ## Instances apart

each_at : {A : Type 0} (P : A → Type 0) (xs : List A) (i : ℕ) (d : A) → Each P xs → i < length xs → P (get_or xs i d)
each_at P [] i d h b = absurd (omega arith)
each_at P (x ∷ xs) zero d h b = h.0
each_at P (x ∷ xs) (suc i) d h b = each_at P xs i d h.1 (omega arith)

apart_at : (ps : List Instance) (i j : ℕ) → AllApart ps → i < j → j < length ps → names_to (get_or ps i []) ≡ names_to (get_or ps j []) → ⊥
apart_at [] i j h a b = absurd (omega arith)
apart_at (p ∷ ps) zero zero h a b = absurd (omega arith)
apart_at (p ∷ ps) zero (suc j) h a b = each_at (Different p) ps j [] h.0 (omega arith)
apart_at (p ∷ ps) (suc i) zero h a b = absurd (omega arith)
apart_at (p ∷ ps) (suc i) (suc j) h a b = apart_at ps i j h.1 (omega arith) (omega arith)

-- no instance but the top has no names
pub never_top : (visits : List Visit) (i : ℕ) → i < length (instances_behind visits) → names_to (get_or (instances_behind visits) i []) ≡ [] → ⊥
unfolding instances_behind
never_top [] i h e = absurd (omega arith)
never_top (v ∷ visits) i h e = by v.item (never_top visits) i h e
  where
    by : (item : Item) → ((i : ℕ) → i < length (filter_map instance_at visits) → names_to (get_or (filter_map instance_at visits) i []) ≡ [] → ⊥)
        → (i : ℕ) → i < length (filter_map instance_at (record { within = v.within; item = item } ∷ visits)) → names_to (get_or (filter_map instance_at (record { within = v.within; item = item } ∷ visits)) i []) ≡ [] → ⊥
    by (items.Device d) later i h e = later i h e
    by (items.Inst x) later zero h e = let q : x.name ∷ names_to v.within ≡ [] = e in cc
    by (items.Inst x) later (suc i) h e = later i (omega arith) e

module _ (n : Netlist) (names : List (List ℕ)) (parts : List InstancePart) (rows : List InstanceRow) (ps : List Instance)
    (is : map (path_of names parts) (drop 1 (ways_of rows)) ≡ map (path_in n) ps) (apart : AllApart ps) (named : (i : ℕ) → i < length ps → names_to (get_or ps i []) ≡ [] → ⊥) where
  abbrev on : ℕ → List (List ℕ)
  on i = names_on names parts (way_at (ways_of rows) i)

  count : length ps ≡ length rows
  count = omega (arith, ap length is, length-map (drop 1 (ways_of rows)) (path_of names parts), length-map ps (path_in n), length-drop 1 (ways_of rows), ways_count rows)

  on_is : (j : ℕ) → j < length ps → on (1 + j) ≡ names_to (get_or ps j [])
  on_is j h =
      ap (names_on names parts) (sym (get_or-drop 1 (ways_of rows) j []))
      ∙ ap names_of (sym (get_or-map (path_of names parts) (drop 1 (ways_of rows)) j [] [] (omega (arith, length-drop 1 (ways_of rows), ways_count rows, count, h))))
      ∙ ap (λ (l : List Path). names_of (get_or l j [])) is
      ∙ ap names_of (get_or-map (path_in n) ps j [] [] h)
      ∙ path_names n (get_or ps j [])

  on_top : on 0 ≡ []
  on_top = ap (names_on names parts) (way_top rows)

  differ : (i j : ℕ) → i < j → j ≤ length rows → on i ≡ on j → ⊥
  differ i zero h b e = absurd (omega arith)
  differ zero (suc j) h b e =
      let one : suc j ≡ 1 + j = omega arith in
      let inside : j < length ps = omega (arith, count) in
      named j inside (sym (on_is j inside) ∙ ap on (sym one) ∙ sym e ∙ on_top)
  differ (suc i) (suc j) h b e =
      let one : suc j ≡ 1 + j = omega arith in
      let also : suc i ≡ 1 + i = omega arith in
      let inside : j < length ps = omega (arith, count) in
      let before : i < length ps = omega (arith, count) in
      let less : i < j = omega arith in
      apart_at ps i j apart less inside (sym (on_is i before) ∙ ap on (sym also) ∙ e ∙ ap on one ∙ on_is j inside)

  pub ways_apart : AreWaysApart names parts rows
  ways_apart i j a b e =
      let first : i < j → ⊥ = λ h. differ i j h b e in
      let second : j < i → ⊥ = λ h. differ j i h a (sym e) in
      omega (arith, first, second)
