-- The nets of pins and of ports in the instances that a walk is in.
use Rattle.std.proofs.Common.{◌≡◌, ℕ, ◌+◌, ◌<◌, ◌≤◌, List, [], ◌∷◌, ◌++◌, length, map, get_or, drop, take, refl, sym, ap, subst, ◌∙◌, length-append, arith}
use Rattle.std.specs.Prelude.{All, Option, None}
use Rattle.std.specs.Option.{option_map_or}
use Rattle.std.proofs.lemmas.List.{get_or-drop, get_or-map, get_or_append_left, length-drop, length-map, map-append, take_more}
use Rattle.cvc_base.specs.declared.param.Pair.{Pair}
use Rattle.cvc_card.specs.declared.card.InstCard.{InstCard}
use Rattle.cvc_cdl.specs.declared.netlist.Netlist.{Netlist}
use Rattle.cvc_cdl.specs.Ending.{instance_cause}
use Rattle.cvc_cdl.specs.Instances.{Instance, cell_at, cell_for}
use Rattle.cvc_params.specs.declared.level.Level.{Level}
use Rattle.cvc_params.specs.Levels.{card_of}
use Rattle.cvc_plan.specs.declared.cards.Plan.{Plan}
use Rattle.cvc_plan.specs.declared.pins.Pin.{Pin}
use Rattle.cvc_plan.specs.declared.pins.Pin.TheVariants as pins
use Rattle.cvc_plan.specs.declared.pins.PortPlan.{PortPlan}
use Rattle.cvc_plan.specs.declared.pins.PortPlan.TheVariants as plans
use Rattle.cvc_plan.specs.declared.rows.InstancePart.{InstancePart}
use Rattle.cvc_plan.specs.declared.rows.NetRow.{NetRow}
use Rattle.cvc_plan.specs.Nets.{Net, global_names, link_of as link_in, names_of, net_in, net_of, net_within, path_of as path_in, top_net}
use Rattle.cvc_plan.specs.Pins.{ArePins, ArePortPlans, IsPin, IsPinWithin, IsPlanWithin, IsPortPlan, net_given, no_net_row, pin_row, port_row}
use Rattle.cvc_plan.specs.Parts.{text}
use Rattle.cvc_plan.proofs.Growing.{map_alike}
use Rattle.cvc_plan.proofs.Lists.{all_cons}
use Rattle.cvc_plan.proofs.Pinned.{fits_ports, global_net, own_net, pin_within, plan_within, port_net}
use Rattle.cvc_flat.specs.declared.rows.InstanceRow.{InstanceRow}
use Rattle.cvc_flat.specs.declared.walk.Mark.{Mark}
use Rattle.cvc_flat.specs.Joining.{ArePorts, HasPorts}
use Rattle.cvc_flat.specs.Making.{AreNetsWithin, known_nets}
use Rattle.cvc_flat.specs.Tables.{names_on, net_at, path_of, way_at, ways_of}
use Rattle.cvc_flat.proofs.Entered.{way_stays}
use Rattle.cvc_flat.proofs.Marks.{stepped}
use Rattle.cvc_flat.proofs.Ways.{way_top}

-- ## Pins

module _ (n : Netlist) (p : Plan) (rows : List InstanceRow) where
  abbrev names : List (List ℕ)
  names = p.cards.names

  abbrev parts : List InstancePart
  parts = p.cards.parts.items

  abbrev net : NetRow → Net
  net r = net_at names parts (ways_of rows) r

  abbrev Within : NetRow → Type 0
  Within r = (r.instance ≤ length rows) × (r.name < length names)

  -- the row shows the net
  abbrev Shown : NetRow → Net → Type 0
  Shown r wanted = (net r ≡ wanted) × Within r

  top_shown : (k : ℕ) → net record { instance = 0; name = k } ≡ top_net (text names k)
  top_shown k = ap (λ w. net_within (names_on names parts w) (text names k)) (way_top rows)

  module _ (within : Instance) (i : ℕ) (ports : List NetRow) (inside : i ≤ length rows) (path : path_of names parts (way_at (ways_of rows) i) ≡ path_in n within) (has : HasPorts n p rows within ports) where
    pub ports_long : length ports ≡ length (cell_at n within).ports
    ports_long = sym (length-map ports net) ∙ ap length has.nets ∙ length-map (cell_at n within).ports (net_in n within)

    pin_shown : (name : List ℕ) (pin : Pin) → IsPin names (global_names n) (cell_at n within).ports name pin → Shown (pin_row i ports pin) (net_in n within name)
    pin_shown name (pins.Global k) h =
        let below : 0 ≤ length rows = omega arith in
        (top_shown k ∙ ap top_net h.1 ∙ sym (global_net (global_names n) (path_in n within) name h.2), (below, h.0))
    pin_shown name (pins.Port k) h =
        let here : k < length ports = omega (arith, ports_long, h.0) in
        let d : Net = top_net [] in
        (sym (get_or-map net ports k no_net_row d here) ∙ ap (λ (l : List Net). get_or l k d) has.nets ∙ get_or-map (net_in n within) (cell_at n within).ports k [] d h.0 ∙ ap (net_in n within) h.1, has.known k no_net_row here)
    pin_shown name (pins.Own k) h =
        (ap (λ q. net_within (names_of q) (text names k)) path ∙ ap (net_within (names_of (path_in n within))) h.1 ∙ sym (has.own name h.2 h.3), (inside, h.0))

    -- the nets of a device's pins
    pub pins_shown : (wanted : List (List ℕ)) (ps : List Pin) → ArePins names (global_names n) (cell_at n within).ports wanted ps
        → (known_nets p.cards rows (map (pin_row i ports) ps) ≡ map (net_in n within) wanted) × AreNetsWithin p rows (map (pin_row i ports) ps)
    pins_shown [] [] z = (refl, λ k d b. absurd (omega (arith, b)))
    pins_shown [] (q ∷ ps) z = absurd z
    pins_shown (t ∷ wanted) [] z = absurd z
    pins_shown (t ∷ wanted) (q ∷ ps) z =
        let first = pin_shown t q z.0 in
        let rest = pins_shown wanted ps z.1 in
        ((λ j. first.0 j ∷ rest.0 j), all_cons Within (pin_row i ports q) (map (pin_row i ports) ps) first.1 rest.1)

    -- a port of an instance of a card in it, which has this number
    module _ (x : InstCard) (new : ℕ) (new_inside : new ≤ length rows) (new_path : path_of names parts (way_at (ways_of rows) new) ≡ path_in n (x ∷ within)) where
      port_shown : (port : List ℕ) (q : PortPlan) → IsPortPlan names (global_names n) (cell_at n within).ports (net_given (link_in n x).connections port) port q
          → Shown (port_row i ports new q) (net_in n (x ∷ within) port)
      port_shown port (plans.Joined pin) h =
          let above = pin_shown h.0 pin h.2 in (
            above.0 ∙ sym (port_net (global_names n) (link_in n x) (path_in n within) port
                ∙ ap (λ (o : Option (List ℕ)). option_map_or (net_of (global_names n) (path_in n within)) o (net_within (names_of (path_in n (x ∷ within))) port)) h.1),
            above.1,
          )
      port_shown port (plans.LeftOut k) h = (
        ap (λ q. net_within (names_of q) (text names k)) new_path ∙ ap (net_within (names_of (path_in n (x ∷ within)))) h.1
            ∙ sym (port_net (global_names n) (link_in n x) (path_in n within) port
            ∙ ap (λ (o : Option (List ℕ)). option_map_or (net_of (global_names n) (path_in n within)) o (net_within (names_of (path_in n (x ∷ within))) port)) h.2),
        (new_inside, h.0),
      )

      ports_shown : (used : List (List ℕ)) (qs : List PortPlan) → ArePortPlans names (global_names n) (cell_at n within).ports (link_in n x).connections used qs
          → (known_nets p.cards rows (map (port_row i ports new) qs) ≡ map (net_in n (x ∷ within)) used) × AreNetsWithin p rows (map (port_row i ports new) qs)
      ports_shown [] [] z = (refl, λ k d b. absurd (omega (arith, b)))
      ports_shown [] (q ∷ qs) z = absurd z
      ports_shown (t ∷ used) [] z = absurd z
      ports_shown (t ∷ used) (q ∷ qs) z =
          let first = port_shown t q z.0 in
          let rest = ports_shown used qs z.1 in
          ((λ j. first.0 j ∷ rest.0 j), all_cons Within (port_row i ports new q) (map (port_row i ports new) qs) first.1 rest.1)

      -- the nets of the ports of the new instance
      pub has_joined : instance_cause n.cells x ≡ None → (qs : List PortPlan) → ArePortPlans names (global_names n) (cell_at n within).ports (link_in n x).connections (cell_for n x.cell).ports qs
          → HasPorts n p rows (x ∷ within) (map (port_row i ports new) qs)
      has_joined fits qs z =
          let shown = ports_shown (cell_for n x.cell).ports qs z in
          record {
            nets = shown.0;
            known = shown.1;
            own = λ name a b. own_net (global_names n) (cell_for n x.cell).ports x.ports x.name (path_in n within) name (fits_ports n.cells x fits) a b;
          }

-- ## All that are in the walk

-- the nets stay where they are with one instance more
pub has_stays : (n : Netlist) (p : Plan) (rows : List InstanceRow) (r : InstanceRow) (within : Instance) (ports : List NetRow) → HasPorts n p rows within ports → HasPorts n p (rows ++ r ∷ []) within ports
has_stays n p rows r within ports h = record {
  nets = map_alike (net_at p.cards.names p.cards.parts.items (ways_of (rows ++ r ∷ []))) (net_at p.cards.names p.cards.parts.items (ways_of rows)) ports
      (λ k d b i. net_within (names_on p.cards.names p.cards.parts.items (way_stays rows r (get_or ports k d).instance (h.known k d b).0 i)) (text p.cards.names (get_or ports k d).name))
      ∙ h.nets;
  known = λ k d b. let w = h.known k d b in let inside : (get_or ports k d).instance ≤ length (rows ++ r ∷ []) = omega (arith, w.0, length-append rows (r ∷ [])) in (inside, w.1);
  own = h.own;
}

pub ports_stay : (n : Netlist) (p : Plan) (rows : List InstanceRow) (r : InstanceRow) (ls : List Level) (ports : List NetRow) (m : Mark) (above : List Mark) → ArePorts n p rows ls ports m above → ArePorts n p (rows ++ r ∷ []) ls ports m above
ports_stay n p rows r [] ports m above h = (h.0, has_stays n p rows r [] (drop m.first ports) h.1)
ports_stay n p rows r (l ∷ ls) ports m [] h = absurd h
ports_stay n p rows r (l ∷ ls) ports m (a ∷ above) h =
    (h.0, has_stays n p rows r (map card_of (l ∷ ls)) (drop m.first ports) h.1, ports_stay n p rows r ls (take m.first ports) a above h.2)

pub ports_step : (n : Netlist) (p : Plan) (rows : List InstanceRow) (ls : List Level) (ports : List NetRow) (m : Mark) (above : List Mark) → ArePorts n p rows ls ports m above → ArePorts n p rows ls ports (stepped m) above
ports_step n p rows [] ports m above h = h
ports_step n p rows (l ∷ ls) ports m [] h = absurd h
ports_step n p rows (l ∷ ls) ports m (a ∷ above) h = h

-- those of the instance itself
pub ports_here : (n : Netlist) (p : Plan) (rows : List InstanceRow) (ls : List Level) (ports : List NetRow) (m : Mark) (above : List Mark) → ArePorts n p rows ls ports m above
    → (m.first ≤ length ports) × HasPorts n p rows (map card_of ls) (drop m.first ports)
ports_here n p rows [] ports m above h = h
ports_here n p rows (l ∷ ls) ports m [] h = absurd h
ports_here n p rows (l ∷ ls) ports m (a ∷ above) h = (h.0, h.1)

drop_front : {A : Type 0} (xs ys : List A) → drop (length xs) (xs ++ ys) ≡ ys
drop_front [] ys = refl
drop_front (x ∷ xs) ys = drop_front xs ys

take_front : {A : Type 0} (xs ys : List A) → take (length xs) (xs ++ ys) ≡ xs
take_front [] ys = refl
take_front (x ∷ xs) ys = ap (λ l. x ∷ l) (take_front xs ys)

-- one instance more
pub ports_more : (n : Netlist) (p : Plan) (rows : List InstanceRow) (l : Level) (ls : List Level) (ports new : List NetRow) (e a : Mark) (above : List Mark) → e.first ≡ length ports
    → HasPorts n p rows (card_of l ∷ map card_of ls) new → ArePorts n p rows ls ports a above → ArePorts n p rows (l ∷ ls) (ports ++ new) e (a ∷ above)
ports_more n p rows l ls ports new e a above at has rest =
    let inside : e.first ≤ length (ports ++ new) = omega (arith, at, length-append ports new) in (
      inside,
      subst (HasPorts n p rows (card_of l ∷ map card_of ls)) (sym (ap (λ k. drop k (ports ++ new)) at ∙ drop_front ports new)) has,
      subst (λ q. ArePorts n p rows ls q a above) (sym (ap (λ k. take k (ports ++ new)) at ∙ take_front ports new)) rest,
    )

-- ## Nets behind others

pub pin_front : (first : ℕ) (old more : List NetRow) (i : ℕ) (pin : Pin) → IsPinWithin (length (drop first old)) pin → pin_row i (drop first (old ++ more)) pin ≡ pin_row i (drop first old) pin
pin_front first old more i (pins.Global k) h = refl
pin_front first old more i (pins.Port k) h =
    get_or-drop first (old ++ more) k no_net_row ∙ get_or_append_left old more no_net_row (first + k) (omega (arith, h, length-drop first old)) ∙ sym (get_or-drop first old k no_net_row)
pin_front first old more i (pins.Own k) h = refl

-- the row of a port is the same with more nets behind
pub port_front : (first : ℕ) (old more : List NetRow) (above i : ℕ) (q : PortPlan) → IsPlanWithin (length (drop first old)) q → port_row above (drop first (old ++ more)) i q ≡ port_row above (drop first old) i q
port_front first old more above i (plans.Joined pin) h = pin_front first old more above pin h
port_front first old more above i (plans.LeftOut k) h = refl

pin_wider : (a b : ℕ) (pin : Pin) → a ≤ b → IsPinWithin a pin → IsPinWithin b pin
pin_wider a b (pins.Global k) le h = tt
pin_wider a b (pins.Port k) le h = omega (arith, le, h)
pin_wider a b (pins.Own k) le h = tt

pub plan_wider : (a b : ℕ) (q : PortPlan) → a ≤ b → IsPlanWithin a q → IsPlanWithin b q
plan_wider a b (plans.Joined pin) le h = pin_wider a b pin le h
plan_wider a b (plans.LeftOut k) le h = tt

-- ## Pins one by one

pub pin_next : (p : Plan) (rows : List InstanceRow) (i : ℕ) (ports : List NetRow) (items : List Pin) (j : ℕ) (d : Pin) (a : NetRow) → j < length items → a ≡ pin_row i ports (get_or items j d) → AreNetsWithin p rows (map (pin_row i ports) items)
    → (known_nets p.cards rows (map (pin_row i ports) (take (j + 1) items)) ≡ known_nets p.cards rows (map (pin_row i ports) (take j items)) ++ net_at p.cards.names p.cards.parts.items (ways_of rows) a ∷ [])
    × ((a.instance ≤ length rows) × (a.name < length p.cards.names))
pin_next p rows i ports items j d a h e within =
    let f : Pin → NetRow = pin_row i ports in
    let show : NetRow → Net = net_at p.cards.names p.cards.parts.items (ways_of rows) in (
      ap (λ l. map show (map f l)) (take_more items j d h) ∙ ap (map show) (map-append f (take j items) (get_or items j d ∷ [])) ∙ map-append show (map f (take j items)) (f (get_or items j d) ∷ [])
          ∙ ap (λ r. map show (map f (take j items)) ++ show r ∷ []) (sym e),
      subst (λ (r : NetRow). (r.instance ≤ length rows) × (r.name < length p.cards.names)) (get_or-map f items j d no_net_row h ∙ sym e) (within j no_net_row (omega (arith, length-map items f, h))),
    )

pub pins_within : (names globals ports wanted : List (List ℕ)) (count : ℕ) (ps : List Pin) → count ≡ length ports → ArePins names globals ports wanted ps → All (IsPinWithin count) ps
pins_within names globals ports [] count [] e z = λ k d b. absurd (omega (arith, b))
pins_within names globals ports [] count (q ∷ ps) e z = absurd z
pins_within names globals ports (t ∷ wanted) count [] e z = absurd z
pins_within names globals ports (t ∷ wanted) count (q ∷ ps) e z =
    all_cons (IsPinWithin count) q ps (pin_within names globals ports count t q e z.0) (pins_within names globals ports wanted count ps e z.1)

pub plans_within : (names globals ports : List (List ℕ)) (pairs : List Pair) (used : List (List ℕ)) (count : ℕ) (qs : List PortPlan) → count ≡ length ports → ArePortPlans names globals ports pairs used qs → All (IsPlanWithin count) qs
plans_within names globals ports pairs [] count [] e z = λ k d b. absurd (omega (arith, b))
plans_within names globals ports pairs [] count (q ∷ qs) e z = absurd z
plans_within names globals ports pairs (t ∷ used) count [] e z = absurd z
plans_within names globals ports pairs (t ∷ used) count (q ∷ qs) e z =
    all_cons (IsPlanWithin count) q qs (plan_within names globals ports count (net_given pairs t) t q e z.0) (plans_within names globals ports pairs used count qs e z.1)
