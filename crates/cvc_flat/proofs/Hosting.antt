-- The ports of the instances that a walk is in, state by state.
use Rattle.std.proofs.Common.{◌≡◌, ℕ, zero, suc, ◌+◌, ◌-◌, ◌<◌, ◌≤◌, List, [], ◌∷◌, ◌++◌, length, map, get_or, drop, take, refl, sym, ap, subst, ◌∙◌, length-append, arith}
use Rattle.std.specs.Prelude.{All, None, reverse}
use Rattle.std.specs.Option.{option_map}
use Rattle.std.proofs.lemmas.List.{get_or-drop, get_or-map, length-drop, length-map, length-take-le}
use Rattle.cvc_card.specs.declared.card.InstCard.{InstCard}
use Rattle.cvc_cdl.specs.declared.netlist.Cell.{Cell}
use Rattle.cvc_cdl.specs.declared.netlist.Global.{Global}
use Rattle.cvc_cdl.specs.declared.netlist.Item.TheVariants as items
use Rattle.cvc_cdl.specs.declared.netlist.Netlist.{Netlist}
use Rattle.cvc_cdl.specs.Netlist.{name_of_global}
use Rattle.cvc_cdl.specs.Building.{fault_at}
use Rattle.cvc_cdl.specs.WellFormed.{IsFormedItem, IsWellFormed}
use Rattle.cvc_cdl.specs.Instances.{all_cells, cell_at, no_cell}
use Rattle.cvc_params.specs.declared.level.Level.{Level}
use Rattle.cvc_params.specs.Levels.{card_of, instance_of}
use Rattle.cvc_plan.specs.declared.cards.OpeningPlan.{OpeningPlan}
use Rattle.cvc_plan.specs.declared.cards.Plan.{Plan}
use Rattle.cvc_plan.specs.declared.pins.PortPlan.{PortPlan}
use Rattle.cvc_plan.specs.declared.rows.NetRow.{NetRow}
use Rattle.cvc_plan.specs.Nets.{Opening, net_in, net_of, net_within, opening_at, path_of as path_in, top_net}
use Rattle.cvc_plan.specs.Pins.{IsPlanWithin, port_row, row_of_opening}
use Rattle.cvc_plan.specs.Planning.{ArePortsOf, IsInstPlan, IsPlan, opening_of}
use Rattle.cvc_plan.specs.Parts.{text}
use Rattle.cvc_flat.specs.declared.rows.InstanceRow.{InstanceRow}
use Rattle.cvc_flat.specs.declared.steps.Made.{Made}
use Rattle.cvc_flat.specs.declared.walk.Mark.{Mark}
use Rattle.cvc_flat.specs.Flat.{limits}
use Rattle.cvc_flat.specs.Joining.{ArePorts, HasPorts, IsHost}
use Rattle.cvc_flat.specs.Making.{AreNetsWithin, instance_cause_in, known_nets, net_of_opening}
use Rattle.cvc_flat.specs.Tables.{names_on, path_of, way_at, ways_of}
use Rattle.cvc_flat.proofs.Entered.{way_stays}
use Rattle.cvc_flat.proofs.Joined.{has_joined, has_stays, plans_within, ports_here, ports_long, ports_more, ports_stay, ports_step}
use Rattle.cvc_flat.proofs.Marks.{stepped}
use Rattle.cvc_flat.proofs.States.{IsState, entered_same, here, instance_is, last_split, levels_long, path_here, reverse_last, state_instance}
use Rattle.cvc_flat.proofs.Ways.{way_top}

-- ## The begin

drop_map : {A B : Type 0} (f : A → B) (k : ℕ) (xs : List A) → map f (drop k xs) ≡ drop k (map f xs)
drop_map f zero xs = refl
drop_map f (suc k) [] = refl
drop_map f (suc k) (x ∷ xs) = drop_map f k xs

drop_behind : {A : Type 0} (k : ℕ) (xs ys : List A) → k ≡ length xs → drop k (xs ++ ys) ≡ ys
drop_behind zero [] ys e = refl
drop_behind zero (x ∷ xs) ys e = absurd (omega (arith, e))
drop_behind (suc k) [] ys e = absurd (omega (arith, e))
drop_behind (suc k) (x ∷ xs) ys e = drop_behind k xs ys (omega (arith, e))

module _ (n : Netlist) (p : Plan) (is : IsPlan n p) where
  abbrev globals_at : List Opening
  globals_at = map (λ (g : Global). opening_at g.line g.name) n.globals

  globals_long : p.globals ≡ length globals_at
  globals_long =
      omega (arith, length-take-le p.globals p.cards.names is.below, ap length is.globals, length-map n.globals name_of_global, length-map n.globals (λ (g : Global). opening_at g.line g.name))

  -- the ports of the top stand behind the globals
  pub globals_open : p.globals ≤ length p.openings.items
  globals_open =
      omega (arith, globals_long, ap length is.openings, length-map p.openings.items (opening_of p.cards.names), length-append globals_at (map (opening_at (cell_at n []).line) (cell_at n []).ports))

  tops : map (opening_of p.cards.names) (drop p.globals p.openings.items) ≡ map (opening_at (cell_at n []).line) (cell_at n []).ports
  tops =
      drop_map (opening_of p.cards.names) p.globals p.openings.items ∙ ap (drop p.globals) is.openings
      ∙ drop_behind p.globals globals_at (map (opening_at (cell_at n []).line) (cell_at n []).ports) globals_long

  opened_nets : (os : List OpeningPlan) → known_nets p.cards [] (map row_of_opening os) ≡ map net_of_opening (map (opening_of p.cards.names) os)
  opened_nets [] = refl
  opened_nets (o ∷ os) = λ i. net_within (names_on p.cards.names p.cards.parts.items (way_top [] i)) (text p.cards.names o.name) ∷ opened_nets os i

  port_nets : (line : ℕ) (ports : List (List ℕ)) → map net_of_opening (map (opening_at line) ports) ≡ map (net_in n []) ports
  unfolding net_of
  port_nets line [] = refl
  port_nets line (t ∷ ports) = λ i. top_net t ∷ port_nets line ports i

  top_within : AreNetsWithin p [] (map row_of_opening (drop p.globals p.openings.items))
  top_within = λ k d b.
      let os = drop p.globals p.openings.items in
      let o : OpeningPlan = record { name = 0; line = 0 } in
      let inside : k < length os = omega (arith, length-map os row_of_opening, b) in
      let there : p.globals + k < length p.openings.items = omega (arith, inside, length-drop p.globals p.openings.items) in
      subst (λ (r : NetRow). (r.instance ≤ 0) × (r.name < length p.cards.names)) (sym (get_or-map row_of_opening os k o d inside))
      (subst (λ (x : OpeningPlan). (0 ≤ 0) × (x.name < length p.cards.names)) (sym (get_or-drop p.globals p.openings.items k o))
      (let zeroth : 0 ≤ 0 = omega arith in (zeroth, is.opened (p.globals + k) o there)))

  top_has : HasPorts n p [] [] (map row_of_opening (drop p.globals p.openings.items))
  unfolding net_of
  top_has = record {
    nets = opened_nets (drop p.globals p.openings.items) ∙ ap (map net_of_opening) tops ∙ port_nets (cell_at n []).line (cell_at n []).ports;
    known = top_within;
    own = λ name a b. refl;
  }

  pub ports_begin : (rows : List InstanceRow) (levels : List Level) (ports : List NetRow) (mark : Mark) (above : List Mark) → rows ≡ [] → levels ≡ [] → above ≡ [] → mark.first ≡ 0
      → ports ≡ map row_of_opening (drop p.globals p.openings.items) → ArePorts n p rows (reverse levels) ports mark (reverse above)
  ports_begin rows levels ports mark above a b e first at =
      let inside : mark.first ≤ length ports = omega (arith, first) in
      subst (λ r. ArePorts n p r (reverse levels) ports mark (reverse above)) (sym a)
      (subst (λ l. ArePorts n p [] (reverse l) ports mark (reverse above)) (sym b)
      (inside, subst (HasPorts n p [] []) (sym (ap (λ k. drop k ports) first ∙ at)) top_has))

-- ## One visit

module _ (n : Netlist) (p : Plan) (rows : List InstanceRow) (made : Made) (levels : List Level) (mark : Mark) (above : List Mark) (ports : List NetRow)
    (s : IsState n p rows made levels mark above) (h : ArePorts n p rows (reverse levels) ports mark (reverse above)) where
  abbrev mine : List NetRow
  mine = drop mark.first ports

  pub first_inside : mark.first ≤ length ports
  first_inside = (ports_here n p rows (reverse levels) ports mark (reverse above) h).0

  has_here : HasPorts n p rows (instance_of levels) mine
  has_here = subst (λ q. HasPorts n p rows q mine) (instance_is levels) (ports_here n p rows (reverse levels) ports mark (reverse above) h).1

  -- the instance that the walk is in
  pub host_here : IsHost n p rows made (instance_of levels) mark.instance mine
  host_here = record { sound = s.sound; inside = (here n p rows made levels mark above s).inside; path = path_here n p rows made levels mark above s; has = has_here }

  pub mine_long : length mine ≡ length (cell_at n (instance_of levels)).ports
  mine_long = ports_long n p rows (instance_of levels) mark.instance mine host_here.inside host_here.path has_here

  cell_is : mark.cell.now ≡ cell_at n (instance_of levels)
  cell_is = (here n p rows made levels mark above s).cell ∙ ap (cell_at n) (instance_is levels)

  -- the same by the ports of the instance's cell
  pub ports_of_cell : mark.cell.now.ports ≡ (cell_at n (instance_of levels)).ports
  ports_of_cell = ap (λ (c : Cell). c.ports) cell_is

  pub plans_inside : (x : InstCard) (qs : List PortPlan) → ArePortsOf n p.cards mark.cell.now.ports x qs → All (IsPlanWithin (length mine)) qs
  plans_inside x qs z = plans_within p.cards.names _ mark.cell.now.ports _ _ (length mine) qs (mine_long ∙ ap length (sym ports_of_cell)) z

  module _ (x : InstCard) (formed : IsFormedItem n.cells (items.Inst x)) (l : Level) (card : l.card.now ≡ x) (r : InstanceRow) (e : Mark) (qs : List PortPlan) (planned : ArePortsOf n p.cards mark.cell.now.ports x qs)
      (entered : e.instance ≤ length (rows ++ r ∷ []))
      (path : path_of p.cards.names p.cards.parts.items (way_at (ways_of (rows ++ r ∷ [])) e.instance) ≡ path_in n (x ∷ instance_of levels)) (first : e.first ≡ length ports) where
    abbrev more : List InstanceRow
    more = rows ++ r ∷ []

    above_inside : mark.instance ≤ length more
    above_inside = omega (arith, host_here.inside, length-append rows (r ∷ []))

    above_path : path_of p.cards.names p.cards.parts.items (way_at (ways_of more) mark.instance) ≡ path_in n (instance_of levels)
    above_path = ap (path_of p.cards.names p.cards.parts.items) (way_stays rows r mark.instance host_here.inside) ∙ host_here.path

    new : List NetRow
    new = map (port_row mark.instance mine e.instance) qs

    new_has : HasPorts n p more (x ∷ instance_of levels) new
    unfolding new
    new_has =
        has_joined n p more (instance_of levels) mark.instance mine above_inside above_path (has_stays n p rows r (instance_of levels) mine has_here) x e.instance entered path formed.0 qs
        (subst (λ ps. ArePortsOf n p.cards ps x qs) ports_of_cell planned)

    pub ports_joined : ArePorts n p more (reverse (levels ++ l ∷ [])) (ports ++ map (port_row mark.instance mine e.instance) qs) e (reverse (above ++ stepped mark ∷ []))
    unfolding new
    ports_joined =
        subst (λ k. ArePorts n p more k (ports ++ new) e (reverse (above ++ stepped mark ∷ []))) (sym (reverse_last levels l))
        (subst (ArePorts n p more (l ∷ reverse levels) (ports ++ new) e) (sym (reverse_last above (stepped mark)))
        (ports_more n p more l (reverse levels) ports new e (stepped mark) (reverse above) first
        (subst (λ q. HasPorts n p more q new) (sym (λ i. card i ∷ instance_is levels i)) new_has)
        (ports_step n p more (reverse levels) ports mark (reverse above) (ports_stay n p rows r (reverse levels) ports mark (reverse above) h))))

-- an instance is entered
pub state_joined : (n : Netlist) (p : Plan) (rows : List InstanceRow) (made : Made) (levels : List Level) (mark : Mark) (above : List Mark) (ports : List NetRow) (s : IsState n p rows made levels mark above) (h : ArePorts n p rows (reverse levels) ports mark (reverse above))
    (inside : mark.next < length mark.cell.now.items) (well : IsWellFormed n) (x : InstCard) (number cell : ℕ) (qs : List PortPlan) (l : Level) (r : InstanceRow) (e : Mark) (new_rows : List InstanceRow) (new_levels : List Level) (new_above : List Mark) (new_ports : List NetRow)
    → new_levels ≡ levels ++ l ∷ [] → new_rows ≡ rows ++ r ∷ [] → new_above ≡ above ++ stepped mark ∷ [] → new_ports ≡ ports ++ map (port_row mark.instance (drop mark.first ports) e.instance) qs
    → get_or mark.cell.now.items mark.next (items.Inst x) ≡ items.Inst x → IsInstPlan n p.cards x number cell → ArePortsOf n p.cards mark.cell.now.ports x qs → IsFormedItem n.cells (items.Inst x)
    → option_map (fault_at x.line) (instance_cause_in limits (length rows) (length levels + 1)) ≡ None → length rows < 1000000 → length levels < 64
    → l.card.now ≡ x → l.cell.now ≡ get_or (all_cells n) cell no_cell → r.parent ≡ mark.instance → r.card ≡ number → e.instance ≡ length rows + 1 → e.cell.now ≡ l.cell.now → e.plan ≡ cell → e.next ≡ 0 → e.first ≡ length ports
    → IsState n p new_rows made new_levels e new_above × ArePorts n p new_rows (reverse new_levels) new_ports e (reverse new_above)
state_joined n p rows made levels mark above ports s h inside well x number cell qs l r e new_rows new_levels new_above new_ports a b c d is plan joined formed none room short card known parent listed entered of_cell planned first begins =
    let st : IsState n p (rows ++ r ∷ []) made (levels ++ l ∷ []) e (above ++ stepped mark ∷ []) = state_instance n p rows made levels mark above s inside well x number cell l r e is plan none room short card known parent listed entered of_cell planned first in
    let there = here n p (rows ++ r ∷ []) made (levels ++ l ∷ []) e (above ++ stepped mark ∷ []) st in
    let path : path_of p.cards.names p.cards.parts.items (way_at (ways_of (rows ++ r ∷ [])) e.instance) ≡ path_in n (x ∷ instance_of levels) =
    there.path ∙ ap (λ k. path_in n (map card_of k)) (reverse_last levels l) ∙ ap (path_in n) (λ i. card i ∷ instance_is levels i) in
    let all = ports_joined n p rows made levels mark above ports s h x formed l card r e qs joined there.inside path begins in (
      entered_same n p rows new_rows made levels new_levels e above new_above r l (stepped mark) b a c st,
      subst (λ k. ArePorts n p k (reverse new_levels) new_ports e (reverse new_above)) (sym b)
          (subst (λ k. ArePorts n p (rows ++ r ∷ []) (reverse k) new_ports e (reverse new_above)) (sym a)
          (subst (λ k. ArePorts n p (rows ++ r ∷ []) (reverse (levels ++ l ∷ [])) k e (reverse new_above)) (sym d)
          (subst (λ k. ArePorts n p (rows ++ r ∷ []) (reverse (levels ++ l ∷ [])) (ports ++ map (port_row mark.instance (drop mark.first ports) e.instance) qs) e (reverse k)) (sym c) all))),
    )

-- ## An instance is left

pub ports_pops : (n : Netlist) (p : Plan) (rows : List InstanceRow) (made : Made) (mark : Mark) (levels new : List Level) (a : Mark) (old above : List Mark) (ports left : List NetRow) → IsState n p rows made levels mark old
    → ArePorts n p rows (reverse levels) ports mark (reverse old) → old ≡ above ++ a ∷ [] → new ≡ take (length levels - 1) levels → left ≡ take mark.first ports → ArePorts n p rows (reverse new) left a (reverse above)
ports_pops n p rows made mark levels new a old above ports left s h is at cut =
    let some : 0 < length levels = omega (arith, levels_long n p rows made mark levels old s, ap length is, length-append above (a ∷ [])) in
    let w = last_split levels some in
    let split : levels ≡ new ++ w.0 ∷ [] = w.1 ∙ ap (λ l. l ++ w.0 ∷ []) (sym at) in
    let both : ArePorts n p rows (w.0 ∷ reverse new) ports mark (a ∷ reverse above) =
    subst (λ k. ArePorts n p rows k ports mark (a ∷ reverse above)) (ap reverse split ∙ reverse_last new w.0)
    (subst (ArePorts n p rows (reverse levels) ports mark) (ap reverse is ∙ reverse_last above a) h) in
    subst (λ q. ArePorts n p rows (reverse new) q a (reverse above)) (sym cut) both.2
