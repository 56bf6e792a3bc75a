-- The states of a walk: what is known at each visit, and what one more visit makes of it.
use Rattle.std.proofs.Common.{◌≡◌, ℕ, suc, take, ◌-◌, ◌+◌, ◌<◌, ◌≤◌, List, [], ◌∷◌, ◌++◌, length, map, get_or, drop, refl, sym, ap, subst, ◌∙◌, length-append, arith}
use Rattle.std.specs.Prelude.{All, Some, None, Err, reverse}
use Rattle.std.specs.Option.{option_map}
use Rattle.std.proofs.lemmas.List.{append-nil, get_or_append_left, length-drop, length-map, length-reverse, map-append, reverse-append, take_all, take_more}
use Rattle.std.proofs.lemmas.List.Elements.{All-append}
use Rattle.cvc_base.specs.Answers.{Refuses}
use Rattle.cvc_base.specs.declared.fault.Fault.{Fault}
use Rattle.cvc_base.specs.declared.fault.Refusal.{Refusal}
use Rattle.cvc_base.specs.declared.fault.Refusal.TheVariants.{At, NoMemory}
use Rattle.cvc_card.specs.declared.card.DeviceCard.{DeviceCard}
use Rattle.cvc_card.specs.declared.card.InstCard.{InstCard}
use Rattle.cvc_cdl.specs.declared.netlist.Cell.{Cell}
use Rattle.cvc_cdl.specs.declared.netlist.Item.{Item}
use Rattle.cvc_cdl.specs.declared.netlist.Item.TheVariants as items
use Rattle.cvc_cdl.specs.declared.netlist.Netlist.{Netlist}
use Rattle.cvc_cdl.specs.Building.{fault_at}
use Rattle.cvc_cdl.specs.WellFormed.{IsFormedItem, IsFormedLevel, IsWellFormed}
use Rattle.cvc_cdl.specs.Instances.{Instance, all_cells, cell_at, cell_for, no_cell}
use Rattle.cvc_params.specs.declared.level.Level.{Level}
use Rattle.cvc_params.specs.Levels.{AreLevels, card_of, instance_of}
use Rattle.cvc_plan.specs.declared.cards.Plan.{Plan}
use Rattle.cvc_plan.specs.declared.rows.NetRow.{NetRow}
use Rattle.cvc_plan.specs.Nets.{link_of as link_in, path_of as path_in}
use Rattle.cvc_plan.specs.Planning.{IsInstPlan, IsPlan}
use Rattle.cvc_plan.specs.Parts.{link_at}
use Rattle.cvc_plan.proofs.Lists.{all_front, all_one}
use Rattle.cvc_plan.proofs.Planned.{element}
use Rattle.cvc_flat.specs.declared.rows.Group.{Group}
use Rattle.cvc_flat.specs.declared.rows.InstanceRow.{InstanceRow}
use Rattle.cvc_flat.specs.declared.steps.Made.{Made}
use Rattle.cvc_flat.specs.declared.walk.Mark.{Mark}
use Rattle.cvc_flat.specs.Flat.{devices_behind, flat_device, instances_behind, limits, nets_behind, visit_fault, visits_of, walk_fault}
use Rattle.cvc_flat.specs.Left.{left}
use Rattle.cvc_flat.specs.Making.{AddsDevice, AreMarks, IsMark, Shows, device_cause_in, frames_of, instance_cause_in, known_nets, tables_of}
use Rattle.cvc_flat.specs.Tables.{AreWaysApart, IsDevice, IsSound, Way, device_at, path_of, way_at, ways_from, ways_of}
use Rattle.cvc_flat.specs.Walk.{Visit}
use Rattle.cvc_flat.proofs.Added.{shows_device}
use Rattle.cvc_flat.proofs.Entered.{never_top, path_new, shows_instance, sound_instance, way_new, ways_apart, ways_count}
use Rattle.cvc_flat.proofs.Marks.{IsWalked, begins, close_last, close_one, done_apart, fault_more, level_formed, mark_here, marks_long, marks_stay, marks_step, stepped, visit_device, visit_first, visit_instance, walked_more}
use Rattle.cvc_flat.proofs.Stack.{fault_here}
use Rattle.cvc_flat.proofs.Ways.{way_top}

pub record IsState (n : Netlist) (p : Plan) (rows : List InstanceRow) (made : Made) (levels : List Level) (mark : Mark) (above : List Mark) : Type 0 where
  pub walked : IsWalked n p rows made (reverse levels) mark (reverse above)
  pub sound : IsSound (tables_of n p rows made)
  pub marks : AreMarks n p rows (reverse levels) mark (reverse above)
  pub ways : AreLevels n levels
  pub groups : length made.groups ≤ length made.devices.items
  pub deep : length levels ≤ 64

map_reverse : {A B : Type 0} (f : A → B) (xs : List A) → map f (reverse xs) ≡ reverse (map f xs)
map_reverse f [] = refl
map_reverse f (x ∷ xs) =
    ap (map f) (reverse-append (x ∷ []) xs) ∙ map-append f (reverse xs) (x ∷ []) ∙ ap (λ l. l ++ f x ∷ []) (map_reverse f xs)
    ∙ sym (reverse-append (f x ∷ []) (map f xs))

-- the instance of the levels, either way
pub instance_is : (levels : List Level) → map card_of (reverse levels) ≡ instance_of levels
instance_is levels = map_reverse card_of levels

pub reverse_last : {A : Type 0} (xs : List A) (x : A) → reverse (xs ++ x ∷ []) ≡ x ∷ reverse xs
reverse_last xs x = reverse-append xs (x ∷ [])

pub here : (n : Netlist) (p : Plan) (rows : List InstanceRow) (made : Made) (levels : List Level) (mark : Mark) (above : List Mark) → IsState n p rows made levels mark above → IsMark n p rows (reverse levels) mark
here n p rows made levels mark above s = mark_here n p rows (reverse levels) mark (reverse above) s.marks

-- the path to the instance that the walk is in
pub path_here : (n : Netlist) (p : Plan) (rows : List InstanceRow) (made : Made) (levels : List Level) (mark : Mark) (above : List Mark) → IsState n p rows made levels mark above
    → path_of p.cards.names p.cards.parts.items (way_at (ways_of rows) mark.instance) ≡ path_in n (instance_of levels)
path_here n p rows made levels mark above s = (here n p rows made levels mark above s).path ∙ ap (path_in n) (instance_is levels)

-- ## Counts

device_count : (n : Netlist) (p : Plan) (rows : List InstanceRow) (made : Made) (visits : List Visit) → Shows n (tables_of n p rows made) visits → length (devices_behind visits) ≡ length made.devices.items
device_count n p rows made visits s =
    omega (arith, ap length s.devices, length-map made.devices.items (device_at (tables_of n p rows made) (ways_of rows)), length-map (devices_behind visits) (flat_device n (nets_behind n visits)))

instance_count : (n : Netlist) (p : Plan) (rows : List InstanceRow) (made : Made) (visits : List Visit) → Shows n (tables_of n p rows made) visits → length (instances_behind visits) ≡ length rows
instance_count n p rows made visits s =
    omega (arith, ap length s.instances, length-map (drop 1 (ways_of rows)) (path_of p.cards.names p.cards.parts.items), length-map (instances_behind visits) (path_in n), length-drop 1 (ways_of rows), ways_count rows)

device_fault : (n : Netlist) (p : Plan) (rows : List InstanceRow) (made : Made) (visits : List Visit) (within : Instance) (d : DeviceCard) → Shows n (tables_of n p rows made) visits
    → visit_fault limits n visits record { within = within; item = items.Device d } ≡ option_map (fault_at d.line) (device_cause_in limits n (length made.devices.items) (known_nets p.cards rows made.nets) within d)
unfolding visit_fault
device_fault n p rows made visits within d s =
    let count = device_count n p rows made visits s in
    let nets = sym s.nets in
    λ i. option_map (fault_at d.line) (device_cause_in limits n (count i) (nets i) within d)

instance_fault : (n : Netlist) (p : Plan) (rows : List InstanceRow) (made : Made) (visits : List Visit) (within : Instance) (x : InstCard) (names : ℕ) → Shows n (tables_of n p rows made) visits → suc (length within) ≡ names
    → visit_fault limits n visits record { within = within; item = items.Inst x } ≡ option_map (fault_at x.line) (instance_cause_in limits (length rows) names)
unfolding visit_fault
instance_fault n p rows made visits within x names s e =
    let count = instance_count n p rows made visits s in
    λ i. option_map (fault_at x.line) (instance_cause_in limits (count i) (e i))

-- ## The begin

nothing : {A : Type 0} (P : A → Type 0) (xs : List A) → xs ≡ [] → All P xs
nothing P xs e = subst (All P) (sym e) (λ k d b. absurd (omega arith))

module _ (n : Netlist) (p : Plan) (made : Made) (mark : Mark) (plan : IsPlan n p) (top : mark.cell.now ≡ cell_at n []) (of_top : mark.plan ≡ p.top) (first : mark.instance ≡ 0) (zero_next : mark.next ≡ 0)
    (devices : made.devices.items ≡ []) (groups : made.groups ≡ []) (nets : known_nets p.cards [] made.nets ≡ nets_behind n [])
    (within : All (λ (r : NetRow). (r.instance ≤ 0) × (r.name < length p.cards.names)) made.nets) (room : length made.nets ≤ 1000000) where
  mark_begins : IsMark n p [] [] mark
  mark_begins = record {
    inside = omega (arith, first);
    path = ap (λ i. path_of p.cards.names p.cards.parts.items (way_at (ways_of []) i)) first ∙ ap (path_of p.cards.names p.cards.parts.items) (way_top []);
    cell = top;
    known = omega (arith, of_top, plan.known);
    plan = ap (λ k. get_or (all_cells n) k no_cell) of_top ∙ plan.top ∙ sym top;
  }

  shows_begins : Shows n (tables_of n p [] made) []
  unfolding ways_of ways_from instances_behind devices_behind
  shows_begins = record { instances = refl; nets = nets; devices = ap (map (device_at (tables_of n p [] made) (ways_of []))) devices }

  walked_begins : IsWalked n p [] made [] mark []
  walked_begins = record { done = []; shows = shows_begins; whole = begins n mark zero_next; fault = ap (walk_fault limits n []) (sym (begins n mark zero_next)) }

  no_groups : length made.groups ≡ 0
  no_groups = ap length groups

  no_devices : length made.devices.items ≡ 0
  no_devices = ap length devices

  top_depth : (i : ℕ) → i ≤ 0 → length (way_at (ways_of []) i) ≤ 64
  top_depth i h = let e : i ≡ 0 = omega arith in subst (λ (w : Way). length w ≤ 64) (sym (ap (way_at (ways_of [])) e ∙ way_top [])) (omega arith)

  sound_begins : IsSound (tables_of n p [] made)
  sound_begins = record {
    names = plan.apart;
    ways = λ i j a b e. omega (arith, a, b);
    name_count = plan.name_count;
    globals = plan.below;
    parts = plan.cards.parts;
    cards = plan.cards.devices;
    groups = nothing (λ (g : Group). g.model < length p.cards.names) made.groups groups;
    tree = record { parents = λ i h. absurd (omega (arith, h)); depth = top_depth };
    instances = λ k d b. absurd (omega (arith, b));
    devices = nothing (IsDevice (tables_of n p [] made)) made.devices.items devices;
    nets = within;
    instance_count = omega arith;
    group_count = omega (arith, no_groups);
    device_count = omega (arith, no_devices);
    net_count = room;
  }

  state_top : IsState n p [] made [] mark []
  state_top = record { walked = walked_begins; sound = sound_begins; marks = mark_begins; ways = λ k d b. absurd (omega (arith, b)); groups = omega (arith, no_groups, no_devices); deep = omega arith }

  pub state_begins : (rows : List InstanceRow) (levels : List Level) (above : List Mark) → rows ≡ [] → levels ≡ [] → above ≡ [] → IsState n p rows made levels mark above
  state_begins rows levels above a b e =
      subst (λ r. IsState n p r made levels mark above) (sym a) (subst (λ l. IsState n p [] made l mark above) (sym b) (subst (IsState n p [] made [] mark) (sym e) state_top))

-- ## One visit

module _ (n : Netlist) (p : Plan) (rows : List InstanceRow) (made : Made) (levels : List Level) (mark : Mark) (above : List Mark) (s : IsState n p rows made levels mark above) (inside : mark.next < length mark.cell.now.items) where
  abbrev ls : List Level
  ls = reverse levels

  abbrev as_ : List Mark
  as_ = reverse above

  abbrev within : Instance
  within = map card_of ls

  abbrev done : List Visit
  done = s.walked.done

  mark_is : IsMark n p rows ls mark
  mark_is = here n p rows made levels mark above s

  there : mark.next < length (cell_at n within).items
  there = subst (λ (c : Cell). mark.next < length c.items) mark_is.cell inside

  item_is : (item : Item) → get_or mark.cell.now.items mark.next item ≡ item → get_or (cell_at n within).items mark.next item ≡ item
  item_is item e = ap (λ (c : Cell). get_or c.items mark.next item) (sym mark_is.cell) ∙ e

  fault_visit : (item : Item) (f : Fault) → get_or mark.cell.now.items mark.next item ≡ item → visit_fault limits n done record { within = within; item = item } ≡ Some f → walk_fault limits n [] (visits_of limits n) ≡ Some f
  fault_visit item f e h =
      let first = visit_first n ls mark as_ item there (item_is item e) in
      s.walked.fault ∙ ap (walk_fault limits n done) first.1 ∙ fault_here limits n done record { within = within; item = item } first.0 f h

  device_cause_here : (d : DeviceCard) → visit_fault limits n done record { within = within; item = items.Device d } ≡ option_map (fault_at d.line) (device_cause_in limits n (length made.devices.items) (known_nets p.cards rows made.nets) (instance_of levels) d)
  device_cause_here d =
      device_fault n p rows made done within d s.walked.shows
      ∙ ap (λ q. option_map (fault_at d.line) (device_cause_in limits n (length made.devices.items) (known_nets p.cards rows made.nets) q d)) (instance_is levels)

  pub fault_device : (A B : Type 0) (d : DeviceCard) (refusal : Refusal) → get_or mark.cell.now.items mark.next (items.Device d) ≡ items.Device d
      → Refuses {A = A} (option_map (fault_at d.line) (device_cause_in limits n (length made.devices.items) (known_nets p.cards rows made.nets) (instance_of levels) d)) (Err refusal)
      → Refuses {A = B} (walk_fault limits n [] (visits_of limits n)) (Err refusal)
  fault_device A B d (At f) e h = fault_visit (items.Device d) f e (device_cause_here d ∙ h)
  fault_device A B d NoMemory e h = tt

  pub state_device : (new : Made) (d : DeviceCard) → get_or mark.cell.now.items mark.next (items.Device d) ≡ items.Device d
      → option_map (fault_at d.line) (device_cause_in limits n (length made.devices.items) (known_nets p.cards rows made.nets) (instance_of levels) d) ≡ None
      → AddsDevice n p rows made new (instance_of levels) d → IsState n p rows new levels (stepped mark) above
  state_device new d e none added =
      let v : Visit = record { within = within; item = items.Device d } in
      let adds : AddsDevice n p rows made new within d = subst (λ q. AddsDevice n p rows made new q d) (sym (instance_is levels)) added in
      let opens = visit_device n ls mark as_ d there (item_is (items.Device d) e) in
      let next : List Visit = left n (frames_of n ls (stepped mark) as_) in
      record {
        walked = record {
          done = done ++ v ∷ [];
          shows = shows_device n p rows made new within d done s.sound s.walked.shows adds;
          whole = walked_more n done next (visits_of limits n) (left n (frames_of n ls mark as_)) v opens s.walked.whole;
          fault = fault_more n done next (visits_of limits n) (left n (frames_of n ls mark as_)) v opens (device_cause_here d ∙ none) s.walked.fault;
        };
        sound = adds.sound;
        marks = marks_step n p rows ls mark as_ s.marks;
        ways = s.ways;
        groups = adds.counted;
        deep = s.deep;
      }

  long : length ls ≡ length levels
  long = length-reverse levels

  deeper : suc (length within) ≡ length levels + 1
  deeper = omega (arith, length-map ls card_of, long)

  instance_cause_here : (x : InstCard) → visit_fault limits n done record { within = within; item = items.Inst x } ≡ option_map (fault_at x.line) (instance_cause_in limits (length rows) (length levels + 1))
  instance_cause_here x = instance_fault n p rows made done within x (length levels + 1) s.walked.shows deeper

  pub fault_instance : (A B : Type 0) (x : InstCard) (refusal : Refusal) → get_or mark.cell.now.items mark.next (items.Inst x) ≡ items.Inst x
      → Refuses {A = A} (option_map (fault_at x.line) (instance_cause_in limits (length rows) (length levels + 1))) (Err refusal)
      → Refuses {A = B} (walk_fault limits n [] (visits_of limits n)) (Err refusal)
  fault_instance A B x (At f) e h = fault_visit (items.Inst x) f e (instance_cause_here x ∙ h)
  fault_instance A B x NoMemory e h = tt

  module _ (well : IsWellFormed n) (x : InstCard) (number cell : ℕ) (l : Level) (r : InstanceRow) (e : Mark)
      (is : get_or mark.cell.now.items mark.next (items.Inst x) ≡ items.Inst x) (plan : IsInstPlan n p.cards x number cell)
      (none : option_map (fault_at x.line) (instance_cause_in limits (length rows) (length levels + 1)) ≡ None) (room : length rows < 1000000) (short : length levels < 64)
      (card : l.card.now ≡ x) (known : l.cell.now ≡ get_or (all_cells n) cell no_cell) (parent : r.parent ≡ mark.instance) (listed : r.card ≡ number)
      (entered : e.instance ≡ length rows + 1) (of_cell : e.cell.now ≡ l.cell.now) (planned : e.plan ≡ cell) (first : e.next ≡ 0) where
    abbrev v : Visit
    v = record { within = within; item = items.Inst x }

    abbrev rows_more : List InstanceRow
    rows_more = rows ++ r ∷ []

    above_is : r.parent ≤ length rows
    above_is = omega (arith, parent, mark_is.inside)

    known_is : r.card < length p.cards.parts.items
    known_is = omega (arith, listed, plan.inside)

    path_is : path_of p.cards.names p.cards.parts.items (way_at (ways_of rows) r.parent) ≡ path_in n within
    path_is = ap (λ i. path_of p.cards.names p.cards.parts.items (way_at (ways_of rows) i)) parent ∙ mark_is.path

    link_is : link_at p.cards.names p.cards.parts.items r.card ≡ link_in n x
    link_is = ap (link_at p.cards.names p.cards.parts.items) listed ∙ plan.link

    shown : Shows n (tables_of n p rows_more made) (done ++ v ∷ [])
    shown = shows_instance n p rows made within x r done s.sound s.walked.shows above_is known_is path_is link_is

    opens : left n (frames_of n ls mark as_) ≡ v ∷ left n (frames_of n (l ∷ ls) e (stepped mark ∷ as_))
    opens = visit_instance n ls mark as_ x l e there (item_is (items.Inst x) is) card first (omega (arith, long, short))

    whole : (done ++ v ∷ []) ++ left n (frames_of n (l ∷ ls) e (stepped mark ∷ as_)) ≡ visits_of limits n
    whole = walked_more n done (left n (frames_of n (l ∷ ls) e (stepped mark ∷ as_))) (visits_of limits n) (left n (frames_of n ls mark as_)) v opens s.walked.whole

    apart : AreWaysApart p.cards.names p.cards.parts.items rows_more
    apart = ways_apart n p.cards.names p.cards.parts.items rows_more (instances_behind (done ++ v ∷ [])) shown.instances (done_apart n (done ++ v ∷ []) (left n (frames_of n (l ∷ ls) e (stepped mark ∷ as_))) well whole) (never_top (done ++ v ∷ []))

    sound_is : IsSound (tables_of n p rows_more made)
    sound_is = sound_instance n p rows made within x r done s.sound s.walked.shows above_is known_is path_is link_is room (omega (arith, deeper, short)) apart

    rows_long : length rows_more ≡ length rows + 1
    rows_long = length-append rows (r ∷ [])

    cell_is : l.cell.now ≡ cell_for n x.cell
    cell_is = known ∙ get_or_append_left n.cells (n.main ∷ []) no_cell cell plan.known ∙ plan.used

    entered_is : IsMark n p rows_more (l ∷ ls) e
    entered_is = record {
      inside = omega (arith, entered, rows_long);
      path = ap (path_of p.cards.names p.cards.parts.items) (way_new rows r e.instance entered) ∙ path_new n p rows made within x r done s.sound s.walked.shows above_is known_is path_is link_is ∙ ap (λ y. path_in n (y ∷ within)) (sym card);
      cell = of_cell ∙ cell_is ∙ ap (λ (y : InstCard). cell_for n y.cell) (sym card);
      known = omega (arith, planned, plan.known);
      plan = ap (λ k. get_or (all_cells n) k no_cell) planned ∙ sym known ∙ sym of_cell;
    }

    level_is : l.cell.now ≡ cell_for n l.card.now.cell
    level_is = cell_is ∙ ap (λ (y : InstCard). cell_for n y.cell) (sym card)

    abbrev Goes : List Level → List Mark → Type 0
    Goes k a = IsWalked n p rows_more made k e a

    marks_are : AreMarks n p rows_more (l ∷ ls) e (stepped mark ∷ as_)
    marks_are = (entered_is, marks_step n p rows_more ls mark as_ (marks_stay n p rows r ls mark as_ rows_long s.marks))

    walked_is : IsWalked n p rows_more made (l ∷ ls) e (stepped mark ∷ as_)
    walked_is = record {
      done = done ++ v ∷ [];
      shows = shown;
      whole = whole;
      fault = fault_more n done (left n (frames_of n (l ∷ ls) e (stepped mark ∷ as_))) (visits_of limits n) (left n (frames_of n ls mark as_)) v opens (instance_cause_here x ∙ none) s.walked.fault;
    }

    pub state_instance : IsState n p rows_more made (levels ++ l ∷ []) e (above ++ stepped mark ∷ [])
    state_instance = record {
      walked = subst (λ k. IsWalked n p rows_more made k e (reverse (above ++ stepped mark ∷ []))) (sym (reverse_last levels l)) (subst (IsWalked n p rows_more made (l ∷ ls) e) (sym (reverse_last above (stepped mark))) walked_is);
      sound = sound_is;
      marks = subst (λ k. AreMarks n p rows_more k e (reverse (above ++ stepped mark ∷ []))) (sym (reverse_last levels l)) (subst (AreMarks n p rows_more (l ∷ ls) e) (sym (reverse_last above (stepped mark))) marks_are);
      ways = All-append (λ (k : Level). k.cell.now ≡ cell_for n k.card.now.cell) levels (l ∷ []) s.ways (all_one (λ (k : Level). k.cell.now ≡ cell_for n k.card.now.cell) l level_is);
      groups = s.groups;
      deep = omega (arith, length-append levels (l ∷ []), short);
    }

-- ## The end of an instance

module _ (n : Netlist) (p : Plan) (rows : List InstanceRow) (made : Made) (mark : Mark) where
  ends : (levels : List Level) (above : List Mark) (s : IsState n p rows made levels mark above) → length mark.cell.now.items ≤ mark.next → length (cell_at n (map card_of (reverse levels))).items ≤ mark.next
  ends levels above s h = subst (λ (c : Cell). length c.items ≤ mark.next) (here n p rows made levels mark above s).cell h

  closes : (ls : List Level) (l : Level) (a : Mark) (as_ : List Mark) → length (cell_at n (map card_of (l ∷ ls))).items ≤ mark.next → IsWalked n p rows made (l ∷ ls) mark (a ∷ as_) → IsWalked n p rows made ls a as_
  closes ls l a as_ h w =
      let e = close_one n l ls mark a as_ h in
      record { done = w.done; shows = w.shows; whole = ap (λ k. w.done ++ k) (sym e) ∙ w.whole; fault = w.fault ∙ ap (walk_fault limits n w.done) e }

  pub state_closes : (levels : List Level) (l : Level) (a : Mark) (above : List Mark) → IsState n p rows made (levels ++ l ∷ []) mark (above ++ a ∷ []) → length mark.cell.now.items ≤ mark.next → IsState n p rows made levels a above
  state_closes levels l a above s h =
      let w : IsWalked n p rows made (l ∷ reverse levels) mark (a ∷ reverse above) = subst (λ k. IsWalked n p rows made k mark (a ∷ reverse above)) (reverse_last levels l) (subst (IsWalked n p rows made (reverse (levels ++ l ∷ [])) mark) (reverse_last above a) s.walked) in
      let m : AreMarks n p rows (l ∷ reverse levels) mark (a ∷ reverse above) = subst (λ k. AreMarks n p rows k mark (a ∷ reverse above)) (reverse_last levels l) (subst (AreMarks n p rows (reverse (levels ++ l ∷ [])) mark) (reverse_last above a) s.marks) in
      let e : length (cell_at n (map card_of (l ∷ reverse levels))).items ≤ mark.next = subst (λ k. length (cell_at n (map card_of k)).items ≤ mark.next) (reverse_last levels l) (ends (levels ++ l ∷ []) (above ++ a ∷ []) s h) in
      record {
        walked = closes (reverse levels) l a (reverse above) e w;
        sound = s.sound;
        marks = m.1;
        ways = all_front (λ (k : Level). k.cell.now ≡ cell_for n k.card.now.cell) (levels ++ l ∷ []) levels l refl s.ways;
        groups = s.groups;
        deep = omega (arith, s.deep, length-append levels (l ∷ []));
      }

  -- where no level is above, the walk is done
  pub state_ends : (levels : List Level) (s : IsState n p rows made levels mark []) → length mark.cell.now.items ≤ mark.next → (Shows n (tables_of n p rows made) (visits_of limits n)) × (walk_fault limits n [] (visits_of limits n) ≡ None)
  unfolding walk_fault
  state_ends levels s h =
      let e = close_last n (reverse levels) mark (ends levels [] s h) in
      let all : s.walked.done ≡ visits_of limits n = sym (append-nil s.walked.done) ∙ ap (λ k. s.walked.done ++ k) (sym e) ∙ s.walked.whole in
      (subst (Shows n (tables_of n p rows made)) all s.walked.shows, s.walked.fault ∙ ap (walk_fault limits n s.walked.done) e)

  -- as many levels as marks above
  pub levels_long : (levels : List Level) (above : List Mark) → IsState n p rows made levels mark above → length above ≡ length levels
  levels_long levels above s = omega (arith, marks_long n p rows (reverse levels) mark (reverse above) s.marks, length-reverse levels, length-reverse above)

-- ## The item that comes next

-- no instance but the top has no cards on its path
empty_path : (n : Netlist) (q : Instance) → [] ≡ path_in n q → q ≡ []
empty_path n [] e = refl
empty_path n (x ∷ q) e = absurd (let w : [] ≡ link_in n x ∷ path_in n q = e in cc)

module _ (n : Netlist) (p : Plan) (rows : List InstanceRow) (made : Made) (levels : List Level) (mark : Mark) (above : List Mark) (s : IsState n p rows made levels mark above) where
  pub top_here : mark.instance ≡ 0 → mark.cell.now ≡ cell_at n []
  top_here e =
      let m = here n p rows made levels mark above s in
      let none : [] ≡ path_in n (map card_of (reverse levels)) = sym (ap (λ i. path_of p.cards.names p.cards.parts.items (way_at (ways_of rows) i)) e ∙ ap (path_of p.cards.names p.cards.parts.items) (way_top rows)) ∙ m.path in
      m.cell ∙ ap (cell_at n) (empty_path n (map card_of (reverse levels)) none)

  pub item_formed : IsWellFormed n → (item : Item) → mark.next < length mark.cell.now.items → item ≡ get_or mark.cell.now.items mark.next item → IsFormedItem n.cells item
  item_formed well item inside a =
      let m = here n p rows made levels mark above s in
      let level = subst (IsFormedLevel n.cells) (sym m.cell) (level_formed n well (map card_of (reverse levels))) in
      subst (IsFormedItem n.cells) (sym a) (level.items mark.next item inside)

-- ## Lists

pub no_items : {A : Type 0} (xs : List A) → length xs ≡ 0 → xs ≡ []
no_items [] e = refl
no_items (x ∷ xs) e = absurd (omega arith)

pub last_split : {A : Type 0} (xs : List A) → 0 < length xs → (x : A) × (xs ≡ take (length xs - 1) xs ++ x ∷ [])
last_split xs h =
    let i : ℕ = length xs - 1 in
    let below : i < length xs = omega arith in
    let one : i + 1 ≡ length xs = omega arith in
    let w = element xs i below in
    (w.0, sym (take_all (i + 1) xs (omega (arith, one))) ∙ take_more xs i w.0 below ∙ ap (λ x. take i xs ++ x ∷ []) (sym w.1))

-- the innermost level is left
pub state_pops : (n : Netlist) (p : Plan) (rows : List InstanceRow) (made : Made) (mark : Mark) (levels new : List Level) (a : Mark) (old above : List Mark) → IsState n p rows made levels mark old → old ≡ above ++ a ∷ [] → new ≡ take (length levels - 1) levels
    → length mark.cell.now.items ≤ mark.next → IsState n p rows made new a above
state_pops n p rows made mark levels new a old above s is at h =
    let some : 0 < length levels = omega (arith, levels_long n p rows made mark levels old s, ap length is, length-append above (a ∷ [])) in
    let w = last_split levels some in
    let split : levels ≡ new ++ w.0 ∷ [] = w.1 ∙ ap (λ l. l ++ w.0 ∷ []) (sym at) in
    state_closes n p rows made mark new w.0 a above (subst (IsState n p rows made (new ++ w.0 ∷ []) mark) is (subst (λ l. IsState n p rows made l mark old) split s)) h

-- where no mark is above, the walk is done
pub state_done : (n : Netlist) (p : Plan) (rows : List InstanceRow) (made : Made) (mark : Mark) (levels : List Level) (above : List Mark) → IsState n p rows made levels mark above → length above ≡ 0 → length mark.cell.now.items ≤ mark.next
    → (Shows n (tables_of n p rows made) (visits_of limits n)) × (walk_fault limits n [] (visits_of limits n) ≡ None)
state_done n p rows made mark levels above s e h = state_ends n p rows made mark levels (subst (IsState n p rows made levels mark) (no_items above e) s) h

-- ## The same by what was lent

pub same_item : (its : List Item) (k : ℕ) (item is : Item) → item ≡ get_or its k item → item ≡ is → get_or its k is ≡ is
same_item its k item is e q = subst (λ (x : Item). get_or its k x ≡ x) q (sym e)

-- the state in an instance that is entered, by its parts
pub entered_same : (n : Netlist) (p : Plan) (rows new_rows : List InstanceRow) (made : Made) (levels new_levels : List Level) (e : Mark) (above new_above : List Mark) (r : InstanceRow) (l : Level) (a : Mark) → new_rows ≡ rows ++ r ∷ [] → new_levels ≡ levels ++ l ∷ [] → new_above ≡ above ++ a ∷ []
    → IsState n p (rows ++ r ∷ []) made (levels ++ l ∷ []) e (above ++ a ∷ []) → IsState n p new_rows made new_levels e new_above
entered_same n p rows new_rows made levels new_levels e above new_above r l a x y z s =
    subst (λ k. IsState n p k made new_levels e new_above) (sym x) (subst (λ k. IsState n p (rows ++ r ∷ []) made k e new_above) (sym y) (subst (IsState n p (rows ++ r ∷ []) made (levels ++ l ∷ []) e) (sym z) s))
