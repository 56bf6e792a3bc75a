-- A plan as it grows: what is kept of a card stays as it is.
use Rattle.std.proofs.Common.{◌≡◌, ℕ, zero, suc, ◌+◌, ◌<◌, ◌≤◌, ◌^◌, ◌||◌, Bool, true, false, List, [], ◌∷◌, ◌++◌, length, map, get_or, set, take, refl, sym, ap, subst, ◌∙◌, append_assoc, length-append, arith}
use Rattle.std.proofs.Common.{cond}
use Rattle.std.specs.Prelude.{Vec, All, IfSome, IsSome, IsTrue, Result, Ok, Err, IfOk, MatchOption, Option, Some, None, find, nat_lt, position, slice_get, if◌then◌else◌}
use Rattle.std.specs.List.{AllZip, list_any, position_or_len}
use Rattle.std.specs.Option.{option_and_then, unwrap_or}
use Rattle.std.specs.declared.alloc.Global.{Global}
use Rattle.std.specs.Str.{bytes_eq}
use Rattle.std.specs.Cmp.Lexicographic.{bytes_decides}
use Rattle.std.proofs.Math.Seq.{get_or-append_seam}
use Rattle.std.proofs.lemmas.Bool.{false≢true}
use Rattle.std.proofs.lemmas.Bool.Decides.{nat_tests}
use Rattle.std.proofs.lemmas.List.Folds.{find_at}
use Rattle.std.proofs.lemmas.Option.{slice_get-get_or, slice_get_past}
use Rattle.std.proofs.lemmas.List.{append-nil, get_or_append_left, map-append, take_more}
use Rattle.std.proofs.lemmas.List.Elements.{All-append}
use Rattle.cvc_base.specs.declared.param.Pair.{Pair}
use Rattle.cvc_card.specs.Card.{has_twice}
use Rattle.cvc_card.specs.declared.card.DeviceCard.{DeviceCard}
use Rattle.cvc_card.specs.declared.card.InstCard.{InstCard}
use Rattle.cvc_cdl.specs.declared.netlist.Cell.{Cell}
use Rattle.cvc_cdl.specs.declared.netlist.Item.{Item}
use Rattle.cvc_cdl.specs.declared.netlist.Item.TheVariants as items
use Rattle.cvc_cdl.specs.declared.netlist.Netlist.{Netlist}
use Rattle.cvc_cdl.specs.Building.{is_among}
use Rattle.cvc_cdl.specs.Ending.{cell_named}
use Rattle.cvc_cdl.specs.Netlist.{name_of_cell}
use Rattle.cvc_cdl.specs.WellFormed.{IsFormedLevel, IsWellFormed}
use Rattle.cvc_cdl.specs.Instances.{all_cells, cell_for, no_cell}
use Rattle.cvc_cdl.proofs.Zips.{zip_at, zip_length, zip_map}
use Rattle.cvc_plan.specs.declared.cards.Cards.{Cards}
use Rattle.cvc_plan.specs.declared.cards.CellPlan.{CellPlan}
use Rattle.cvc_plan.specs.declared.cards.ItemPlan.{ItemPlan}
use Rattle.cvc_plan.specs.declared.cards.ItemPlan.TheVariants as plans
use Rattle.cvc_plan.specs.declared.cards.OpeningPlan.{OpeningPlan}
use Rattle.cvc_plan.specs.declared.cards.Plan.{Plan}
use Rattle.cvc_plan.specs.declared.pins.Pin.{Pin}
use Rattle.cvc_plan.specs.declared.pins.PortPlan.{PortPlan}
use Rattle.cvc_plan.specs.declared.plan.DevicePlan.{DevicePlan}
use Rattle.cvc_plan.specs.declared.rows.DevicePart.{DevicePart}
use Rattle.cvc_plan.specs.declared.rows.InstancePart.{InstancePart}
use Rattle.cvc_plan.specs.Nets.{Link, Opening, global_names, link_of as link_in, opening_at}
use Rattle.cvc_names.specs.Names.{AreApart, place_of, with_name}
use Rattle.cvc_plan.specs.Names.{Grows}
use Rattle.cvc_plan.specs.Pins.{ArePins, ArePortPlans, IsPin, IsPortPlan, net_given}
use Rattle.cvc_plan.specs.Planning.{AreCellPlans, AreSoundCards, CardsGrow, HasNoPlan, HasPlan, IsCellPlan, IsDevicePlan, IsInstPlan, IsItemPlan, IsKept, IsPlan, PlanGrows, kept_of, opening_of}
use Rattle.cvc_plan.specs.Plans.{IsPlanOf}
use Rattle.cvc_plan.specs.Parts.{IsPart, link_at, link_of, no_part, part_at}
use Rattle.cvc_plan.proofs.Growing.{grows_connections, grows_length, grows_none, grows_pairs, grows_text, grows_twice, map_alike}
use Rattle.cvc_plan.proofs.Lists.{all_one, none_first, or_first, or_second, place_map}
use Rattle.cvc_plan.proofs.Pinned.{front_stays, pin_stays, plan_stays as port_plan_stays}
use Rattle.cvc_plan.proofs.Among.{place_among}
use Rattle.cvc_plan.proofs.Parts.{link_is}

-- ## Names that stand once

not_before : (xs : List (List ℕ)) (i : ℕ) → has_twice xs ≡ false → i < length xs → is_among (take i xs) (get_or xs i []) ≡ false
not_before [] i t h = absurd (omega arith)
not_before (y ∷ ys) zero t h = refl
not_before (y ∷ ys) (suc i) t h = by (bytes_eq (get_or ys i []) y) refl (not_before ys i (or_second (list_any (bytes_eq y) ys) (has_twice ys) t) (omega arith))
  where
    by : (b : Bool) → bytes_eq (get_or ys i []) y ≡ b → is_among (take i ys) (get_or ys i []) ≡ false → (b || is_among (take i ys) (get_or ys i [])) ≡ false
    by true same rest =
        let is : get_or ys i [] ≡ y = (bytes_decides (get_or ys i []) y).0 same in
        let inside : i < length ys = omega arith in
        absurd (false≢true (sym (or_first (list_any (bytes_eq y) ys) (has_twice ys) t) ∙ place_among ys y i inside (sym is)))
    by false same rest = rest

-- the next of names that stand once is put last
pub next_name : (xs : List (List ℕ)) (i : ℕ) (x : List ℕ) → has_twice xs ≡ false → i < length xs → x ≡ get_or xs i [] → with_name (take i xs) x ≡ take (i + 1) xs
next_name xs i x t h e =
    ap (with_name (take i xs)) e
    ∙ ap (λ (b : Bool). if b then take i xs else take i xs ++ get_or xs i [] ∷ []) (not_before xs i t h)
    ∙ sym (take_more xs i [] h)

-- ## Growing

pub cards_none : (k : Cards) → CardsGrow k k
cards_none k = record { names = grows_none k.names; more_parts = []; parts = sym (append-nil k.parts.items); more_devices = []; devices = sym (append-nil k.devices.items) }

pub cards_twice : (a b c : Cards) → CardsGrow a b → CardsGrow b c → CardsGrow a c
cards_twice a b c g h = record {
  names = grows_twice a.names b.names c.names g.names h.names;
  more_parts = g.more_parts ++ h.more_parts;
  parts = h.parts ∙ ap (λ (l : List InstancePart). l ++ h.more_parts) g.parts ∙ append_assoc a.parts.items g.more_parts h.more_parts;
  more_devices = g.more_devices ++ h.more_devices;
  devices = h.devices ∙ ap (λ (l : List DevicePart). l ++ h.more_devices) g.devices ∙ append_assoc a.devices.items g.more_devices h.more_devices;
}

plan_stays : (a b : List (List ℕ)) (card : DeviceCard) (part : DevicePart) (model : ℕ) → Grows a b → IsPlanOf a card part model → IsPlanOf b card part model
plan_stays a b card part model g p = record {
  letter = p.letter;
  line = p.line;
  own = omega (arith, p.own, grows_length a b g);
  name = grows_text a b part.name g p.own ∙ p.name;
  known = omega (arith, p.known, grows_length a b g);
  model = grows_text a b model g p.known ∙ p.model;
}

device_stays : (a b : Cards) (card : DeviceCard) (number : ℕ) (plan : DevicePlan) → CardsGrow a b → IsDevicePlan a card number plan → IsDevicePlan b card number plan
device_stays a b card number plan g p = record {
  inside = omega (arith, p.inside, ap length g.devices, length-append a.devices.items g.more_devices);
  kept = subst (λ part. IsPlanOf b.names card part plan.model) (sym (ap (λ l. part_at l number) g.devices ∙ get_or_append_left a.devices.items g.more_devices no_part number p.inside))
      (plan_stays a.names b.names card (part_at a.devices.items number) plan.model g.names p.kept);
}

-- an element of a list that isn't empty
pub element : {A : Type 0} (xs : List A) (k : ℕ) → k < length xs → (x : A) × (x ≡ get_or xs k x)
element [] k h = absurd (omega arith)
element (x ∷ xs) zero h = (x, refl)
element (x ∷ xs) (suc k) h = element xs k (omega arith)

pub part_stays : (a b : List (List ℕ)) (part : InstancePart) → Grows a b → IsPart a part → link_of b part ≡ link_of a part
part_stays a b part g p = let n = grows_text a b part.name g p.0 in let c = grows_pairs a b part.connections.items g p.1 in λ i. record { name = n i; connections = c i }

pub sound_part_more : (a b : List (List ℕ)) (part : InstancePart) → Grows a b → IsPart a part → IsPart b part
sound_part_more a b part g p = let more = grows_length a b g in (omega (arith, p.0, more), grows_connections a b part.connections.items g p.1)

pub link_stays : (a b : Cards) (k : ℕ) → CardsGrow a b → AreSoundCards a → k < length a.parts.items → link_at b.names b.parts.items k ≡ link_at a.names a.parts.items k
link_stays a b k g s h =
    let w = element a.parts.items k h in
    let part : InstancePart = w.0 in
    let there : part ≡ get_or b.parts.items k part = w.1 ∙ sym (ap (λ (l : List InstancePart). get_or l k part) g.parts ∙ get_or_append_left a.parts.items g.more_parts part k h) in
    let more : k < length b.parts.items = omega (arith, h, ap length g.parts, length-append a.parts.items g.more_parts) in
    let sound : IsPart a.names part = subst (IsPart a.names) (sym w.1) (s.parts k part h) in
    link_is b.names b.parts.items k part more there ∙ part_stays a.names b.names part g.names sound ∙ sym (link_is a.names a.parts.items k part h w.1)

pub inst_stays : (n : Netlist) (a b : Cards) (card : InstCard) (number cell : ℕ) → CardsGrow a b → AreSoundCards a → IsInstPlan n a card number cell → IsInstPlan n b card number cell
inst_stays n a b card number cell g s p = record {
  inside = omega (arith, p.inside, ap length g.parts, length-append a.parts.items g.more_parts);
  link = link_stays a b number g s p.inside ∙ p.link;
  known = p.known;
  used = p.used;
}

pub pins_stay : (a b globals ports wanted : List (List ℕ)) (ps : List Pin) → Grows a b → ArePins a globals ports wanted ps → ArePins b globals ports wanted ps
pins_stay a b globals ports wanted ps g z = zip_map (IsPin a globals ports) (IsPin b globals ports) wanted ps (λ name pin h. pin_stays a b globals ports name pin g h) z

pub port_plans_stay : (a b globals ports : List (List ℕ)) (pairs : List Pair) (used : List (List ℕ)) (qs : List PortPlan) → Grows a b → ArePortPlans a globals ports pairs used qs → ArePortPlans b globals ports pairs used qs
port_plans_stay a b globals ports pairs used qs g z =
    zip_map (λ port q. IsPortPlan a globals ports (net_given pairs port) port q) (λ port q. IsPortPlan b globals ports (net_given pairs port) port q) used qs
    (λ port q h. port_plan_stays a b globals ports (net_given pairs port) port q g h) z

pub item_stays : (n : Netlist) (a b : Cards) (ports : List (List ℕ)) → CardsGrow a b → AreSoundCards a → (item : Item) (plan : ItemPlan) → IsItemPlan n a ports item plan → IsItemPlan n b ports item plan
item_stays n a b ports g s (items.Device card) (plans.Device number plan) p =
    (device_stays a b card number plan g p.0, pins_stay a.names b.names (global_names n) ports card.nets plan.pins.items g.names p.1)
item_stays n a b ports g s (items.Device card) (plans.Inst number plan) p = absurd p
item_stays n a b ports g s (items.Inst card) (plans.Device number plan) p = absurd p
item_stays n a b ports g s (items.Inst card) (plans.Inst number plan) p =
    (inst_stays n a b card number plan.cell g s p.0, port_plans_stay a.names b.names (global_names n) ports (link_in n card).connections (cell_for n card.cell).ports plan.ports.items g.names p.1)

pub items_stay : (n : Netlist) (a b : Cards) (ports : List (List ℕ)) (its : List Item) (ps : List ItemPlan) → CardsGrow a b → AreSoundCards a → AllZip (IsItemPlan n a ports) its ps → AllZip (IsItemPlan n b ports) its ps
items_stay n a b ports its ps g s z = zip_map (IsItemPlan n a ports) (IsItemPlan n b ports) its ps (item_stays n a b ports g s) z

pub cell_stays : (n : Netlist) (a b : Cards) (c : Cell) (plan : Option CellPlan) → CardsGrow a b → AreSoundCards a → IfSome plan (IsCellPlan n a c) → IfSome plan (IsCellPlan n b c)
cell_stays n a b c None g s w = tt
cell_stays n a b c (Some plan) g s w = items_stay n a b c.ports c.items plan.items.items g s w

pub cells_stay : (n : Netlist) (a b : Cards) (cells : List Cell) (ps : List (Option CellPlan)) → CardsGrow a b → AreSoundCards a → AreCellPlans n a cells ps → AreCellPlans n b cells ps
cells_stay n a b cells ps g s z =
    zip_map (λ (c : Cell) (o : Option CellPlan). IfSome o (IsCellPlan n a c)) (λ (c : Cell) (o : Option CellPlan). IfSome o (IsCellPlan n b c)) cells ps (λ c o w. cell_stays n a b c o g s w) z

-- ## One more card

parts_sound : (a b : List (List ℕ)) (ps : List InstancePart) → Grows a b → All (IsPart a) ps → All (IsPart b) ps
parts_sound a b ps g h = λ k d i. sound_part_more a b (get_or ps k d) g (h k d i)

devices_sound : (a b : List (List ℕ)) (ds : List DevicePart) → Grows a b → All (λ (d : DevicePart). d.name < length a) ds → All (λ (d : DevicePart). d.name < length b) ds
devices_sound a b ds g h = λ k d i. let w = h k d i in let more = grows_length a b g in omega (arith, w, more)

pub device_sound : (a b : Cards) (part : DevicePart) → Grows a.names b.names → b.parts.items ≡ a.parts.items → b.devices.items ≡ a.devices.items ++ part ∷ [] → part.name < length b.names → AreSoundCards a → AreSoundCards b
device_sound a b part g p d own s = record {
  parts = subst (All (IsPart b.names)) (sym p) (parts_sound a.names b.names a.parts.items g s.parts);
  devices = subst (All (λ (x : DevicePart). x.name < length b.names)) (sym d)
      (All-append (λ (x : DevicePart). x.name < length b.names) a.devices.items (part ∷ []) (devices_sound a.names b.names a.devices.items g s.devices) (all_one (λ (x : DevicePart). x.name < length b.names) part own));
}

pub device_grows : (a b : Cards) (part : DevicePart) → Grows a.names b.names → b.parts.items ≡ a.parts.items → b.devices.items ≡ a.devices.items ++ part ∷ [] → CardsGrow a b
device_grows a b part g p d = record { names = g; more_parts = []; parts = p ∙ sym (append-nil a.parts.items); more_devices = part ∷ []; devices = d }

pub part_sound : (a b : Cards) (part : InstancePart) → Grows a.names b.names → b.parts.items ≡ a.parts.items ++ part ∷ [] → b.devices.items ≡ a.devices.items → IsPart b.names part → AreSoundCards a → AreSoundCards b
part_sound a b part g p d own s = record {
  parts = subst (All (IsPart b.names)) (sym p) (All-append (IsPart b.names) a.parts.items (part ∷ []) (parts_sound a.names b.names a.parts.items g s.parts) (all_one (IsPart b.names) part own));
  devices = subst (All (λ (x : DevicePart). x.name < length b.names)) (sym d) (devices_sound a.names b.names a.devices.items g s.devices);
}

pub part_grows : (a b : Cards) (part : InstancePart) → Grows a.names b.names → b.parts.items ≡ a.parts.items ++ part ∷ [] → b.devices.items ≡ a.devices.items → CardsGrow a b
part_grows a b part g p d = record { names = g; more_parts = part ∷ []; parts = p; more_devices = []; devices = d ∙ sym (append-nil a.devices.items) }

pub device_listed : (b : Cards) (old : List DevicePart) (card : DeviceCard) (number : ℕ) (part : DevicePart) (plan : DevicePlan) → b.devices.items ≡ old ++ part ∷ [] → number ≡ length old → IsPlanOf b.names card part plan.model → IsDevicePlan b card number plan
device_listed b old card number part plan d k p = record {
  inside = omega (arith, k, ap length d, length-append old (part ∷ []));
  kept = subst (λ x. IsPlanOf b.names card x plan.model) (sym (ap (part_at b.devices.items) k ∙ ap (λ l. part_at l (length old)) d ∙ get_or-append_seam old part [] no_part)) p;
}

pub part_listed : (names : List (List ℕ)) (old new : List InstancePart) (number : ℕ) (part : InstancePart) (link : Link) → new ≡ old ++ part ∷ [] → number ≡ length old → link_of names part ≡ link → link_at names new number ≡ link
part_listed names old new number part link d k e =
    let inside : number < length new = omega (arith, k, ap length d, length-append old (part ∷ [])) in
    let there : part ≡ get_or new number part = sym (ap (λ (l : List InstancePart). get_or l number part) d ∙ ap (λ i. get_or (old ++ part ∷ []) i part) k ∙ get_or-append_seam old part [] part) in
    link_is names new number part inside there ∙ e

-- ## Cells by their names

pub first_found : {A : Type 0} (p : A → Bool) (xs : List A) (k : ℕ) (d : A) → position p xs ≡ Some k → (k < length xs) × (find p xs ≡ Some (get_or xs k d))
first_found {A} p xs k d e = by (nat_lt (position_or_len p xs) (length xs)) refl e
  where
    by : (b : Bool) → nat_lt (position_or_len p xs) (length xs) ≡ b → cond b (Some (position_or_len p xs)) None ≡ Some k → (k < length xs) × (find p xs ≡ Some (get_or xs k d))
    by true below is =
        let at : position_or_len p xs ≡ k = cc in
        let inside : k < length xs = grind (arith, nat_tests) in
        (inside, find_at p xs ∙ ap (slice_get xs) at ∙ slice_get-get_or xs k d inside)
    by false below is = cc

pub none_found : {A : Type 0} (p : A → Bool) (xs : List A) → position p xs ≡ None → find p xs ≡ None
none_found p xs e = find_at p xs ∙ slice_get_past xs (position_or_len p xs) (none_first p xs e)

pub cell_found : (cells : List Cell) (name : List ℕ) (o : Option ℕ) → o ≡ place_of (map name_of_cell cells) name → MatchOption o (cell_named cells name ≡ None) (λ k. cell_named cells name ≡ Some (get_or cells k no_cell))
cell_found cells name None e = none_found (λ (c : Cell). bytes_eq name c.name) cells (sym (place_map (bytes_eq name) name_of_cell cells) ∙ sym e)
cell_found cells name (Some k) e = (first_found (λ (c : Cell). bytes_eq name c.name) cells k no_cell (sym (place_map (bytes_eq name) name_of_cell cells) ∙ sym e)).1

-- one more opening
pub opening_more : (a b : List (List ℕ)) (os more : List OpeningPlan) (o : OpeningPlan) (done : List Opening) (next : Opening) → Grows a b → All (λ (x : OpeningPlan). x.name < length a) os
    → map (opening_of a) os ≡ done → more ≡ os ++ o ∷ [] → opening_of b o ≡ next → map (opening_of b) more ≡ done ++ next ∷ []
opening_more a b os more o done next g h e is at =
    ap (map (opening_of b)) is ∙ map-append (opening_of b) os (o ∷ [])
    ∙ (λ i. (map_alike (opening_of b) (opening_of a) os (λ k d l j. opening_at (get_or os k d).line (grows_text a b (get_or os k d).name g (h k d l) j)) ∙ e) i ++ at i ∷ [])

pub openings_within : (a b : List (List ℕ)) (os more : List OpeningPlan) (o : OpeningPlan) → Grows a b → All (λ (x : OpeningPlan). x.name < length a) os → o.name < length b → more ≡ os ++ o ∷ []
    → All (λ (x : OpeningPlan). x.name < length b) more
openings_within a b os more o g h own is =
    subst (All (λ (x : OpeningPlan). x.name < length b)) (sym is)
    (All-append (λ (x : OpeningPlan). x.name < length b) os (o ∷ []) (λ k d l. let w = h k d l in let m = grows_length a b g in omega (arith, w, m)) (all_one (λ (x : OpeningPlan). x.name < length b) o own))

pub map_more : {A B : Type 0} (f : A → B) (xs : List A) (i : ℕ) (x : A) → i < length xs → x ≡ get_or xs i x → map f (take i xs) ++ f x ∷ [] ≡ map f (take (i + 1) xs)
map_more f xs i x h e = ap (λ y. map f (take i xs) ++ f y ∷ []) e ∙ sym (map-append f (take i xs) (get_or xs i x ∷ [])) ∙ ap (map f) (sym (take_more xs i x h))

pub device_item : {E : Type 0} (n : Netlist) (k : Cards) (names : List (List ℕ)) (g : ℕ) (ports : List (List ℕ)) (item : Item) (card : DeviceCard) (result : Result ItemPlan E) → item ≡ items.Device card → take g names ≡ global_names n
    → IfOk result (λ plan. (m : Netlist) → take g names ≡ global_names m → IsItemPlan m k ports (items.Device card) plan) → IfOk result (IsItemPlan n k ports item)
device_item n k names g ports item card (Ok plan) e is h = subst (λ i. IsItemPlan n k ports i plan) (sym e) (h n is)
device_item n k names g ports item card (Err x) e is h = tt

named_none : (cells : List Cell) (name : List ℕ) → is_among (map name_of_cell cells) name ≡ true → cell_named cells name ≡ None → ⊥
named_none [] name a e = absurd (false≢true a)
named_none (c ∷ cells) name a e = by (bytes_eq name c.name) a e (named_none cells name)
  where
    by : (b : Bool) → (b || is_among (map name_of_cell cells) name) ≡ true → cond b (Some c) (cell_named cells name) ≡ None → (is_among (map name_of_cell cells) name ≡ true → cell_named cells name ≡ None → ⊥) → ⊥
    by true a e later = cc
    by false a e later = later a e

-- the top is a cell
pub top_named : (cells : List Cell) (top : Option (List ℕ)) (name : List ℕ) → top ≡ Some name → IfSome top (λ x. IsTrue (is_among (map name_of_cell cells) x)) → cell_named cells name ≡ None → ⊥
top_named cells top name e h none = named_none cells name (subst (λ (o : Option (List ℕ)). IfSome o (λ x. IsTrue (is_among (map name_of_cell cells) x))) e h) none

-- ## The whole plan

pub names_front : (a b : List (List ℕ)) (k : ℕ) → Grows a b → k ≡ length a → take k b ≡ a
names_front a b k g e = ap (λ i. take i b) e ∙ ap (take (length a)) g.is ∙ take_front a g.more
  where
    take_front : (xs ys : List (List ℕ)) → take (length xs) (xs ++ ys) ≡ xs
    take_front [] ys = refl
    take_front (x ∷ xs) ys = ap (λ l. x ∷ l) (take_front xs ys)

pub openings_grow : (a b : List (List ℕ)) (os : List OpeningPlan) → Grows a b → All (λ (x : OpeningPlan). x.name < length a) os → map (opening_of b) os ≡ map (opening_of a) os
openings_grow a b os g h = map_alike (opening_of b) (opening_of a) os (λ k d l j. opening_at (get_or os k d).line (grows_text a b (get_or os k d).name g (h k d l) j))

pub opened_grow : (a b : List (List ℕ)) (os : List OpeningPlan) → Grows a b → All (λ (x : OpeningPlan). x.name < length a) os → All (λ (x : OpeningPlan). x.name < length b) os
opened_grow a b os g h = λ k d l. let w = h k d l in let m = grows_length a b g in omega (arith, w, m)

pub none_kept : (n : Netlist) (k : Cards) (cells : List Cell) (ps : List (Option CellPlan)) → AllZip HasNoPlan cells ps → AreCellPlans n k cells ps
none_kept n k cells ps z =
    zip_map HasNoPlan (λ (c : Cell) (o : Option CellPlan). IfSome o (IsCellPlan n k c)) cells ps (λ c o e. subst (λ (x : Option CellPlan). IfSome x (IsCellPlan n k c)) (sym e) tt) z

-- the same plan with more cards, and with these plans of cells
pub plan_with : (n : Netlist) (p q : Plan) → IsPlan n p → CardsGrow p.cards q.cards → AreSoundCards q.cards → AreApart q.cards.names → length q.cards.names < 2 ^ 32 → AreCellPlans n q.cards (all_cells n) q.cells.items
    → q.globals ≡ p.globals → q.top ≡ p.top → q.openings ≡ p.openings → q.places ≡ p.places → q.ports ≡ p.ports → IsPlan n q
plan_with n p q is g sound apart count cells a b c d e = record {
  apart = apart;
  name_count = count;
  below = omega (arith, a, is.below, grows_length p.cards.names q.cards.names g.names);
  globals = ap (λ k. take k q.cards.names) a ∙ front_stays p.cards.names q.cards.names p.globals g.names is.below ∙ is.globals;
  cards = sound;
  cells = cells;
  known = omega (arith, b, is.known);
  top = ap (λ k. get_or (all_cells n) k no_cell) b ∙ is.top;
  openings = ap (λ (os : Vec OpeningPlan Global). map (opening_of q.cards.names) os.items) c ∙ openings_grow p.cards.names q.cards.names p.openings.items g.names is.opened ∙ is.openings;
  opened = subst (λ (os : Vec OpeningPlan Global). All (λ (o : OpeningPlan). o.name < length q.cards.names) os.items) (sym c) (opened_grow p.cards.names q.cards.names p.openings.items g.names is.opened);
  places = d ∙ is.places;
  ports = e ∙ is.ports;
}

-- ## Plans of cells

pub zip_set : {A B : Type 0} (R : A → B → Type 0) (xs : List A) (ys : List B) (k : ℕ) (d : A) (y : B) → AllZip R xs ys → R (get_or xs k d) y → AllZip R xs (set ys k y)
zip_set R [] [] k d y z r = tt
zip_set R [] (b ∷ ys) k d y z r = absurd z
zip_set R (a ∷ xs) [] k d y z r = absurd z
zip_set R (a ∷ xs) (b ∷ ys) zero d y z r = (r, z.1)
zip_set R (a ∷ xs) (b ∷ ys) (suc k) d y z r = (z.0, zip_set R xs ys k d y z.1 r)

pub cells_count : (n : Netlist) (k : Cards) (ps : List (Option CellPlan)) → AreCellPlans n k (all_cells n) ps → length ps ≡ length n.cells + 1
cells_count n k ps z = omega (arith, zip_length (λ (c : Cell) (o : Option CellPlan). IfSome o (IsCellPlan n k c)) (all_cells n) ps z, length-append n.cells (n.main ∷ []))

-- one more cell is planned
pub cell_planned : (n : Netlist) (k : Cards) (ps : List (Option CellPlan)) (number : ℕ) (plan : CellPlan) → AreCellPlans n k (all_cells n) ps → IsCellPlan n k (get_or (all_cells n) number no_cell) plan → AreCellPlans n k (all_cells n) (set ps number (Some plan))
cell_planned n k ps number plan z is = zip_set (λ (c : Cell) (o : Option CellPlan). IfSome o (IsCellPlan n k c)) (all_cells n) ps number no_cell (Some plan) z is

pub some_there : {A : Type 0} (xs : List (Option A)) (k : ℕ) (x : A) → k < length xs → IsSome (get_or (set xs k (Some x)) k None)
some_there [] k x h = absurd (omega arith)
some_there (y ∷ ys) zero x h = refl
some_there (y ∷ ys) (suc k) x h = some_there ys k x (omega arith)

-- each of all cells is well formed
pub formed_at : (n : Netlist) (number : ℕ) → IsWellFormed n → number ≤ length n.cells → IsFormedLevel n.cells (get_or (all_cells n) number no_cell)
formed_at n number w h =
    All-append (IsFormedLevel n.cells) n.cells (n.main ∷ []) w.levels (all_one (IsFormedLevel n.cells) n.main w.main) number no_cell (omega (arith, h, length-append n.cells (n.main ∷ [])))

-- there is a plan of an item of a cell whose items are kept
pub cell_kept : (n : Netlist) (p : Plan) (item : Item) (number place : ℕ) (cell : Cell) → IsPlan n p → number ≤ length n.cells → HasPlan p number → get_or (all_cells n) number no_cell ≡ cell → place < length cell.items → item ≡ get_or cell.items place item
    → IsKept n p cell.ports item None number place
cell_kept n p item number place cell is known has at inside there = by (get_or p.cells.items number None) refl has
  where
    all : IfSome (get_or p.cells.items number None) (IsCellPlan n p.cards cell)
    all =
        subst (λ (c : Cell). IfSome (get_or p.cells.items number None) (IsCellPlan n p.cards c)) at
        (zip_at (λ (c : Cell) (o : Option CellPlan). IfSome o (IsCellPlan n p.cards c)) (all_cells n) p.cells.items number no_cell None is.cells (omega (arith, known, length-append n.cells (n.main ∷ []))))

    by : (o : Option CellPlan) → get_or p.cells.items number None ≡ o → IsSome o → IsKept n p cell.ports item None number place
    by None e h = absurd (false≢true h)
    by (Some kept) e h =
        let zipped : AllZip (IsItemPlan n p.cards cell.ports) cell.items kept.items.items = subst (λ (o : Option CellPlan). IfSome o (IsCellPlan n p.cards cell)) e all in
        let long : place < length kept.items.items = omega (arith, inside, zip_length (IsItemPlan n p.cards cell.ports) cell.items kept.items.items zipped) in
        let w = element kept.items.items place long in (
          w.0,
          ap (option_and_then (λ (k : CellPlan). slice_get k.items.items place)) e ∙ slice_get-get_or kept.items.items place w.0 long ∙ ap Some (sym w.1),
          subst (λ x. IsItemPlan n p.cards cell.ports x w.0) (sym there)
              (subst (IsItemPlan n p.cards cell.ports (get_or cell.items place item)) (sym w.1) (zip_at (IsItemPlan n p.cards cell.ports) cell.items kept.items.items place item w.0 zipped inside)),
        )

pub kept_item : (n : Netlist) (p : Plan) (ports : List (List ℕ)) (item : Item) (own : Option ItemPlan) (cell place : ℕ) (plan : ItemPlan) → IsKept n p ports item own cell place → kept_of p.cells.items own cell place ≡ Some plan → IsItemPlan n p.cards ports item plan
kept_item n p ports item own cell place plan k e = subst (IsItemPlan n p.cards ports item) (ap (λ (o : Option ItemPlan). unwrap_or o plan) (sym k.1 ∙ e)) k.2

pub plan_same : (p : Plan) → PlanGrows p p
plan_same p = record { cards = cards_none p.cards; globals = refl }

get_inside : {A : Type 0} (xs : List A) (k : ℕ) → IsSome (slice_get xs k) → k < length xs
get_inside [] k h = absurd (false≢true h)
get_inside (x ∷ xs) zero h = omega arith
get_inside (x ∷ xs) (suc k) h = let w = get_inside xs k h in omega (arith, w)

-- what is kept of an item stands in the plan of its cell
pub kept_cell : (plans : List (Option CellPlan)) (cell place : ℕ) → IsSome (kept_of plans None cell place) → cell < length plans
kept_cell [] cell place h = absurd (false≢true h)
kept_cell (x ∷ plans) zero place h = omega arith
kept_cell (x ∷ plans) (suc cell) place h = let w = kept_cell plans cell place h in omega (arith, w)

module _ (plans : List (Option CellPlan)) (cell place : ℕ) (kept : CellPlan) (at : get_or plans cell None ≡ Some kept) where
  kept_is : kept_of plans None cell place ≡ slice_get kept.items.items place
  kept_is = ap (option_and_then (λ (k : CellPlan). slice_get k.items.items place)) at

  pub kept_place : IsSome (kept_of plans None cell place) → place < length kept.items.items
  kept_place h = get_inside kept.items.items place (subst (λ (o : Option ItemPlan). IsSome o) kept_is h)

  pub kept_there : (plan : ItemPlan) → IsSome (kept_of plans None cell place) → plan ≡ get_or kept.items.items place plan → kept_of plans None cell place ≡ Some plan
  kept_there plan h e = kept_is ∙ slice_get-get_or kept.items.items place plan (kept_place h) ∙ ap Some (sym e)
