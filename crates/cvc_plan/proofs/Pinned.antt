-- Pins: what they are as names grow, and the nets that they stand for.
use Rattle.std.proofs.Common.{◌≡◌, ℕ, zero, suc, ◌<◌, ◌≤◌, Bool, true, false, List, [], ◌∷◌, ◌++◌, length, take, get_or, refl, sym, ap, ◌∙◌, arith, ltb}
use Rattle.std.specs.Prelude.{Option, Some, None, find, if◌then◌else◌}
use Rattle.std.specs.List.{list_any}
use Rattle.std.specs.Option.{option_map, option_map_or, unwrap_or}
use Rattle.std.specs.Str.{bytes_eq}
use Rattle.std.specs.Cmp.Lexicographic.{bytes_decides}
use Rattle.std.proofs.lemmas.Bool.{false≢true, lt-ltb, ltb-true}
use Rattle.std.proofs.lemmas.List.Sums.{fails_before_first}
use Rattle.cvc_base.specs.declared.cause.Cause.TheVariants.{UnknownPort}
use Rattle.cvc_base.specs.declared.param.Pair.{Pair}
use Rattle.cvc_card.specs.Card.{has_twice}
use Rattle.cvc_card.specs.declared.card.InstCard.{InstCard}
use Rattle.cvc_card.specs.declared.card.Ports.{Ports}
use Rattle.cvc_card.specs.declared.card.Ports.TheVariants.{ByOrder, ByName}
use Rattle.cvc_cdl.specs.declared.netlist.Cell.{Cell}
use Rattle.cvc_cdl.specs.Building.{is_among}
use Rattle.cvc_cdl.specs.Ending.{cell_cause, cell_named, connects_ports, instance_cause, ports_cause}
use Rattle.cvc_cdl.specs.Instances.{no_cell}
use Rattle.cvc_plan.specs.declared.pins.Pin.{Pin}
use Rattle.cvc_plan.specs.declared.pins.Pin.TheVariants as pins
use Rattle.cvc_plan.specs.declared.pins.PortPlan.{PortPlan}
use Rattle.cvc_plan.specs.declared.pins.PortPlan.TheVariants as plans
use Rattle.cvc_names.specs.Names.{AreApart, place_of}
use Rattle.cvc_plan.specs.Names.{Grows}
use Rattle.cvc_plan.specs.Nets.{Link, Path, connected, connections_of, names_of, net_of, net_within, paired, top_net}
use Rattle.cvc_plan.specs.Pins.{IsPin, IsPinWithin, IsPlanWithin, IsPortPlan, net_given, stands_for}
use Rattle.cvc_plan.specs.Parts.{text}
use Rattle.cvc_plan.proofs.Growing.{grows_length, grows_text}
use Rattle.cvc_plan.proofs.Lists.{and_first, and_second, none_first, or_first, or_second}
use Rattle.cvc_plan.proofs.Among.{among_place, global_is, place_among}

-- ## Growing

take_front : (g : ℕ) (a more : List (List ℕ)) → g ≤ length a → take g (a ++ more) ≡ take g a
take_front zero a more h = refl
take_front (suc g) [] more h = absurd (omega arith)
take_front (suc g) (x ∷ a) more h = ap (λ l. x ∷ l) (take_front g a more (omega arith))

-- the global names stay in front
pub front_stays : (a b : List (List ℕ)) (g : ℕ) → Grows a b → g ≤ length a → take g b ≡ take g a
front_stays a b g h inside = ap (take g) h.is ∙ take_front g a h.more inside

pub pin_stays : (a b globals ports : List (List ℕ)) (name : List ℕ) (pin : Pin) → Grows a b → IsPin a globals ports name pin → IsPin b globals ports name pin
pin_stays a b globals ports name (pins.Global k) g h = let inside : k < length b = omega (arith, h.0, grows_length a b g) in (inside, grows_text a b k g h.0 ∙ h.1, h.2)
pin_stays a b globals ports name (pins.Port k) g h = h
pin_stays a b globals ports name (pins.Own k) g h = let inside : k < length b = omega (arith, h.0, grows_length a b g) in (inside, grows_text a b k g h.0 ∙ h.1, h.2, h.3)

pub plan_stays : (a b globals ports : List (List ℕ)) (net : Option (List ℕ)) (port : List ℕ) (q : PortPlan) → Grows a b → IsPortPlan a globals ports net port q → IsPortPlan b globals ports net port q
plan_stays a b globals ports net port (plans.Joined pin) g h = (h.0, h.1, pin_stays a b globals ports h.0 pin g h.2)
plan_stays a b globals ports net port (plans.LeftOut k) g h = let inside : k < length b = omega (arith, h.0, grows_length a b g) in (inside, grows_text a b k g h.0 ∙ h.1, h.2)

-- ## Names among others

pub not_among : (xs : List (List ℕ)) (t : List ℕ) → place_of xs t ≡ None → is_among xs t ≡ false
not_among xs t e = by (is_among xs t) refl
  where
    by : (b : Bool) → is_among xs t ≡ b → b ≡ false
    by false h = refl
    by true h =
        let w = among_place xs t h in
        let before = fails_before_first (bytes_eq t) xs w.0 [] (omega (arith, w.1, none_first (bytes_eq t) xs e)) in
        absurd (false≢true (sym before ∙ (bytes_decides t (get_or xs w.0 [])).1 w.2))

-- a number of a global name
pub among_globals : (names : List (List ℕ)) (g k : ℕ) → AreApart names → g ≤ length names → k < length names → k < g → is_among (take g names) (text names k) ≡ true
among_globals names g k apart inside h below = global_is names g k apart inside h ∙ lt-ltb k g below

-- a number past the global names
pub past_globals : (names : List (List ℕ)) (g k : ℕ) → AreApart names → g ≤ length names → k < length names → g ≤ k → is_among (take g names) (text names k) ≡ false
past_globals names g k apart inside h above = by (is_among (take g names) (text names k)) (global_is names g k apart inside h)
  where
    by : (b : Bool) → b ≡ ltb k g → b ≡ false
    by false e = refl
    by true e = absurd (omega (arith, ltb-true k g (sym e), above))

-- ## Connections

same_itself : (t : List ℕ) → bytes_eq t t ≡ true
same_itself t = (bytes_decides t t).1 refl

-- by order each port is connected to the net at its place
pub given_at : (ports nets : List (List ℕ)) (k : ℕ) → has_twice ports ≡ false → length nets ≡ length ports → k < length ports → net_given (paired ports nets) (text ports k) ≡ Some (text nets k)
given_at [] nets k once fits h = absurd (omega arith)
given_at (p ∷ ps) [] k once fits h = absurd (omega arith)
given_at (p ∷ ps) (t ∷ ts) zero once fits h = ap (λ (b : Bool). option_map (λ (c : Pair). c.value) (if b then Some record { name = p; value = t } else find (λ (c : Pair). bytes_eq p c.name) (paired ps ts))) (same_itself p)
given_at (p ∷ ps) (t ∷ ts) (suc k) once fits h = by (bytes_eq (text ps k) p) refl (given_at ps ts k (or_second (list_any (bytes_eq p) ps) (has_twice ps) once) (omega arith) (omega arith))
  where
    by : (b : Bool) → bytes_eq (text ps k) p ≡ b → net_given (paired ps ts) (text ps k) ≡ Some (text ts k)
        → option_map (λ (c : Pair). c.value) (if b then Some record { name = p; value = t } else find (λ (c : Pair). bytes_eq (text ps k) c.name) (paired ps ts)) ≡ Some (text ts k)
    by false e later = later
    by true e later =
        let inside : k < length ps = omega arith in
        absurd (false≢true (sym (or_first (list_any (bytes_eq p) ps) (has_twice ps) once) ∙ place_among ps p k inside (sym ((bytes_decides (text ps k) p).0 e))))

-- a name that is no port is connected to nothing
none_paired : (ports nets : List (List ℕ)) (name : List ℕ) → is_among ports name ≡ false → net_given (paired ports nets) name ≡ None
none_paired [] nets name e = refl
none_paired (p ∷ ps) [] name e = refl
none_paired (p ∷ ps) (t ∷ ts) name e =
    ap (λ (b : Bool). option_map (λ (c : Pair). c.value) (if b then Some record { name = p; value = t } else find (λ (c : Pair). bytes_eq name c.name) (paired ps ts))) (or_first (bytes_eq name p) (is_among ps name) e)
    ∙ none_paired ps ts name (or_second (bytes_eq name p) (is_among ps name) e)

none_named : (ports : List (List ℕ)) (pairs : List Pair) (name : List ℕ) → connects_ports ports pairs ≡ true → is_among ports name ≡ false → net_given pairs name ≡ None
none_named ports [] name all e = refl
none_named ports (c ∷ cs) name all e =
    ap (λ (b : Bool). option_map (λ (d : Pair). d.value) (if b then Some c else find (λ (d : Pair). bytes_eq name d.name) cs)) (other (bytes_eq name c.name) refl)
    ∙ none_named ports cs name (and_second (is_among ports c.name) (connects_ports ports cs) all) e
  where
    other : (b : Bool) → bytes_eq name c.name ≡ b → b ≡ false
    other false h = refl
    other true h = absurd (false≢true (sym e ∙ ap (is_among ports) ((bytes_decides name c.name).0 h) ∙ and_first (is_among ports c.name) (connects_ports ports cs) all))

none_given : (ports : List (List ℕ)) (given : Ports) (name : List ℕ) → ports_cause ports given ≡ None → is_among ports name ≡ false → net_given (connections_of ports given) name ≡ None
none_given ports (ByOrder nets) name fits e = none_paired ports nets name e
none_given ports (ByName pairs) name fits e = none_named ports pairs name (by (connects_ports ports pairs) fits) e
  where
    by : (b : Bool) → (if b then None else Some UnknownPort) ≡ None → b ≡ true
    by true h = refl
    by false h = absurd (let q : Some UnknownPort ≡ None = h in cc)

-- an instance fits the ports of its cell
pub fits_ports : (cells : List Cell) (x : InstCard) → instance_cause cells x ≡ None → ports_cause (unwrap_or (cell_named cells x.cell) no_cell).ports x.ports ≡ None
fits_ports cells x e = by (cell_named cells x.cell) e
  where
    by : (o : Option Cell) → cell_cause o x.ports ≡ None → ports_cause (unwrap_or o no_cell).ports x.ports ≡ None
    by None h = absurd (let q : cell_cause None x.ports ≡ None = h in cc)
    by (Some c) h = h

-- ## Nets

pub global_net : (globals : List (List ℕ)) (path : Path) (name : List ℕ) → is_among globals name ≡ true → net_of globals path name ≡ top_net name
unfolding net_of
global_net globals [] name e = refl
global_net globals (l ∷ up) name e = ap (λ (b : Bool). if b then top_net name else option_map_or (net_of globals up) (connected l name) (net_within (names_of (l ∷ up)) name)) e

-- the net of a port is that of what it stands for above
pub port_net : (globals : List (List ℕ)) (l : Link) (up : Path) (port : List ℕ)
    → net_of globals (l ∷ up) port ≡ option_map_or (net_of globals up) (stands_for globals (connected l port) port) (net_within (names_of (l ∷ up)) port)
unfolding net_of
port_net globals l up port = by (is_among globals port) refl
  where
    by : (b : Bool) → is_among globals port ≡ b
        → (if b then top_net port else option_map_or (net_of globals up) (connected l port) (net_within (names_of (l ∷ up)) port))
        ≡ option_map_or (net_of globals up) (if b then Some port else connected l port) (net_within (names_of (l ∷ up)) port)
    by true e = sym (global_net globals up port e)
    by false e = refl

-- the net of a name that is neither global nor a port
pub own_net : (globals ports : List (List ℕ)) (given : Ports) (own : List ℕ) (up : Path) (name : List ℕ) → ports_cause ports given ≡ None → is_among globals name ≡ false → is_among ports name ≡ false
    → net_of globals (record { name = own; connections = connections_of ports given } ∷ up) name ≡ net_within (names_of (record { name = own; connections = connections_of ports given } ∷ up)) name
own_net globals ports given own up name fits a b =
    let l : Link = record { name = own; connections = connections_of ports given } in
    port_net globals l up name
    ∙ ap (λ (o : Option (List ℕ)). option_map_or (net_of globals up) o (net_within (names_of (l ∷ up)) name))
    (ap (λ (c : Bool). if c then Some name else connected l name) a ∙ none_given ports given name fits b)

-- ## Places

pub pin_within : (names globals ports : List (List ℕ)) (count : ℕ) (name : List ℕ) (pin : Pin) → count ≡ length ports → IsPin names globals ports name pin → IsPinWithin count pin
pin_within names globals ports count name (pins.Global k) e h = tt
pin_within names globals ports count name (pins.Port k) e h = omega (arith, e, h.0)
pin_within names globals ports count name (pins.Own k) e h = tt

pub plan_within : (names globals ports : List (List ℕ)) (count : ℕ) (net : Option (List ℕ)) (port : List ℕ) (q : PortPlan) → count ≡ length ports → IsPortPlan names globals ports net port q → IsPlanWithin count q
plan_within names globals ports count net port (plans.Joined pin) e h = pin_within names globals ports count h.0 pin e h.2
plan_within names globals ports count net port (plans.LeftOut k) e h = tt
