-- Findings that are listed are of devices of the circuit, and a circuit that is bound has the devices of its flat list.
use Rattle.std.proofs.Common.{◌≡◌, ℕ, zero, suc, ◌<◌, List, [], ◌∷◌, length, map, Option, Some, None, sym, ap, subst, arith}
use Rattle.std.specs.Prelude.{slice_get, All}
use Rattle.std.specs.Option.{option_to_list}
use Rattle.std.specs.List.{flat_map}
use Rattle.std.proofs.lemmas.List.{length-map}
use Rattle.std.proofs.lemmas.List.Elements.{All-nil, All-cons, All-append, All-weaker}
use Rattle.cvc_base.specs.declared.device.Kind.{Kind}
use Rattle.cvc_base.specs.declared.device.Kind.TheVariants.{Nmos, Pmos, Resistor, Diode, Capacitor, Inductor, Bipolar}
use Rattle.cvc_base.specs.declared.rule.Rule.{Rule}
use Rattle.cvc_base.specs.declared.finding.Finding.{Finding}
use Rattle.cvc_flat.specs.Flat.{FlatDevice}
use Rattle.cvc_law.specs.declared.interval.Interval.{Interval}
use Rattle.cvc_law.specs.Network.{Network, devices, pins_of}
use Rattle.cvc_law.specs.Bound.{IsBound, pins_of_device}
use Rattle.cvc_law.specs.Rules.{Numbers, numbers_at, finding_with, finding_at, findings_below, findings_by, findings_of, all_rules}

abbrev IsBelow : ℕ → Finding → Type 0
IsBelow n x = x.device.0 < n

one_below : (rule : Rule) (i : ℕ) (o : Option Numbers) → All (IsBelow (suc i)) (option_to_list (finding_with rule i o))
one_below rule i None = All-nil (IsBelow (suc i))
one_below rule i (Some x) = All-cons (IsBelow (suc i)) _ [] (omega arith) (All-nil (IsBelow (suc i)))

all_below : (c : Network) (f : List Interval) (rule : Rule) (n : ℕ) → All (IsBelow n) (findings_below c f rule n)
all_below c f rule zero = All-nil (IsBelow 0)
all_below c f rule (suc n) =
    All-append (IsBelow (suc n)) (findings_below c f rule n) (option_to_list (finding_at c f rule n))
    (All-weaker (IsBelow n) (IsBelow (suc n)) (λ x h. omega (arith, h)) (findings_below c f rule n) (all_below c f rule n))
    (one_below rule n (numbers_at c f rule (slice_get c.devices n)))

by_rules : (c : Network) (f : List Interval) (rules : List Rule) → All (IsBelow (devices c)) (flat_map (findings_by c f) rules)
by_rules c f [] = All-nil (IsBelow (devices c))
by_rules c f (r ∷ rs) = All-append (IsBelow (devices c)) (findings_by c f r) (flat_map (findings_by c f) rs) (all_below c f r (devices c)) (by_rules c f rs)

pub of_devices : (c : Network) (f : List Interval) (found : List Finding) → found ≡ findings_of c f → All (λ x. x.device.0 < devices c) found
of_devices c f found e = subst (λ (l : List Finding). All (IsBelow (devices c)) l) (sym e) (by_rules c f all_rules)

-- each kind has a second pin
pub second_pin : (k : Kind) → 1 < pins_of k
second_pin Nmos = omega arith
second_pin Pmos = omega arith
second_pin Resistor = omega arith
second_pin Diode = omega arith
second_pin Capacitor = omega arith
second_pin Inductor = omega arith
second_pin Bipolar = omega arith

pub listed_device : (count : ℕ) (listed : List FlatDevice) (c : Network) (d : ℕ) → IsBound count (map (λ d. d.pins) listed) c → d < devices c → d < length listed
listed_device count listed c d bound lt =
    let same : length (map pins_of_device c.devices) ≡ length (map (λ (x : FlatDevice). x.pins) listed) = ap length bound.every_device in
    omega (arith, lt, same, length-map c.devices pins_of_device, length-map listed (λ (x : FlatDevice). x.pins))
