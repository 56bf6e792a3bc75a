-- The rules: where each holds of a device under a family of the circuit, and the numbers of its finding.
-- A difference counts only where its two bounds are known, and `found` is the greatest that counts. A number that a rule doesn't name is 0.
use Rattle.std.specs.Prelude.{ℕ, zero, suc, ℤ, pos, ◌+ℤ◌, ◌-ℤ◌, int_lt, List, [], ◌∷◌, ◌++◌, Option, Some, None, Bool, true, false, not, ◌&&◌, if◌then◌else◌, slice_get, is_none}
use Rattle.std.specs.Int.{int_min, int_max}
use Rattle.std.specs.Ordering.{int_eq}
use Rattle.std.specs.Option.{option_to_list}
use Rattle.std.specs.List.{flat_map}
use Rattle.cvc_base.specs.declared.device.Kind.{Kind}
use Rattle.cvc_base.specs.declared.device.Kind.TheVariants.{Nmos, Pmos, Resistor, Diode, Inductor}
use Rattle.cvc_base.specs.declared.device.Volts.{Volts}
use Rattle.cvc_base.specs.declared.rule.Rule.{Rule}
use Rattle.cvc_base.specs.declared.rule.Rule.TheVariants.{OvervoltageGs, OvervoltageGd, OvervoltageDs, OvervoltageBs, OvervoltageBd, OvervoltageBg, ForwardBias, SourceBulk, PossibleLeak, SupplyPath, FloatingGate, SureLeak}
use Rattle.cvc_base.specs.declared.finding.Finding.{Finding}
use Rattle.cvc_law.specs.declared.interval.Interval.{Interval}
use Rattle.cvc_law.specs.declared.interval.Fixed.{Fixed}
use Rattle.cvc_law.specs.declared.device.Device.{Device}
use Rattle.cvc_law.specs.Network.{Network, devices, end_a, end_b, gate, bulk, is_mos, fixed_at}
use Rattle.cvc_law.specs.Family.{interval_at}

-- the numbers of a finding
pub record Numbers : Type 0 where
  pub first : ℤ
  pub second : ℤ
  pub third : ℤ
  pub fourth : ℤ

abbrev pub two_numbers : ℤ → ℤ → Numbers
two_numbers x y = record { first = x; second = y; third = pos 0; fourth = pos 0 }

abbrev pub no_numbers : Numbers
no_numbers = two_numbers (pos 0) (pos 0)

-- how far a high lies above a low, where both are known
abbrev pub difference : Option ℤ → Option ℤ → Option ℤ
difference (Some high) (Some low) = Some (high -ℤ low)
difference _ _ = None

-- the greater of those that count
abbrev pub greater_of : Option ℤ → Option ℤ → Option ℤ
greater_of (Some x) (Some y) = Some (int_max x y)
greater_of (Some x) None = Some x
greater_of None y = y

-- the lesser of those that are known
abbrev pub lesser_of : Option ℤ → Option ℤ → Option ℤ
lesser_of (Some x) (Some y) = Some (int_min x y)
lesser_of (Some x) None = Some x
lesser_of None y = y

-- the limit and what was found, where that exceeds the limit
abbrev pub exceeding : Option ℤ → Option ℤ → Option Numbers
exceeding (Some limit) (Some found) = if int_lt limit found then Some (two_numbers limit found) else None
exceeding _ _ = None

-- how far two nets can be apart, either way round
abbrev pub spread : Interval → Interval → Option ℤ
spread x y = greater_of (difference x.high y.low) (difference y.high x.low)

-- two pins of a MOS can be further apart than its limit for them
abbrev pub overvoltage : Device → Option ℤ → Interval → Interval → Option Numbers
overvoltage d limit x y = if is_mos d.kind then exceeding limit (spread x y) else None

abbrev pub forward_bias : Kind → Volts → Interval → Interval → Option Numbers
forward_bias Diode v a b = exceeding (Some v.drop) (difference a.high b.low)
forward_bias _ v a b = None

-- the bulk of an nmos above an end, or an end of a pmos above the bulk, by more than the junction bears
abbrev pub source_bulk : Kind → Volts → Interval → Interval → Interval → Option Numbers
source_bulk Nmos v bulk source drain = exceeding (Some v.junction) (greater_of (difference bulk.high source.low) (difference bulk.high drain.low))
source_bulk Pmos v bulk source drain = exceeding (Some v.junction) (greater_of (difference source.high bulk.low) (difference drain.high bulk.low))
source_bulk _ v bulk source drain = None

-- both are known and different
abbrev pub differ : Option ℤ → Option ℤ → Bool
differ (Some x) (Some y) = not (int_eq x y)
differ _ _ = false

-- at this threshold the lowest gate doesn't turn an nmos off at its channel's low, or the highest doesn't turn a pmos off at its channel's high
abbrev pub stays_on : Kind → ℤ → ℤ → ℤ → ℤ → ℤ → Bool
stays_on Nmos threshold gate_low gate_high channel_low channel_high = int_lt channel_low (gate_low -ℤ threshold)
stays_on Pmos threshold gate_low gate_high channel_low channel_high = int_lt (gate_high +ℤ threshold) channel_high
stays_on _ threshold gate_low gate_high channel_low channel_high = false

-- the gate's low and high, and the channel's
abbrev pub leak_of : Kind → ℤ → Option ℤ → Option ℤ → Option ℤ → Option ℤ → Option Numbers
leak_of k threshold (Some gl) (Some gh) (Some cl) (Some ch) = if differ (Some gl) (Some gh) && differ (Some cl) (Some ch) && stays_on k threshold gl gh cl ch then Some record { first = gl; second = gh; third = cl; fourth = ch } else None
leak_of k threshold _ _ _ _ = None

-- a MOS that may leak at this threshold
abbrev pub leak_at : Device → ℤ → Interval → Interval → Interval → Option Numbers
leak_at d threshold gate drain source = leak_of d.kind threshold gate.low gate.high (lesser_of drain.low source.low) (greater_of drain.high source.high)

-- at the corner that conducts most
abbrev pub possible_leak : Device → Interval → Interval → Interval → Option Numbers
possible_leak d gate drain source = leak_at d d.volts.threshold gate drain source

-- at the corner that conducts least, of a model whose corners differ
abbrev pub sure_leak : Device → Interval → Interval → Interval → Option Numbers
sure_leak d gate drain source = if int_eq d.volts.threshold d.volts.weak then None else leak_at d d.volts.weak gate drain source

abbrev pub is_path : Kind → Bool
is_path Resistor = true
is_path Inductor = true
is_path _ = false

-- a resistor or an inductor between two declared nets that differ
abbrev pub path_between : Option Fixed → Option Fixed → Option Numbers
path_between (Some a) (Some b) = if int_eq a.low b.low && int_eq a.high b.high then None else Some record { first = a.low; second = a.high; third = b.low; fourth = b.high }
path_between _ _ = None

abbrev pub supply_path : Network → Device → Option Numbers
supply_path c d = if is_path d.kind then path_between (fixed_at c (end_a d)) (fixed_at c (end_b d)) else None

-- neither bound is known
abbrev pub floats : Interval → Bool
floats i = is_none i.low && is_none i.high

abbrev pub floating_gate : Device → Interval → Option Numbers
floating_gate d gate = if is_mos d.kind && floats gate then Some no_numbers else None

-- where the rule holds of the device, the numbers of its finding
abbrev pub holds : Network → List Interval → Device → Rule → Option Numbers
holds c f d OvervoltageGs = overvoltage d d.volts.vgs (interval_at f (gate d)) (interval_at f (end_b d))
holds c f d OvervoltageGd = overvoltage d d.volts.vgd (interval_at f (gate d)) (interval_at f (end_a d))
holds c f d OvervoltageDs = overvoltage d d.volts.vds (interval_at f (end_a d)) (interval_at f (end_b d))
holds c f d OvervoltageBs = overvoltage d d.volts.vbs (interval_at f (bulk d)) (interval_at f (end_b d))
holds c f d OvervoltageBd = overvoltage d d.volts.vbd (interval_at f (bulk d)) (interval_at f (end_a d))
holds c f d OvervoltageBg = overvoltage d d.volts.vbg (interval_at f (bulk d)) (interval_at f (gate d))
holds c f d ForwardBias = forward_bias d.kind d.volts (interval_at f (end_a d)) (interval_at f (end_b d))
holds c f d SourceBulk = source_bulk d.kind d.volts (interval_at f (bulk d)) (interval_at f (end_b d)) (interval_at f (end_a d))
holds c f d PossibleLeak = possible_leak d (interval_at f (gate d)) (interval_at f (end_a d)) (interval_at f (end_b d))
holds c f d SupplyPath = supply_path c d
holds c f d FloatingGate = floating_gate d (interval_at f (gate d))
holds c f d SureLeak = sure_leak d (interval_at f (gate d)) (interval_at f (end_a d)) (interval_at f (end_b d))

abbrev pub finding_with : Rule → ℕ → Option Numbers → Option Finding
finding_with rule i None = None
finding_with rule i (Some n) = Some record { rule = rule; device = record { 0 = i }; first = n.first; second = n.second; third = n.third; fourth = n.fourth }

abbrev pub numbers_at : Network → List Interval → Rule → Option Device → Option Numbers
numbers_at c f rule None = None
numbers_at c f rule (Some d) = holds c f d rule

-- the finding of a rule at a device, by its number
abbrev pub finding_at : Network → List Interval → Rule → ℕ → Option Finding
finding_at c f rule i = finding_with rule i (numbers_at c f rule (slice_get c.devices i))

-- the findings of a rule at the devices below a number, in their order
abbrev pub findings_below : Network → List Interval → Rule → ℕ → List Finding
findings_below c f rule zero = []
findings_below c f rule (suc i) = findings_below c f rule i ++ option_to_list (finding_at c f rule i)

abbrev pub findings_by : Network → List Interval → Rule → List Finding
findings_by c f rule = findings_below c f rule (devices c)

-- the rules about voltages between pins, in the report's order
abbrev pub bias_rules : List Rule
bias_rules = OvervoltageGs ∷ OvervoltageGd ∷ OvervoltageDs ∷ OvervoltageBs ∷ OvervoltageBd ∷ OvervoltageBg ∷ ForwardBias ∷ SourceBulk ∷ []

-- the rules about leaks, paths between supplies and gates that nothing drives, which come after them
abbrev pub leak_rules : List Rule
leak_rules = PossibleLeak ∷ SupplyPath ∷ FloatingGate ∷ SureLeak ∷ []

abbrev pub all_rules : List Rule
all_rules = bias_rules ++ leak_rules

-- all findings: by rule, and of one rule by device
abbrev pub findings_of : Network → List Interval → List Finding
findings_of c f = flat_map (findings_by c f) all_rules
