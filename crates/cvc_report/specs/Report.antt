-- The text of a report: a header, the top and the sizes, a line for each net where they are asked for, a line for each finding, and their number.
-- A declared net is printed with the bounds that the circuit declares, and any other net with those of the family.
use Rattle.std.specs.Prelude.{ℕ, zero, suc, List, [], ◌∷◌, ◌++◌, Option, Some, None, Bool, true, false, codes, slice_get}
use Rattle.std.specs.Fmt.{signed_decimal}
use Rattle.std.specs.List.{flat_map}
use Rattle.cvc_base.specs.declared.rule.Rule.{Rule}
use Rattle.cvc_base.specs.declared.rule.Rule.TheVariants.{PossibleLeak, SupplyPath, FloatingGate, SureLeak}
use Rattle.cvc_base.specs.declared.finding.Finding.{Finding}
use Rattle.cvc_flat.specs.Flat.{FlatList}
use Rattle.cvc_flat.specs.FindNet.{printed_net}
use Rattle.cvc_flat.specs.Held.{device, net, printed_device}
use Rattle.cvc_law.specs.declared.interval.Interval.{Interval}
use Rattle.cvc_law.specs.declared.interval.Fixed.{Fixed}
use Rattle.cvc_law.specs.declared.device.Device.{Device}
use Rattle.cvc_law.specs.Network.{Network, nets, fixed_at, gate}
use Rattle.cvc_law.specs.Family.{interval_at}
use Rattle.cvc_law.specs.Rules.{findings_of}
use Rattle.cvc_text.specs.Lines.{line}
use Rattle.cvc_text.specs.Printed.{bound_text}
use Rattle.cvc_report.specs.Printed.{rule_word}
use Rattle.cvc_report.specs.Counts.{size_words, errors_line}

-- the main level has no name
abbrev pub top_word : Option (List ℕ) → List ℕ
top_word None = codes "-"
top_word (Some name) = name

abbrev pub top_line : Network → FlatList → List ℕ
top_line c f = line (codes "top" ∷ top_word f.top ∷ size_words c)

-- ## Nets

-- what stands behind the name of a net
abbrev pub net_words : Option Fixed → Interval → List (List ℕ)
net_words (Some w) i = codes "declared" ∷ signed_decimal w.low ∷ signed_decimal w.high ∷ []
net_words None i = bound_text i.low ∷ bound_text i.high ∷ []

abbrev pub net_line : Network → FlatList → List Interval → ℕ → List ℕ
net_line c f v n = line (codes "net" ∷ printed_net (net f n) ∷ net_words (fixed_at c n) (interval_at v n))

-- the lines of the nets below a number, in their order
abbrev pub net_lines_below : Network → FlatList → List Interval → ℕ → List ℕ
net_lines_below c f v zero = []
net_lines_below c f v (suc n) = net_lines_below c f v n ++ net_line c f v n

abbrev pub net_lines : Network → FlatList → List Interval → Bool → List ℕ
net_lines c f v true = net_lines_below c f v (nets c)
net_lines c f v false = []

-- ## Findings

-- the number of the net at the gate of a device
abbrev pub gate_of : Option Device → ℕ
gate_of None = 0
gate_of (Some d) = gate d

-- the gate's bounds and the channel's
abbrev pub leak_words : Finding → List (List ℕ)
leak_words x = codes "gate" ∷ signed_decimal x.first ∷ signed_decimal x.second ∷ codes "channel" ∷ signed_decimal x.third ∷ signed_decimal x.fourth ∷ []

-- the declared bounds of both ends
abbrev pub path_words : Finding → List (List ℕ)
path_words x = codes "ends" ∷ signed_decimal x.first ∷ signed_decimal x.second ∷ signed_decimal x.third ∷ signed_decimal x.fourth ∷ []

abbrev pub limit_words : Finding → List (List ℕ)
limit_words x = codes "limit" ∷ signed_decimal x.first ∷ codes "found" ∷ signed_decimal x.second ∷ []

-- what stands behind the rule, the device and its model, where the net at its gate has this name
abbrev pub details_with : List ℕ → Finding → Rule → List (List ℕ)
details_with gate x PossibleLeak = leak_words x
details_with gate x SureLeak = leak_words x
details_with gate x SupplyPath = path_words x
details_with gate x FloatingGate = codes "net" ∷ gate ∷ []
details_with gate x _ = limit_words x

abbrev pub details : Network → FlatList → Finding → Rule → List (List ℕ)
details c f x rule = details_with (printed_net (net f (gate_of (slice_get c.devices x.device.0)))) x rule

abbrev pub finding_line : Network → FlatList → Finding → List ℕ
finding_line c f x = line (rule_word x.rule ∷ printed_device (device f x.device.0) ∷ (device f x.device.0).model ∷ details c f x x.rule)

-- ## The report

-- with these findings
unfoldable pub report_with : Network → FlatList → List Interval → Bool → List Finding → List ℕ
report_with c f v with_nets found = line (codes "CVC report" ∷ []) ++ top_line c f ++ net_lines c f v with_nets ++ flat_map (finding_line c f) found ++ errors_line found

abbrev pub report : Network → FlatList → List Interval → Bool → List ℕ
report c f v with_nets = report_with c f v with_nets (findings_of c v)
