-- Counts that are printed: the devices, nets and declared nets of a circuit, and the findings of each rule and of all.
use Rattle.std.specs.Prelude.{ℕ, List, [], ◌∷◌, ◌==◌, Bool, length, count_by, is_some, codes, decimal}
use Rattle.cvc_base.specs.declared.rule.Rule.{Rule}
use Rattle.cvc_base.specs.declared.rule.Rule.TheVariants.{OvervoltageGs, OvervoltageGd, OvervoltageDs, OvervoltageBs, OvervoltageBd, OvervoltageBg, ForwardBias, SourceBulk, PossibleLeak, SupplyPath, FloatingGate, SureLeak}
use Rattle.cvc_base.specs.declared.finding.Finding.{Finding}
use Rattle.cvc_law.specs.Network.{Network, nets, devices}
use Rattle.cvc_text.specs.Lines.{line}
use Rattle.cvc_report.specs.Printed.{rule_word}

abbrev pub declared_count : Network → ℕ
declared_count c = count_by is_some c.fixed

-- devices, nets and declared nets
abbrev pub size_words : Network → List (List ℕ)
size_words c = codes "devices" ∷ decimal (devices c) ∷ codes "nets" ∷ decimal (nets c) ∷ codes "declared" ∷ decimal (declared_count c) ∷ []

-- the place of a rule in the order of the report, from 1
abbrev pub rule_number : Rule → ℕ
rule_number OvervoltageGs = 1
rule_number OvervoltageGd = 2
rule_number OvervoltageDs = 3
rule_number OvervoltageBs = 4
rule_number OvervoltageBd = 5
rule_number OvervoltageBg = 6
rule_number ForwardBias = 7
rule_number SourceBulk = 8
rule_number PossibleLeak = 9
rule_number SupplyPath = 10
rule_number FloatingGate = 11
rule_number SureLeak = 12

abbrev pub is_of_rule : Rule → Finding → Bool
is_of_rule rule x = rule_number x.rule == rule_number rule

-- the line of a rule with the number of its findings
abbrev pub count_line : List Finding → Rule → List ℕ
count_line found rule = line (rule_word rule ∷ decimal (count_by (is_of_rule rule) found) ∷ [])

abbrev pub errors_line : List Finding → List ℕ
errors_line found = line (codes "errors" ∷ decimal (length found) ∷ [])
