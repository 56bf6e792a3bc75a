-- The words for files and rules.
use Rattle.std.specs.Prelude.{ℕ, List, codes}
use Rattle.cvc_base.specs.declared.fault.FileKind.{FileKind}
use Rattle.cvc_base.specs.declared.fault.FileKind.TheVariants.{Netlist, Models, Power}
use Rattle.cvc_base.specs.declared.rule.Rule.{Rule}
use Rattle.cvc_base.specs.declared.rule.Rule.TheVariants.{OvervoltageGs, OvervoltageGd, OvervoltageDs, OvervoltageBs, OvervoltageBd, OvervoltageBg, ForwardBias, SourceBulk, PossibleLeak, SupplyPath, FloatingGate, SureLeak}

abbrev pub file_word : FileKind → List ℕ
file_word Netlist = codes "netlist"
file_word Models = codes "models"
file_word Power = codes "power"

abbrev pub rule_word : Rule → List ℕ
rule_word OvervoltageGs = codes "overvoltage-gs"
rule_word OvervoltageGd = codes "overvoltage-gd"
rule_word OvervoltageDs = codes "overvoltage-ds"
rule_word OvervoltageBs = codes "overvoltage-bs"
rule_word OvervoltageBd = codes "overvoltage-bd"
rule_word OvervoltageBg = codes "overvoltage-bg"
rule_word ForwardBias = codes "forward-bias"
rule_word SourceBulk = codes "source-bulk"
rule_word PossibleLeak = codes "possible-leak"
rule_word SupplyPath = codes "supply-path"
rule_word FloatingGate = codes "floating-gate"
rule_word SureLeak = codes "sure-leak"
