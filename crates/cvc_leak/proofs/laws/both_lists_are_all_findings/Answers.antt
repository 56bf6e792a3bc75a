use Rattle.std.proofs.lemmas.Grind.{flat_map-append}
use Rattle.cvc_law.specs.Rules.{findings_by, bias_rules, leak_rules}
use Rattle.cvc_leak.proofs.laws.both_lists_are_all_findings.Goals as goal

pub returns : goal.returns
returns c = λ n f. flat_map-append (findings_by n f) bias_rules leak_rules
