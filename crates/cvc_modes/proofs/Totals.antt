-- How many findings there are.
use Rattle.std.proofs.Common.{◌≡◌, ℕ, zero, suc, ◌+◌, ◌*◌, ◌≤◌, ◌<◌, List, [], ◌∷◌, ◌++◌, length, take, get_or, map, Option, Some, None, sym, ap, subst, ◌∙◌, arith, length-append}
use Rattle.std.specs.Option.{option_to_list}
use Rattle.std.specs.List.{flat_map}
use Rattle.std.proofs.lemmas.List.{take_more}
use Rattle.cvc_base.specs.declared.rule.Rule.{Rule}
use Rattle.cvc_judge.specs.declared.judged.Judged.{Judged}
use Rattle.cvc_law.specs.declared.interval.Interval.{Interval}
use Rattle.cvc_law.specs.Network.{Network, devices}
use Rattle.cvc_law.specs.Rules.{Numbers, all_rules, finding_at, finding_with, findings_below, findings_by, findings_of}
use Rattle.cvc_modes.specs.Text.{total}

one_at_most : {A : Type 0} (o : Option A) → length (option_to_list o) ≤ 1
one_at_most None = omega arith
one_at_most (Some x) = omega arith

below_few : (c : Network) (f : List Interval) (rule : Rule) (n : ℕ) → length (findings_below c f rule n) ≤ n
below_few c f rule zero = omega arith
below_few c f rule (suc n) = omega (arith, below_few c f rule n, one_at_most (finding_at c f rule n), length-append (findings_below c f rule n) (option_to_list (finding_at c f rule n)))

by_rules : (c : Network) (f : List Interval) (rules : List Rule) → length (flat_map (findings_by c f) rules) ≤ length rules * devices c
by_rules c f [] = omega arith
by_rules c f (r ∷ rs) = grind (arith, below_few c f r (devices c), by_rules c f rs, length-append (findings_by c f r) (flat_map (findings_by c f) rs))

-- at most one of each rule at each device
pub findings_are_few : (c : Network) (f : List Interval) → length (findings_of c f) ≤ 12 * devices c
findings_are_few c f = by_rules c f all_rules

total_append : (xs : List Judged) (j : Judged) → total (xs ++ j ∷ []) ≡ total xs + length j.findings
total_append [] j = omega arith
total_append (x ∷ xs) j = omega (arith, total_append xs j)

pub total_more : (js : List Judged) (i : ℕ) (j d : Judged) → j ≡ get_or js i d → i < length js → total (take (i + 1) js) ≡ total (take i js) + length j.findings
total_more js i j d is lt = ap total (take_more js i d lt) ∙ total_append (take i js) (get_or js i d) ∙ ap (λ (x : Judged). total (take i js) + length x.findings) (sym is)
