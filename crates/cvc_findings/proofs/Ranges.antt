-- What is found in ranges that follow each other.
use Rattle.std.proofs.Common.{◌≡◌, ℕ, ◌+◌, ◌<◌, List, [], ◌++◌, length, take, get_or, sym, ap, ◌∙◌, append_assoc, add-one}
use Rattle.std.specs.Prelude.{Option}
use Rattle.std.specs.Option.{option_to_list}
use Rattle.std.specs.List.{flat_map}
use Rattle.std.proofs.lemmas.List.{flat_map_more, take_more}
use Rattle.cvc_base.specs.declared.rule.Rule.{Rule}
use Rattle.cvc_base.specs.declared.finding.Finding.{Finding}
use Rattle.cvc_findings.specs.Listed.{found_below, listed, IsFound}

-- one device more
pub one_more : (finds : ℕ → Option Finding) (start i : ℕ) (xs ys : List Finding) → IsFound finds start i xs → ys ≡ xs ++ option_to_list (finds i) → IsFound finds start (i + 1) ys
one_more finds start i xs ys so_far more =
    ap (λ (l : List Finding). found_below finds start ++ l) more ∙ sym (append_assoc (found_below finds start) xs (option_to_list (finds i)))
    ∙ ap (λ (l : List Finding). l ++ option_to_list (finds i)) so_far ∙ ap (found_below finds) (sym (add-one i))

-- one range more
pub next_range : (finds : ℕ → Option Finding) (start end : ℕ) (before xs ys zs : List Finding) → xs ≡ before ++ found_below finds start → IsFound finds start end ys → zs ≡ xs ++ ys → zs ≡ before ++ found_below finds end
next_range finds start end before xs ys zs so_far range both =
    both ∙ ap (λ (l : List Finding). l ++ ys) so_far ∙ append_assoc before (found_below finds start) ys ∙ ap (λ (l : List Finding). before ++ l) range

-- one rule more
pub next_rule : (finds : Rule → ℕ → Option Finding) (count k : ℕ) (rules : List Rule) (d : Rule) (xs zs : List Finding) → k < length rules → xs ≡ listed finds count (take k rules) → zs ≡ xs ++ found_below (finds (get_or rules k d)) count → zs ≡ listed finds count (take (k + 1) rules)
next_rule finds count k rules d xs zs inside so_far more =
    let f = λ (rule : Rule). found_below (finds rule) count in
    let rule = get_or rules k d in
    more ∙ ap (λ (l : List Finding). l ++ f rule) so_far ∙ flat_map_more f [] (take k rules) rule ∙ ap (flat_map f) (sym (take_more rules k d inside))
