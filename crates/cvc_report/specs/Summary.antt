-- The text of a survey: the seed and the size of the generated circuit, its counts, how many findings each rule has, and their number.
use Rattle.std.specs.Prelude.{ℕ, List, [], ◌∷◌, ◌++◌, codes, decimal}
use Rattle.std.specs.List.{flat_map}
use Rattle.cvc_base.specs.declared.finding.Finding.{Finding}
use Rattle.cvc_law.specs.Network.{Network}
use Rattle.cvc_law.specs.Rules.{all_rules}
use Rattle.cvc_text.specs.Lines.{line}
use Rattle.cvc_report.specs.Counts.{size_words, count_line, errors_line}

abbrev pub survey_line : ℕ → ℕ → List ℕ
survey_line seed size = line (codes "CVC" ∷ codes "survey" ∷ codes "seed" ∷ decimal seed ∷ codes "size" ∷ decimal size ∷ [])

unfoldable pub summary : ℕ → ℕ → Network → List Finding → List ℕ
summary seed size c found = survey_line seed size ++ line (size_words c) ++ flat_map (count_line found) all_rules ++ errors_line found
