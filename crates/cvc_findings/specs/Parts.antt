-- The devices cut into ranges of one length, for threads to share, and what may be found in each range: a list for each rule.
use Rattle.std.specs.Prelude.{ℕ, ◌+◌, ◌*◌, ◌/◌, min, List, Option, Result, IfOk}
use Rattle.std.specs.List.{AllZip, range_with_len}
use Rattle.cvc_base.specs.declared.ids.NoMemory.{NoMemory}
use Rattle.cvc_base.specs.declared.rule.Rule.{Rule}
use Rattle.cvc_base.specs.declared.finding.Finding.{Finding}
use Rattle.cvc_findings.specs.declared.part.TheConstants.{RANGE}
use Rattle.cvc_findings.specs.Listed.{IsFound}

-- where a range of so many devices begins; the one before ends there
abbrev pub boundary : ℕ → ℕ → ℕ
boundary count k = min (k * RANGE) count

-- what is found in a range, in the order of the rules
abbrev pub IsPart : (Rule → ℕ → Option Finding) → List Rule → ℕ → ℕ → List (List Finding) → Type 0
IsPart finds rules count k lists = AllZip (λ rule list. IsFound (finds rule) (boundary count k) (boundary count (k + 1)) list) rules lists

-- what is found in each range, in order, where there was memory
abbrev pub AreParts : (Rule → ℕ → Option Finding) → List Rule → ℕ → List (Result (List (List Finding)) NoMemory) → Type 0
AreParts finds rules count parts = AllZip (λ k part. IfOk part (IsPart finds rules count k)) (range_with_len 0 (count / RANGE + 1)) parts
