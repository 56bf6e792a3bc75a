-- The findings of a set of rules: by rule, and of one rule by device.
-- A rule is given by what it finds at each device, by the device's number.
use Rattle.std.specs.Prelude.{ℕ, zero, suc, ◌≡◌, List, [], ◌++◌, Option}
use Rattle.std.specs.List.{flat_map}
use Rattle.std.specs.Option.{option_to_list}
use Rattle.cvc_base.specs.declared.rule.Rule.{Rule}
use Rattle.cvc_base.specs.declared.finding.Finding.{Finding}

-- what is found at the devices below a number, in their order
abbrev pub found_below : (ℕ → Option Finding) → ℕ → List Finding
found_below finds zero = []
found_below finds (suc i) = found_below finds i ++ option_to_list (finds i)

-- what is found at the devices from one number up to another, in their order
abbrev pub IsFound : (ℕ → Option Finding) → ℕ → ℕ → List Finding → Type 0
IsFound finds start end found = found_below finds start ++ found ≡ found_below finds end

-- what the rules find at so many devices
abbrev pub listed : (Rule → ℕ → Option Finding) → ℕ → List Rule → List Finding
listed finds count = flat_map (λ rule. found_below (finds rule) count)
