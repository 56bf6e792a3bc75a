-- Two families that are within each other are one list, so there is at most one least family.
use Rattle.std.proofs.Common.{◌≡◌, ◌<◌, Option, Some, None, List, length, arith, refl, sym, ap, ◌∙◌}
use Rattle.std.proofs.lemmas.Int.{ints}
use Rattle.std.proofs.lemmas.List.{same_lists, get_or_default}
use Rattle.std.specs.Prelude.{ℤ, ◌≤ℤ◌, IfSome, IsSomeAnd}
use Rattle.cvc_law.specs.declared.interval.Interval.{Interval}
use Rattle.cvc_law.specs.Network.{Network, IsCircuit}
use Rattle.cvc_law.specs.Family.{unknown, interval_at, IsFamily, IsWithin}
use Rattle.cvc_law.specs.Least.{IsClosed, IsLeast}
use Rattle.cvc_law.specs.ReachLeast.{intervals}
use Rattle.cvc_law.proofs.ReachAgree.{least_intervals}
use Rattle.cvc_law.proofs.LawsExist.{reach_least_exists}

same_low : (a b : Option ℤ) → IfSome a (λ x. IsSomeAnd b (λ y. y ≤ℤ x)) → IfSome b (λ x. IsSomeAnd a (λ y. y ≤ℤ x)) → a ≡ b
same_low None None h g = refl
same_low None (Some y) h g = absurd g
same_low (Some x) None h g = absurd h
same_low (Some x) (Some y) h g = ap (λ (z : ℤ). Some z) (omega (arith, ints))

same_high : (a b : Option ℤ) → IfSome a (λ x. IsSomeAnd b (λ y. x ≤ℤ y)) → IfSome b (λ x. IsSomeAnd a (λ y. x ≤ℤ y)) → a ≡ b
same_high None None h g = refl
same_high None (Some y) h g = absurd g
same_high (Some x) None h g = absurd h
same_high (Some x) (Some y) h g = ap (λ (z : ℤ). Some z) (omega (arith, ints))

same_interval : (i j : Interval) → i.low ≡ j.low → i.high ≡ j.high → i ≡ j
same_interval i j p q = λ t. record { low = p t; high = q t }

pub within_both : (c : Network) (f g : List Interval) → IsFamily c f → IsFamily c g → IsWithin f g → IsWithin g f → f ≡ g
within_both c f g one two there back = same_lists f g (one.every_net ∙ sym two.every_net) (λ n d lt.
    let same : interval_at f n ≡ interval_at g n = same_interval (interval_at f n) (interval_at g n) (same_low (interval_at f n).low (interval_at g n).low (there.low n) (back.low n)) (same_high (interval_at f n).high (interval_at g n).high (there.high n) (back.high n)) in
    let inside : n < length g = omega (arith, one.every_net, two.every_net) in
    get_or_default f n d unknown lt ∙ (same ∙ get_or_default g n unknown d inside))

-- a closed family within the least one is the least one
pub closed_within : (c : Network) (f g : List Interval) → IsLeast c f → IsFamily c g → IsClosed c g → IsWithin g f → g ≡ f
closed_within c f g least family closed within = within_both c g f family least.family within (least.least g family closed)

pub exactly_one : (c : Network) → IsCircuit c.fixed c.devices → (f : List Interval) × IsLeast c f × ((g : List Interval) → IsLeast c g → g ≡ f)
exactly_one c circuit = let found = reach_least_exists c circuit in let least = least_intervals c circuit found.0 found.1 in
    (intervals c found.0, least, λ g other. closed_within c (intervals c found.0) g least other.family other.closed (other.least (intervals c found.0) least.family least.closed))
