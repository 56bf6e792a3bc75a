-- A device stands in the fan of each net that it reads.
use Rattle.std.proofs.Common.{◌≡◌, ℕ, zero, suc, ◌+◌, ◌/◌, ◌<◌, Bool, true, false, cond, List, [], ◌∷◌, length, arith, refl}
use Rattle.std.proofs.lemmas.Bool.Decides.{nat_tests}
use Rattle.std.specs.Prelude.{slice_index, slice_index_or, nat_lt}
use Rattle.cvc_base.specs.declared.device.Kind.{Kind}
use Rattle.cvc_base.specs.declared.device.Kind.TheVariants.{Nmos, Pmos, Resistor, Diode, Capacitor, Inductor, Bipolar}
use Rattle.cvc_base.specs.declared.device.Volts.{Volts}
use Rattle.cvc_law.specs.declared.device.Device.{Device}
use Rattle.cvc_law.specs.Conduction.{target}
use Rattle.cvc_law.specs.Network.{Network, devices, end_a, end_b, is_mos, conducts, touches, touching_from, fan_of}
use Rattle.cvc_law.specs.Reach.{device_at, no_device, needs, end_net, reach_given, hands_on, widest}

module _ (n : ℕ) where
  abbrev listed : Bool → ℕ → List ℕ → List ℕ
  listed b i rest = cond b (i ∷ rest) rest

  has_from : (first i : ℕ) (ds : List Device) → i < length ds → touches n (slice_index_or ds i no_device) ≡ true
      → (j : ℕ) × (j < length (touching_from n first ds)) × (slice_index (touching_from n first ds) j ≡ first + i)
  has_from first i [] lt t = absurd (omega arith)
  has_from first zero (d ∷ ds) lt t = rw t (0, omega arith, omega arith)
  has_from first (suc i) (d ∷ ds) lt t = let found = has_from (first + 1) i ds (omega arith) t in
      elim (touches n d) as (λ b. (j : ℕ) × (j < length (listed b first (touching_from n (first + 1) ds))) × (slice_index (listed b first (touching_from n (first + 1) ds)) j ≡ first + suc i)) [
        | true ↦ (suc found.0, omega arith, omega arith)
        | false ↦ (found.0, found.1, omega arith)
      ]

  at_or_after : (first j m : ℕ) (rest : List ℕ) → ((l : ℕ) → l < length rest → slice_index rest l < first + suc m) → j < suc (length rest) → slice_index (first ∷ rest) j < first + suc m
  at_or_after first zero m rest later h = omega arith
  at_or_after first (suc j) m rest later h = later j (omega arith)

  within_from : (first j : ℕ) (ds : List Device) → j < length (touching_from n first ds) → slice_index (touching_from n first ds) j < first + length ds
  within_from first j [] lt = absurd (omega arith)
  within_from first j (d ∷ ds) lt =
      let later : (l : ℕ) → l < length (touching_from n (first + 1) ds) → slice_index (touching_from n (first + 1) ds) l < first + suc (length ds) = λ l h. let fact : slice_index (touching_from n (first + 1) ds) l < first + 1 + length ds = within_from (first + 1) l ds h in omega arith in
      elim (touches n d) as (λ b. j < length (listed b first (touching_from n (first + 1) ds)) → slice_index (listed b first (touching_from n (first + 1) ds)) j < first + suc (length ds)) [
        | true ↦ at_or_after first j (length ds) (touching_from n (first + 1) ds) later
        | false ↦ later j
      ] lt

pub fan_has : (c : Network) (n i : ℕ) → i < devices c → touches n (device_at c i) ≡ true → (j : ℕ) × (j < length (fan_of c n)) × (slice_index (fan_of c n) j ≡ i)
fan_has c n i lt t = let found = has_from n 0 i c.devices lt t in (found.0, found.1, omega arith)

pub fan_within : (c : Network) (n j : ℕ) → j < length (fan_of c n) → slice_index (fan_of c n) j < devices c
fan_within c n j lt = let found = within_from n 0 j c.devices lt in omega arith

touches_net : (d : Device) (p : ℕ) → conducts d.kind ≡ true → (1 < p → is_mos d.kind ≡ true) → touches (end_net d p) d ≡ true
touches_net d zero h g = grind (arith, nat_tests)
touches_net d (suc zero) h g = grind (arith, nat_tests)
touches_net d (suc (suc p)) h g = let mos : is_mos d.kind ≡ true = g (omega arith) in grind (arith, nat_tests)

needs_net : (kind : Kind) (i : ℕ) → needs kind i ≡ true → (conducts kind ≡ true) × (1 < i / 2 → is_mos kind ≡ true)
needs_net Nmos i h = (refl, λ _. refl)
needs_net Pmos i h = (refl, λ _. refl)
needs_net Resistor i h = (refl, λ g. grind (arith, nat_tests))
needs_net Inductor i h = (refl, λ g. grind (arith, nat_tests))
needs_net Diode i h = (refl, λ g. grind (arith, nat_tests))
needs_net Capacitor i h = grind (arith, nat_tests)
needs_net Bipolar i h = grind (arith, nat_tests)

-- a device reads the net of each read that it needs
pub touches_needed : (d : Device) (i : ℕ) → needs d.kind i ≡ true → touches (end_net d (i / 2)) d ≡ true
touches_needed d i h = let both = needs_net d.kind i h in touches_net d (i / 2) both.0 both.1

hands_conducts : (kind : Kind) (v : Volts) (room k : ℕ) (r : ℕ → ℕ) → 0 < hands_on kind v room k r → conducts kind ≡ true
hands_conducts Nmos v room k r h = refl
hands_conducts Pmos v room k r h = refl
hands_conducts Resistor v room k r h = refl
hands_conducts Inductor v room k r h = refl
hands_conducts Diode v room k r h = refl
hands_conducts Capacitor v room k r h = absurd (omega arith)
hands_conducts Bipolar v room k r h = absurd (omega arith)

target_end : (d : Device) (k : ℕ) → conducts d.kind ≡ true → touches (target d k) d ≡ true
target_end d k h = elim (nat_lt k 2) as (λ b. touches (cond b (end_b d) (end_a d)) d ≡ true) [
  | true ↦ touches_net d 1 h (λ g. absurd (omega arith))
  | false ↦ touches_net d 0 h (λ g. absurd (omega arith))
]

-- a device that gives a net something reads that net too
pub touches_given : (c : Network) (d : Device) (k : ℕ) (r : ℕ → ℕ) → 0 < reach_given c d k r → touches (target d k) d ≡ true
unfolding reach_given
touches_given c d k r h = target_end d k (hands_conducts d.kind d.volts (widest c) k r h)
