-- One bound of a family widened: it stays a family and within what the family was within, the sum of its reaches grows, and a device that doesn't read the net stays closed.
use Rattle.std.proofs.Common.{◌≡◌, ◌≢◌, ℕ, zero, suc, ◌+◌, ◌/◌, ◌<◌, ◌≤◌, true, false, List, [], ◌∷◌, length, ◌⊎◌, inl, inr, arith, sym, ap, ◌∙◌}
use Rattle.std.proofs.lemmas.Bool.{cases_order, false≢true}
use Rattle.std.proofs.lemmas.List.{length-set, get_or-set_other}
use Rattle.std.proofs.lemmas.Grind.{get_or-set_at}
use Rattle.std.specs.Prelude.{slice_index, slice_set}
use Rattle.cvc_law.specs.declared.device.Device.{Device}
use Rattle.cvc_law.specs.Network.{Network, is_declared, touches}
use Rattle.cvc_law.specs.Conduction.{target}
use Rattle.cvc_law.specs.Reach.{widest, is_declared_bound, end_net, needs, read_place, target_place, reach_given, reach_reads}
use Rattle.cvc_law.specs.ReachLeast.{IsReachFamily, IsReachWithin, IsReachClosedAt}
use Rattle.cvc_law.proofs.ReachGiving.{gives_needed}
use Rattle.cvc_law.proofs.ReachFans.{touches_needed}

pub dec_eq : (a b : ℕ) → (a ≡ b) ⊎ (a ≢ b)
dec_eq a b = elim (cases_order a b) [
  | inl same ↦ inl same
  | inr (inl less) ↦ inr (λ e. omega arith)
  | inr (inr more) ↦ inr (λ e. omega arith)
]

pub set_at_most : (f : List ℕ) (t y w : ℕ) → t < length f → ((b : ℕ) → slice_index f b ≤ w) → y ≤ w → (b : ℕ) → slice_index (slice_set f t y) b ≤ w
set_at_most f t y w inside h top b = elim (dec_eq b t) [
  | inl same ↦ let here : slice_index (slice_set f t y) b ≡ y = get_or-set_at f t b y 0 same inside in omega arith
  | inr apart ↦ let there : slice_index (slice_set f t y) b ≡ slice_index f b = get_or-set_other f t b y 0 apart in omega (arith, h b)
]

pub set_wider : (f : List ℕ) (t y : ℕ) → t < length f → slice_index f t ≤ y → IsReachWithin f (slice_set f t y)
set_wider f t y inside wider b = elim (dec_eq b t) [
  | inl same ↦ let here : slice_index (slice_set f t y) b ≡ y = get_or-set_at f t b y 0 same inside in let there : slice_index f b ≡ slice_index f t = ap (slice_index f) same in omega arith
  | inr apart ↦ let there : slice_index (slice_set f t y) b ≡ slice_index f b = get_or-set_other f t b y 0 apart in omega arith
]

pub set_within : (f : List ℕ) (t y : ℕ) (g : List ℕ) → t < length f → IsReachWithin f g → y ≤ slice_index g t → IsReachWithin (slice_set f t y) g
set_within f t y g inside h top b = elim (dec_eq b t) [
  | inl same ↦ let here : slice_index (slice_set f t y) b ≡ y = get_or-set_at f t b y 0 same inside in let there : slice_index g b ≡ slice_index g t = ap (slice_index g) same in omega arith
  | inr apart ↦ let there : slice_index (slice_set f t y) b ≡ slice_index f b = get_or-set_other f t b y 0 apart in omega (arith, h b)
]

-- a bound of the target that isn't declared isn't declared
pub target_free : (c : Network) (d : Device) (k : ℕ) → is_declared c (target d k) ≡ false → is_declared_bound c (target_place d k) ≡ false
target_free c d k free = let net : target_place d k / 2 ≡ target d k = omega arith in ap (is_declared c) net ∙ free

pub set_family : (c : Network) (f : List ℕ) (t y : ℕ) → t < length f → is_declared_bound c t ≡ false → y ≤ widest c → IsReachFamily c f → IsReachFamily c (slice_set f t y)
set_family c f t y inside free top family = record {
  every_bound = length-set f t y ∙ family.every_bound;
  declared = λ b is. let apart : b ≢ t = λ same. false≢true (sym free ∙ (ap (is_declared_bound c) (sym same) ∙ is)) in get_or-set_other f t b y 0 apart ∙ family.declared b is;
  in_range = set_at_most f t y (widest c) inside family.in_range top;
}

-- a device that doesn't read the net reads what it read
pub reads_apart : (f : List ℕ) (d : Device) (t y : ℕ) → touches (t / 2) d ≡ false → (i : ℕ) → needs d.kind i ≡ true → reach_reads (slice_set f t y) d i ≡ reach_reads f d i
reads_apart f d t y off i need = let apart : read_place d i ≢ t = λ same. let net : end_net d (i / 2) ≡ t / 2 = omega arith in false≢true (sym off ∙ (ap (λ (n : ℕ). touches n d) (sym net) ∙ touches_needed d i need)) in
    get_or-set_other f t (read_place d i) y 0 apart

-- and stays closed
pub closed_apart : (c : Network) (f : List ℕ) (d : Device) (t y : ℕ) → t < length f → touches (t / 2) d ≡ false → slice_index f t ≤ y → IsReachClosedAt c f d → IsReachClosedAt c (slice_set f t y) d
closed_apart c f d t y inside off wider closed k lt free = let same : reach_given c d k (reach_reads (slice_set f t y) d) ≡ reach_given c d k (reach_reads f d) = gives_needed c d k (reach_reads (slice_set f t y) d) (reach_reads f d) lt (reads_apart f d t y off) in
    let before : reach_given c d k (reach_reads f d) ≤ slice_index f (target_place d k) = closed k lt free in
    let more : slice_index f (target_place d k) ≤ slice_index (slice_set f t y) (target_place d k) = set_wider f t y inside wider (target_place d k) in omega arith

-- ---- the sum of the reaches
abbrev pub total : List ℕ → ℕ
total [] = 0
total (x ∷ f) = x + total f

-- n times the greatest reach
abbrev pub room : ℕ → ℕ → ℕ
room zero w = 0
room (suc n) w = w + room n w

pub total_at_most : (f : List ℕ) (w : ℕ) → ((b : ℕ) → slice_index f b ≤ w) → total f ≤ room (length f) w
total_at_most [] w h = omega arith
total_at_most (x ∷ f) w h = let first : x ≤ w = h 0 in let rest : total f ≤ room (length f) w = total_at_most f w (λ b. h (suc b)) in omega arith

pub total-set : (f : List ℕ) (b y : ℕ) → b < length f → total (slice_set f b y) + slice_index f b ≡ total f + y
total-set [] b y lt = absurd (omega arith)
total-set (x ∷ f) zero y lt = omega arith
total-set (x ∷ f) (suc b) y lt = let rest : total (slice_set f b y) + slice_index f b ≡ total f + y = total-set f b y (omega arith) in omega arith
