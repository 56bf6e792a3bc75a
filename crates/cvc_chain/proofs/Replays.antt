-- A log that is replayed line by line.
use Rattle.std.proofs.Common.{◌≡◌, ℕ, zero, suc, ◌+◌, ◌<◌, ◌≤◌, List, [], ◌∷◌, length, drop, drop-cons, add-one, get_or, arith, refl, sym, ap, ◌∙◌, subst}
use Rattle.cvc_law.specs.declared.interval.Interval.{Interval}
use Rattle.std.proofs.lemmas.List.{length-map, length-set}
use Rattle.cvc_law.specs.Network.{Network, nets}
use Rattle.cvc_chain.specs.Replay.{IsReplayed, IsUnjustifiedAt, StopsAt}
use Rattle.cvc_serial.specs.declared.log.LogLine.{LogLine}
use Rattle.cvc_serial.specs.Derivation.{AreJustified, IsJustified, declared_family, family_of, with_line, with_lines}

-- where so many lines were taken, the bounds and the lines that are left say what the whole log says
pub record IsOn (c : Network) (log : List LogLine) (bounds : List Interval) (rest : List LogLine) (count : ℕ) : Type 0 where
  pub justified : AreJustified c bounds rest → AreJustified c (declared_family c) log
  pub family : with_lines c bounds rest ≡ family_of c log
  pub stops : (k : ℕ) → IsUnjustifiedAt c bounds rest k → IsUnjustifiedAt c (declared_family c) log (count + k)

-- between two lines
pub record IsAt (c : Network) (log : List LogLine) (bounds : List Interval) (place : ℕ) : Type 0 where
  pub every_net : length bounds ≡ nets c
  pub on : IsOn c log bounds (drop place log) place

pub on_start : (c : Network) (log : List LogLine) (bounds : List Interval) → bounds ≡ declared_family c → IsOn c log bounds log 0
on_start c log bounds is = subst (λ (f : List Interval). IsOn c log f log 0) (sym is) record {
  justified = λ h. h;
  family = refl;
  stops = λ k h. subst (IsUnjustifiedAt c (declared_family c) log) (omega arith) h;
}

pub on_line : (c : Network) (log : List LogLine) (bounds bounds' : List Interval) (l : LogLine) (rest : List LogLine) (count : ℕ) → IsJustified c bounds l → bounds' ≡ with_line c bounds l → IsOn c log bounds (l ∷ rest) count → IsOn c log bounds' rest (count + 1)
on_line c log bounds bounds' l rest count just is h = subst (λ (f : List Interval). IsOn c log f rest (count + 1)) (sym is) record {
  justified = λ more. h.justified (just, more);
  family = h.family;
  stops = λ k more. subst (IsUnjustifiedAt c (declared_family c) log) (let same : count + suc k ≡ count + 1 + k = omega arith in same) (h.stops (suc k) (just, more));
}

pub on_end : (c : Network) (log : List LogLine) (bounds : List Interval) (count : ℕ) → IsOn c log bounds [] count → AreJustified c (declared_family c) log × (bounds ≡ family_of c log)
on_end c log bounds count h = (h.justified tt, h.family)

pub on_stop : (c : Network) (log : List LogLine) (bounds : List Interval) (l : LogLine) (rest : List LogLine) (count : ℕ) → (IsJustified c bounds l → ⊥) → IsOn c log bounds (l ∷ rest) count → StopsAt c log (count + 1)
on_stop c log bounds l rest count off h = let at : IsUnjustifiedAt c (declared_family c) log (count + 0) = h.stops 0 off in
    subst (StopsAt c log) (let same : suc (count + 0) ≡ count + 1 = omega arith in same) at

-- ---- at a place of the log
pub at_start : (c : Network) (log : List LogLine) (bounds : List Interval) → bounds ≡ declared_family c → IsAt c log bounds 0
at_start c log bounds is = record { every_net = ap length is ∙ length-map c.fixed _; on = on_start c log bounds is }

here : (c : Network) (log : List LogLine) (bounds : List Interval) (place : ℕ) (l : LogLine) → place < length log → l ≡ get_or log place l → IsOn c log bounds (drop place log) place → IsOn c log bounds (l ∷ drop (place + 1) log) place
here c log bounds place l lt is h =
    let next : drop (place + 1) log ≡ drop (suc place) log = ap (λ (n : ℕ). drop n log) (add-one place) in
    let front : drop place log ≡ l ∷ drop (place + 1) log = drop-cons log place l lt ∙ (λ i. sym is i ∷ sym next i) in
    subst (λ (rest : List LogLine). IsOn c log bounds rest place) front h

pub at_next : (c : Network) (log : List LogLine) (bounds bounds' : List Interval) (place : ℕ) (l : LogLine) → place < length log → l ≡ get_or log place l → IsJustified c bounds l → bounds' ≡ with_line c bounds l → IsAt c log bounds place → IsAt c log bounds' (place + 1)
at_next c log bounds bounds' place l lt is just with h = record {
  every_net = ap length with ∙ (length-set bounds _ _ ∙ h.every_net);
  on = on_line c log bounds bounds' l (drop (place + 1) log) place just with (here c log bounds place l lt is h.on);
}

pub at_stop : (c : Network) (log : List LogLine) (bounds : List Interval) (place : ℕ) (l : LogLine) → place < length log → l ≡ get_or log place l → (IsJustified c bounds l → ⊥) → IsAt c log bounds place → StopsAt c log (place + 1)
at_stop c log bounds place l lt is off h = on_stop c log bounds l (drop (place + 1) log) place off (here c log bounds place l lt is h.on)

nothing_left : (log : List LogLine) (place : ℕ) → length log ≤ place → drop place log ≡ []
nothing_left [] zero le = refl
nothing_left [] (suc place) le = refl
nothing_left (l ∷ log) zero le = absurd (omega arith)
nothing_left (l ∷ log) (suc place) le = nothing_left log place (omega arith)

pub at_end : (c : Network) (log : List LogLine) (bounds : List Interval) (place : ℕ) → length log ≤ place → IsAt c log bounds place → IsReplayed c log bounds
at_end c log bounds place le h =
    let all = on_end c log bounds place (subst (λ (rest : List LogLine). IsOn c log bounds rest place) (nothing_left log place le) h.on) in
    record { justified = all.0; family = all.1; every_net = h.every_net }
