-- An exponent above the greatest one does what the greatest one does.
use Rattle.std.proofs.Common.{◌≡◌, ℕ, zero, suc, ◌+◌, ◌*◌, ◌/◌, ◌^◌, ◌<◌, ◌≤◌, min, Bool, true, false, cond, Result, Ok, Err, refl, sym, ap, ◌∙◌, subst, inl, inr, arith}
use Rattle.std.proofs.lemmas.Bool.{le-leb, lt-leb, cases_lt}
use Rattle.std.proofs.lemmas.Nat.{pow-add, div-mul-add}
use Rattle.std.proofs.Math.Nat.{mul-le-mul_right, pow-le-pow_right}
use Rattle.cvc_units.specs.declared.fault.NumFault.{NumFault}
use Rattle.cvc_units.specs.declared.fault.NumFault.TheVariants.{TooLarge}
use Rattle.cvc_units.specs.declared.magnitude.Magnitude.{Magnitude}
use Rattle.cvc_units.specs.Number.{Scaled, Power, count_of, limited, exponent_scale}
use Rattle.cvc_units.specs.Reading.{Measures}
use Rattle.cvc_units.proofs.Tens.{ten_pos, times_less}

-- below one unit nothing is counted
below_one : (v : Scaled) → v.over < v.under → limited v ≡ Ok v
below_one v h =
    let small : v.over < 10 ^ 36 * v.under = omega arith in
    ap (λ b. cond b (Err TooLarge) (Ok v)) (lt-leb (10 ^ 36 * v.under) v.over small)

nothing_counted : (v : Scaled) → v.over < v.under → count_of v ≡ 0
nothing_counted v h =
    let e : v.over ≡ 0 * v.under + v.over = omega arith in
    ap (λ o. o / v.under) e ∙ div-mul-add 0 v.under v.over h

same_magnitude : (r : Result Magnitude NumFault) (v w : Scaled) → v.over < v.under → w.over < w.under → v.over ≡ w.over → Measures r (Ok v) → Measures r (Ok w)
same_magnitude (Ok m) v w hv hw e h = record {
  count = h.count ∙ nothing_counted v hv ∙ sym (nothing_counted w hw);
  small = h.small;
  proper = omega arith;
  whole =
      let none : m.count ≡ 0 = h.count ∙ nothing_counted v hv in
      let left : m.count * v.under ≡ 0 = rw none (omega arith) in
      let right : m.count * w.under ≡ 0 = rw none (omega arith) in
      (λ t. omega (arith, h.whole.0 t), λ q. h.whole.1 (omega arith));
}
same_magnitude (Err x) v w hv hw e h = h

small_same : (r : Result Magnitude NumFault) (v w : Scaled) → v.over < v.under → w.over < w.under → v.over ≡ w.over → Measures r (limited v) → Measures r (limited w)
small_same r v w hv hw e h =
    let counted : Measures r (Ok v) = subst (λ a. Measures r a) (below_one v hv) h in
    subst (λ a. Measures r a) (sym (below_one w hw)) (same_magnitude r v w hv hw e counted)

at_limit : (v : Scaled) → 10 ^ 36 * v.under ≤ v.over → limited v ≡ Err TooLarge
at_limit v h = ap (λ b. cond b (Err TooLarge) (Ok v)) (le-leb (10 ^ 36 * v.under) v.over h)

large_same : (r : Result Magnitude NumFault) (v w : Scaled) → 10 ^ 36 * v.under ≤ v.over → 10 ^ 36 * w.under ≤ w.over → Measures r (limited v) → Measures r (limited w)
large_same r v w hv hw h = subst (λ a. Measures r a) (at_limit v hv ∙ sym (at_limit w hw)) h

abbrev pub valued : ℕ → ℕ → ℕ → Scaled
valued d up down = record { over = d * 10 ^ up; under = 10 ^ down }

reach : (d up down : ℕ) → 0 < d → 36 + down ≤ up → 10 ^ 36 * 10 ^ down ≤ d * 10 ^ up
reach d up down pos h =
    let whole : 10 ^ (36 + down) ≡ 10 ^ 36 * 10 ^ down = pow-add 10 36 down in
    let more : 10 ^ (36 + down) ≤ 10 ^ up = pow-le-pow_right (omega arith) h in
    let grows : 1 * 10 ^ up ≤ d * 10 ^ up = mul-le-mul_right (10 ^ up) pos in
    omega arith

vanish : (d n up down : ℕ) → d < 10 ^ n → n + up ≤ down → d * 10 ^ up < 10 ^ down
vanish d n up down small h =
    let whole : 10 ^ (n + up) ≡ 10 ^ n * 10 ^ up = pow-add 10 n up in
    let more : 10 ^ (n + up) ≤ 10 ^ down = pow-le-pow_right (omega arith) h in
    let less : d * 10 ^ up < 10 ^ n * 10 ^ up = times_less d (10 ^ n) (10 ^ up) small (ten_pos up) in
    omega arith

raised_same : (r : Result Magnitude NumFault) (d up more down : ℕ) → 36 + down ≤ up → 36 + down ≤ more → Measures r (limited (valued d up down)) → Measures r (limited (valued d more down))
raised_same r zero up more down hu hm h = small_same r (valued 0 up down) (valued 0 more down) (nothing up) (nothing more) (omega arith) h
  where
    nothing : (k : ℕ) → 0 * 10 ^ k < 10 ^ down
    nothing k = omega (arith, ten_pos down)
raised_same r (suc d) up more down hu hm h =
    large_same r (valued (suc d) up down) (valued (suc d) more down) (reach (suc d) up down (omega arith) hu) (reach (suc d) more down (omega arith) hm) h

lowered_same : (r : Result Magnitude NumFault) (d n up down more : ℕ) → d < 10 ^ n → n + up ≤ down → n + up ≤ more → Measures r (limited (valued d up down)) → Measures r (limited (valued d up more))
lowered_same r d n up down more small hd hm h =
    small_same r (valued d up down) (valued d up more) (vanish d n up down small hd) (vanish d n up more small hm) refl h

abbrev pub with_exponent : ℕ → ℕ → Power → Power → Scaled
with_exponent d f e s = valued d (24 + e.up + s.up) (f + e.down + s.down)

above : (r : Result Magnitude NumFault) (negative : Bool) (d n f cap x : ℕ) (s : Power) → d < 10 ^ n → s.up ≤ 12 → s.down ≤ 15 → n + f + 100 ≤ cap → cap ≤ x →
    Measures r (limited (with_exponent d f (exponent_scale negative cap) s)) → Measures r (limited (with_exponent d f (exponent_scale negative x) s))
above r true d n f cap x s small hu hd far h m = lowered_same r d n (24 + 0 + s.up) (f + cap + s.down) (f + x + s.down) small (omega arith) (omega arith) m
above r false d n f cap x s small hu hd far h m = raised_same r d (24 + cap + s.up) (24 + x + s.up) (f + 0 + s.down) (omega arith) (omega arith) m

pub capped : (r : Result Magnitude NumFault) (negative : Bool) (d n f cap x : ℕ) (s : Power) → d < 10 ^ n → s.up ≤ 12 → s.down ≤ 15 → n + f + 100 ≤ cap →
    Measures r (limited (with_exponent d f (exponent_scale negative (min x cap)) s)) → Measures r (limited (with_exponent d f (exponent_scale negative x) s))
capped r negative d n f cap x s small hu hd far h =
    elim (cases_lt cap x) [
      | inl over ↦
          let e : min x cap ≡ cap = omega arith in
          above r negative d n f cap x s small hu hd far (omega arith) (subst (λ y. Measures r (limited (with_exponent d f (exponent_scale negative y) s))) e h)
      | inr within ↦
          let e : min x cap ≡ x = omega arith in
          subst (λ y. Measures r (limited (with_exponent d f (exponent_scale negative y) s))) e h
    ]
