-- A value is more than a limit by its count, and by what was dropped where the count is the limit.
use Rattle.std.proofs.Common.{◌≡◌, ℕ, zero, suc, ◌+◌, ◌*◌, ◌%◌, ◌<◌, ◌≤◌, true, false, ltb, leb, sym, ap, ◌∙◌, inl, inr, arith}
use Rattle.std.proofs.lemmas.Bool.{lt-ltb, le-ltb, lt-leb, le-leb, cases_lt, false≢true}
use Rattle.std.proofs.lemmas.Nat.{div-add-mod', mod_below}
use Rattle.std.proofs.Math.Nat.{mul-le-mul_right}
use Rattle.cvc_units.specs.declared.magnitude.Magnitude.{Magnitude}
use Rattle.cvc_units.specs.Number.{Scaled, exceeds, count_of}
use Rattle.cvc_units.specs.Reading.{IsMagnitude}
use Rattle.cvc_units.proofs.Tens.{times_less}

whole_test : (limit count over under : ℕ) → 0 < under → count * under ≡ over → ltb limit count ≡ ltb (limit * under) over
whole_test limit count over under pos e =
    elim (cases_lt limit count) [
      | inl h ↦ lt-ltb limit count h ∙ sym (lt-ltb (limit * under) over (let less = times_less limit count under h pos in omega arith))
      | inr h ↦ le-ltb limit count h ∙ sym (le-ltb (limit * under) over (let less : count * under ≤ limit * under = mul-le-mul_right under h in omega arith))
    ]

part_test : (limit count rest over under : ℕ) → 0 < rest → rest < under → over ≡ count * under + rest → leb limit count ≡ ltb (limit * under) over
part_test limit count rest over under pos below e =
    elim (cases_lt count limit) [
      | inl h ↦
          let less : suc count * under ≤ limit * under = mul-le-mul_right under h in
          lt-leb limit count h ∙ sym (le-ltb (limit * under) over (omega arith))
      | inr h ↦
          let less : limit * under ≤ count * under = mul-le-mul_right under h in
          le-leb limit count h ∙ sym (lt-ltb (limit * under) over (omega arith))
    ]

pub whole_exceeds : (m : Magnitude) (v : Scaled) (limit : ℕ) → m.is_whole ≡ true → IsMagnitude m v → ltb limit m.count ≡ exceeds v limit
whole_exceeds m v limit whole h = whole_test limit m.count v.over v.under h.proper (h.whole.0 whole)

pub part_exceeds : (m : Magnitude) (v : Scaled) (limit : ℕ) → m.is_whole ≡ false → IsMagnitude m v → leb limit m.count ≡ exceeds v limit
part_exceeds m v limit part h =
    let parts : count_of v * v.under + v.over % v.under ≡ v.over = div-add-mod' v.over v.under in
    let sum : v.over ≡ m.count * v.under + v.over % v.under = sym parts ∙ ap (λ n. n * v.under + v.over % v.under) (sym h.count) in
    part_test limit m.count (v.over % v.under) v.over v.under (some_rest (v.over % v.under) sum) (mod_below v.over v.under h.proper) sum
  where
    some_rest : (rest : ℕ) → v.over ≡ m.count * v.under + rest → 0 < rest
    some_rest zero e = absurd (false≢true (sym part ∙ h.whole.1 (omega arith)))
    some_rest (suc n) e = omega arith
