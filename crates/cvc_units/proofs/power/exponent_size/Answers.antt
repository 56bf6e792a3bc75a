use Rattle.std.proofs.Common.{◌≡◌, ℕ, ◌+◌, ◌*◌, ◌^◌, ◌<◌, min, arith, get_or, length}
use Rattle.std.specs.Char.{digit_value}
use Rattle.std.proofs.lemmas.Int.Digits.{digits_value_more}
use Rattle.std.proofs.lemmas.Str.{digit_value_digit}
use Rattle.cvc_units.proofs.Digits.{digit_at}
use Rattle.cvc_units.proofs.power.exponent_size.Goals as goal

capped_step : (v d n cap s t : ℕ) → s ≡ min v cap → t ≡ min (s * 10 + d) cap → n ≡ v * 10 + d → t ≡ min n cap
capped_step v d n cap s t es et en = omega arith

pub loop-digit-preserved : goal.loop-digit-preserved
loop-digit-preserved c =
    let ds = c.args.digits.now in
    let i = c.loop-digit.digit-index in
    let digit = get_or ds i 0 in
    let lt : i < length ds = omega arith in
    let range = digit_at ds i c.requires lt in
    let value : c.from.result ≡ digit_value digit = omega (arith, digit_value_digit digit range) in
    let m = c.min-size.ensures in
    let f = c.from.ensures in
    capped_step _ (digit_value digit) _ (10 ^ 20) c.loop-digit.size c.min-size.result c.loop-digit.invariant (rw (← value) m) (digits_value_more 10 ds i lt)
