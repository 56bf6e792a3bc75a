use Rattle.std.proofs.Common.{◌≡◌, ◌+◌, ◌*◌, get_or, arith}
use Rattle.std.proofs.lemmas.List.{drop_all}
use Rattle.std.specs.Str.Parse.{digits_value}
use Rattle.cvc_words.proofs.Digits.{digit_at, next, next_tens}
use Rattle.cvc_chain.proofs.number.value_of.Goals as goal

pub returns-in_err-checked_mul : goal.returns-in_err-checked_mul
returns-in_err-checked_mul c =
    let tens = next_tens c.args.digits.now c.loop-digit.digit-index c.loop-digit.value (digits_value 10 c.args.digits.now) c.requires c.loop-digit-test.true c.loop-digit.invariant.0 in
    rw c.from_residual.ensures (λ small. c.in_err-checked_mul.ensures (omega arith))

pub returns-in_err-value : goal.returns-in_err-value
returns-in_err-value c =
    let ds = c.args.digits.now in
    let digit : c.from.result + 48 ≡ get_or ds c.loop-digit.digit-index 0 = omega (arith, digit_at ds c.loop-digit.digit-index c.requires c.loop-digit-test.true) in
    let more = next ds c.loop-digit.digit-index c.loop-digit.value c.from.result (digits_value 10 ds) c.requires c.loop-digit-test.true digit c.loop-digit.invariant.0 in
    rw c.from_residual-in_err-value.ensures (λ small. c.in_err-value.ensures (omega (arith, c.in_ok-checked_mul.ensures)))

pub loop-digit-preserved : goal.loop-digit-preserved
loop-digit-preserved c =
    let ds = c.args.digits.now in
    let digit : c.from.result + 48 ≡ get_or ds c.loop-digit.digit-index 0 = omega (arith, digit_at ds c.loop-digit.digit-index c.requires c.loop-digit-test.true) in
    let more = next ds c.loop-digit.digit-index c.loop-digit.value c.from.result (digits_value 10 ds) c.requires c.loop-digit-test.true digit c.loop-digit.invariant.0 in
    let sum : c.in_ok-value.value ≡ c.loop-digit.value * 10 + c.from.result = omega (arith, c.in_ok-value.ensures, c.in_ok-checked_mul.ensures) in
    (rw sum more.1, omega (arith, c.in_ok-value.ensures))

pub returns : goal.returns
returns c =
    let whole = rw (drop_all c.loop-digit.digit-index c.args.digits.now c.loop-digit-test.false) at c.loop-digit.invariant.0 in
    (omega (arith, whole), whole)
