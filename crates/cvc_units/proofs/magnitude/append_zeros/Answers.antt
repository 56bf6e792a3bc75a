use Rattle.std.proofs.Common.{◌≡◌, ◌<◌, ◌*◌, ◌^◌, refl, ap, arith}
use Rattle.cvc_units.proofs.Tens.{far_too_large, too_large_with, small_with}
use Rattle.cvc_units.proofs.magnitude.append_zeros.Goals as goal

pub returns-then-zeros-gt36 : goal.returns-then-zeros-gt36
returns-then-zeros-gt36 c = (refl, far_too_large 36 c.args.count c.args.zeros (omega arith) (omega arith))

pub returns-then-count-ten_to : goal.returns-then-count-ten_to
returns-then-count-ten_to c = (refl, too_large_with 36 c.args.count c.args.zeros (omega arith) (rw (← c.ten_to.ensures) c.if-count-ten_to.true))

pub overflow_mul-result : goal.overflow_mul-result
overflow_mul-result c =
    let small : c.args.count * 10 ^ c.args.zeros < 10 ^ 36 = small_with 36 c.args.count c.args.zeros (omega arith) (rw (← c.ten_to.ensures) c.if-count-ten_to.false) in
    let same : c.args.count * c.ten_to-2.result ≡ c.args.count * 10 ^ c.args.zeros = ap (λ t. c.args.count * t) c.ten_to-2.ensures in
    omega arith

pub returns : goal.returns
returns c =
    let small : c.args.count * 10 ^ c.args.zeros < 10 ^ 36 = small_with 36 c.args.count c.args.zeros (omega arith) (rw (← c.ten_to.ensures) c.if-count-ten_to.false) in
    let same : c.args.count * c.ten_to-2.result ≡ c.args.count * 10 ^ c.args.zeros = ap (λ t. c.args.count * t) c.ten_to-2.ensures in
    (same, omega arith)
