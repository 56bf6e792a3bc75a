use Rattle.std.proofs.Common.{◌^◌, arith, refl}
use Rattle.std.proofs.lemmas.Result.{err_from_is_err_and}
use Rattle.std.specs.Str.Parse.{digits_value_after}
use Rattle.cvc_units.proofs.Tens.{ten_pos, product_grows}
use Rattle.cvc_units.proofs.Counting.{first_large, both_value}
use Rattle.cvc_units.proofs.magnitude.count_of.Goals as goal

pub returns-in_err-append : goal.returns-in_err-append
returns-in_err-append c =
    let p = err_from_is_err_and c.from_residual.result c.from_residual.ensures.1 in
    let q = c.in_err-append.ensures in
    rw (p.1, p.2) (q.0, first_large _ c.args.front.now c.args.more.now c.args.zeros q.1)

pub returns-in_err-count : goal.returns-in_err-count
returns-in_err-count c =
    let p = err_from_is_err_and c.from_residual-in_err-count.result c.from_residual-in_err-count.ensures.1 in
    let q = c.in_err-count.ensures in
    let value = digits_value_after 10 c.in_ok-append.field-0 c.args.more.now in
    let e = both_value _ value c.args.front.now c.args.more.now c.in_ok-append.ensures.0 refl in
    rw (p.1, p.2, ← e) (q.0, omega (arith, product_grows value (10 ^ c.args.zeros) (ten_pos c.args.zeros)))

pub returns : goal.returns
returns c =
    let e = both_value _ _ c.args.front.now c.args.more.now c.in_ok-append.ensures.0 c.in_ok-count.ensures.0 in
    rw (← e) c.append_zeros.ensures
