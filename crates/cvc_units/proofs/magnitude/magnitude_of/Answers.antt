use Rattle.std.proofs.Common.{◌≡◌, ◌≤◌, ◌-◌, ◌*◌, ◌^◌, IsTrue, eqb, length, take, drop, ◌++◌, sym, subst}
use Rattle.std.proofs.lemmas.Result.{err_from_is_err_and}
use Rattle.std.specs.List.{list_all}
use Rattle.std.specs.Str.Parse.{digits_value}
use Rattle.cvc_units.specs.Split.{are_digits}
use Rattle.cvc_units.specs.Reading.{scaled_by}
use Rattle.cvc_units.proofs.Cut.{digits_take, measured, too_large}
use Rattle.cvc_units.proofs.Counting.{cut_both, whole_where_zeros}
use Rattle.cvc_units.proofs.magnitude.magnitude_of.Goals as goal

pub count_of-requires-clause-front : goal.count_of-requires-clause-front
count_of-requires-clause-front c = subst (λ ds. IsTrue (are_digits ds)) (sym c.split_at_most.ensures.front) (digits_take _ c.args.digits.now c.requires.digits)

pub count_of-requires-clause-more : goal.count_of-requires-clause-more
count_of-requires-clause-more c = subst (λ ds. IsTrue (are_digits ds)) (sym c.split_at_most-2.ensures.front) (digits_take _ c.args.fraction.now c.requires.fraction)

pub returns-in_err-count : goal.returns-in_err-count
returns-in_err-count c =
    let p = err_from_is_err_and c.from_residual.result c.from_residual.ensures.1 in
    let q = c.in_err-count.ensures in
    let ds = c.args.digits.now in
    let fs = c.args.fraction.now in
    let kept = c.saturating_sub-kept.result in
    let cut = cut_both ds fs kept c.args.power.up c.args.power.down c.requires.digits c.requires.fraction c.saturating_sub-kept.ensures in
    let large : 10 ^ 36 ≤ digits_value 10 (take kept ds ++ take (kept - length ds) fs) * 10 ^ (c.args.power.up - c.args.power.down) =
    rw (← c.saturating_sub.ensures, ← c.split_at_most.ensures.front, ← c.split_at_most-2.ensures.front, ← c.saturating_sub-2.ensures) q.1 in
    rw (p.1, p.2, q.0) (too_large (scaled_by (digits_value 10 (ds ++ fs)) c.args.power) _ _ cut large)

pub returns : goal.returns
returns c =
    let q = c.in_ok-count.ensures in
    let ds = c.args.digits.now in
    let fs = c.args.fraction.now in
    let kept = c.saturating_sub-kept.result in
    let cut = cut_both ds fs kept c.args.power.up c.args.power.down c.requires.digits c.requires.fraction c.saturating_sub-kept.ensures in
    let count : c.in_ok-count.count ≡ digits_value 10 (take kept ds ++ take (kept - length ds) fs) * 10 ^ (c.args.power.up - c.args.power.down) =
    rw (← c.saturating_sub.ensures, ← c.split_at_most.ensures.front, ← c.split_at_most-2.ensures.front, ← c.saturating_sub-2.ensures) q.0 in
    let zeros : c.both_are_zeros-is_whole.result ≡ list_all (λ d. eqb d 48) (drop kept ds ++ drop (kept - length ds) fs) =
    rw (← c.saturating_sub.ensures, ← c.split_at_most.ensures.back, ← c.split_at_most-2.ensures.back) c.both_are_zeros-is_whole.ensures in
    let whole = whole_where_zeros ds fs kept c.args.power.up c.both_are_zeros-is_whole.result c.requires.digits c.requires.fraction zeros in
    measured (scaled_by (digits_value 10 (ds ++ fs)) c.args.power) c.in_ok-count.count _ c.both_are_zeros-is_whole.result (rw count cut) q.1 whole
