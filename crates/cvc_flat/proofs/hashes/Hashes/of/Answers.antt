use Rattle.std.proofs.Common.{◌-◌, ◌%◌, ◌<◌, ◌≡◌, ℕ, length, suc, ap, ◌∙◌, arith}
use Rattle.std.proofs.lemmas.List.{get_or_read}
use Rattle.cvc_flat.proofs.Hashing.{chained_before}
use Rattle.cvc_flat.proofs.hashes.Hashes.of.Goals as goal

pub loop-place-preserved : goal.loop-place-preserved
loop-place-preserved c =
    let list = c.args.list.items in
    let place = c.loop-place.place in
    let first = c.loop-place.first.items in
    let below : place - 1 < length list = omega (arith, c.loop-place-test.true, c.loop-place.auto.place, c.len-count.ensures) in
    let step : place ≡ suc (place - 1) = omega (arith, c.loop-place-test.true) in
    let buckets : c.len.result ≡ length c.in_ok-first.first.items = omega (arith, c.len.ensures, c.loop-place.invariant.size) in
    let few : c.index.result.now % c.len.result < c.len.result = grind (arith, c.loop-place.invariant.some, buckets) in
    chained_before (length c.in_ok-first.first.items) list place (place - 1) (c.index.result.now % c.len.result) c.index-in-loop-place.result.now first c.loop-place.next.items
    step below (omega (arith, few, buckets))
    (ap (λ (n : ℕ). c.index.result.now % n) buckets ∙ ap (λ (n : ℕ). n % length c.in_ok-first.first.items) (get_or_read list (place - 1) c.index.result.now below c.index.ensures 0))
    (get_or_read first (c.index.result.now % c.len.result) c.index-in-loop-place.result.now (omega (arith, few, c.len.ensures)) c.index-in-loop-place.ensures 0)
    c.loop-place.invariant
