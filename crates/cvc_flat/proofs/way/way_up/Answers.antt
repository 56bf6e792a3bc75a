use Rattle.std.proofs.Common.{◌≡◌, ℕ, ◌+◌, ◌-◌, ◌<◌, ◌≤◌, [], ◌∷◌, ◌++◌, length, get_or, sym, ap, ◌∙◌, append_assoc, length-append, lit<, arith}
use Rattle.std.proofs.lemmas.List.{append-nil}
use Rattle.cvc_flat.specs.Tables.{Way, no_row, way_at, way_in, ways_of}
use Rattle.cvc_flat.proofs.Ways.{way_step, way_top}
use Rattle.cvc_flat.proofs.way.way_up.Goals as goal

pub push-requires : goal.push-requires
push-requires c =
    let rows = c.args.instances.now in
    let i : ℕ = c.loop-at.at - 1 in
    let at : c.loop-at.at ≡ i + 1 = omega (arith, c.loop-at-test.true) in
    let below : i < length rows = omega (arith, c.loop-at.invariant.inside, c.loop-at-test.true) in
    let step : way_at (ways_of rows) c.loop-at.at ≡ way_in (ways_of rows) (get_or rows i no_row) = ap (way_at (ways_of rows)) at ∙ way_step rows i below (c.requires.tree.parents i below) in
    let whole : way_at (ways_of rows) c.args.instance ≡ c.loop-at.way.items ++ way_in (ways_of rows) (get_or rows i no_row) = c.loop-at.invariant.way ∙ ap (λ (w : Way). c.loop-at.way.items ++ w) step in
    let deep : length (way_at (ways_of rows) c.args.instance) ≤ 64 = c.requires.tree.depth c.args.instance c.requires.inside in
    let long : length c.loop-at.way.items < 64 = omega (arith, deep, ap length whole, length-append c.loop-at.way.items (way_in (ways_of rows) (get_or rows i no_row))) in
    (lit< tt, long)

pub loop-at-preserved : goal.loop-at-preserved
loop-at-preserved c =
    let rows = c.args.instances.now in
    let i : ℕ = c.loop-at.at - 1 in
    let at : c.loop-at.at ≡ i + 1 = omega (arith, c.loop-at-test.true) in
    let below : i < length rows = omega (arith, c.loop-at.invariant.inside, c.loop-at-test.true) in
    let row = get_or rows i no_row in
    let step : way_at (ways_of rows) c.loop-at.at ≡ way_in (ways_of rows) row = ap (way_at (ways_of rows)) at ∙ way_step rows i below (c.requires.tree.parents i below) in
    let up : Way = way_at (ways_of rows) row.parent in
    record {
      inside = omega (arith, c.requires.tree.parents i below, below);
      way = c.loop-at.invariant.way ∙ ap (λ (w : Way). c.loop-at.way.items ++ w) step ∙ sym (append_assoc c.loop-at.way.items (row.card ∷ []) up) ∙ ap (λ (l : Way). l ++ up) (sym c.push.ensures.items);
    }

pub returns : goal.returns
returns c =
    let rows = c.args.instances.now in
    let at : c.loop-at.at ≡ 0 = omega (arith, c.loop-at-test.false) in
    sym (c.loop-at.invariant.way ∙ ap (λ (w : Way). c.loop-at.way.items ++ w) (ap (way_at (ways_of rows)) at ∙ way_top rows) ∙ append-nil c.loop-at.way.items)
