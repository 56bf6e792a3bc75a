use Rattle.std.proofs.Common.{◌≡◌, ℕ, ◌+◌, ◌-◌, ◌<◌, [], length, take, get_or, sym, ap, subst, ◌∙◌, arith}
use Rattle.std.specs.Prelude.{None, Some}
use Rattle.cvc_plan.specs.Nets.{net_of, net_within}
use Rattle.cvc_plan.specs.Parts.{IsPart, text}
use Rattle.cvc_flat.specs.Resolving.{net_beside}
use Rattle.cvc_flat.specs.Tables.{Way, names_on, no_row, path_of, way_at, way_in, ways_of}
use Rattle.cvc_flat.proofs.Resolving.{beside_inside, connected_step, global_step, own_step, top_step}
use Rattle.cvc_flat.proofs.Ways.{way_step, way_top}
use Rattle.cvc_flat.proofs.resolve.net_row.Goals as goal

pub returns-then-name-globals-clause-net : goal.returns-then-name-globals-clause-net
returns-then-name-globals-clause-net c = λ names are h.
    let rows = c.args.instances.now in
    let parts = c.args.parts.now in
    let i : ℕ = c.loop-at.at - 1 in
    let at : c.loop-at.at ≡ i + 1 = omega (arith, c.loop-at-test.true) in
    let below : i < length rows = omega (arith, c.loop-at.invariant.inside, c.loop-at-test.true) in
    let row = get_or rows i no_row in
    let step : way_at (ways_of rows) c.loop-at.at ≡ way_in (ways_of rows) row = ap (way_at (ways_of rows)) at ∙ way_step rows i below (c.requires.tree.parents i below) in
    let inside : c.loop-at.name < length names = c.loop-at.invariant.name names are h in
    record {
      resolved = ap (λ (w : Way). net_within (names_on names parts w) (text names c.loop-at.name)) (way_top rows)
          ∙ sym (ap (λ (w : Way). net_of (take c.args.globals names) (path_of names parts w) (text names c.loop-at.name)) step ∙ global_step names c.args.globals parts are row.card (way_at (ways_of rows) row.parent) c.loop-at.name inside c.if-name-globals.true)
          ∙ c.loop-at.invariant.net names are h;
      named = inside;
    }

pub returns-in_default-clause-net : goal.returns-in_default-clause-net
returns-in_default-clause-net c = λ names are h.
    let rows = c.args.instances.now in
    let parts = c.args.parts.now in
    let i : ℕ = c.loop-at.at - 1 in
    let at : c.loop-at.at ≡ i + 1 = omega (arith, c.loop-at-test.true) in
    let below : i < length rows = omega (arith, c.loop-at.invariant.inside, c.loop-at-test.true) in
    let row = get_or rows i no_row in
    let step : way_at (ways_of rows) c.loop-at.at ≡ way_in (ways_of rows) row = ap (way_at (ways_of rows)) at ∙ way_step rows i below (c.requires.tree.parents i below) in
    let inside : c.loop-at.name < length names = c.loop-at.invariant.name names are h in
    let part = c.index-parts-row.result in
    let none : net_beside part.connections.items c.loop-at.name ≡ None = ap (λ l. net_beside l c.loop-at.name) (sym c.deref.ensures.value) ∙ sym c.connected.ensures ∙ c.in_default.is in
    record {
      resolved = ap (λ (w : Way). net_within (names_on names parts w) (text names c.loop-at.name)) step
          ∙ sym (ap (λ (w : Way). net_of (take c.args.globals names) (path_of names parts w) (text names c.loop-at.name)) step
          ∙ own_step names c.args.globals parts are row.card (way_at (ways_of rows) row.parent) c.loop-at.name part inside c.if-name-globals.false (c.requires.cards i no_row below) c.index-parts-row.is none)
          ∙ c.loop-at.invariant.net names are h;
      named = inside;
    }

pub loop-at-preserved : goal.loop-at-preserved
loop-at-preserved c =
    let rows = c.args.instances.now in
    let parts = c.args.parts.now in
    let i : ℕ = c.loop-at.at - 1 in
    let at : c.loop-at.at ≡ i + 1 = omega (arith, c.loop-at-test.true) in
    let below : i < length rows = omega (arith, c.loop-at.invariant.inside, c.loop-at-test.true) in
    let row = get_or rows i no_row in
    let step : way_at (ways_of rows) c.loop-at.at ≡ way_in (ways_of rows) row = ap (way_at (ways_of rows)) at ∙ way_step rows i below (c.requires.tree.parents i below) in
    let part = c.index-parts-row.result in
    let some : net_beside part.connections.items c.loop-at.name ≡ Some c.in-Some.net = ap (λ l. net_beside l c.loop-at.name) (sym c.deref.ensures.value) ∙ sym c.connected.ensures ∙ c.in-Some.is in
    record {
      inside = omega (arith, c.requires.tree.parents i below, below);
      net = λ names are h.
          sym (ap (λ (w : Way). net_of (take c.args.globals names) (path_of names parts w) (text names c.loop-at.name)) step
          ∙ connected_step names c.args.globals parts are row.card (way_at (ways_of rows) row.parent) c.loop-at.name c.in-Some.net part (c.loop-at.invariant.name names are h) c.if-name-globals.false (c.requires.cards i no_row below) c.index-parts-row.is some)
          ∙ c.loop-at.invariant.net names are h;
      name = λ names are h.
          beside_inside (λ k. k < length names) part.connections.items c.loop-at.name c.in-Some.net
          (subst (IsPart names) (sym c.index-parts-row.is) (are.sound row.card part (c.requires.cards i no_row below))).1 some;
    }

pub returns-clause-net : goal.returns-clause-net
returns-clause-net c = λ names are h.
    let rows = c.args.instances.now in
    let parts = c.args.parts.now in
    let at : c.loop-at.at ≡ 0 = omega (arith, c.loop-at-test.false) in
    let step : way_at (ways_of rows) c.loop-at.at ≡ [] = ap (way_at (ways_of rows)) at ∙ way_top rows in
    record {
      resolved = ap (λ (w : Way). net_within (names_on names parts w) (text names c.loop-at.name)) (way_top rows)
          ∙ sym (ap (λ (w : Way). net_of (take c.args.globals names) (path_of names parts w) (text names c.loop-at.name)) step ∙ top_step names c.args.globals parts are c.loop-at.name)
          ∙ c.loop-at.invariant.net names are h;
      named = c.loop-at.invariant.name names are h;
    }
