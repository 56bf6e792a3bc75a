use Rattle.std.proofs.Common.{◌≡◌, ℕ, ◌+◌, ◌-◌, ◌<◌, ◌++◌, List, [], length, get_or, sym, ap, ◌∙◌, arith}
use Rattle.std.specs.Prelude.{codes}
use Rattle.std.specs.Str.{bytes_eq}
use Rattle.cvc_cdl.specs.Instances.{printed}
use Rattle.cvc_plan.specs.Nets.{name_of_link}
use Rattle.cvc_plan.specs.Parts.{link_at}
use Rattle.cvc_plan.proofs.Parts.{link_is}
use Rattle.cvc_flat.specs.Tables.{Way, names_on, no_row, way_at, way_in, ways_of}
use Rattle.cvc_flat.proofs.Stripping.{empty_is, front_more, printed_split, strip_no, strip_yes}
use Rattle.cvc_flat.proofs.Ways.{way_step, way_top}
use Rattle.cvc_flat.proofs.find.is_printed.Goals as goal

pub returns-in_default : goal.returns-in_default
returns-in_default c =
    let on : List (List ℕ) = names_on c.args.names.now c.args.parts.now (way_at (ways_of c.args.instances.now) c.args.row.instance) in
    sym (ap (bytes_eq c.args.text.now) (printed_split on _ ∙ ap (λ (s : List ℕ). printed on [] ++ s) (sym c.get.ensures)) ∙ strip_no c.args.text.now c.get.result.now (printed on []) c.in_default.ensures.cases)

pub loop-at-init : goal.loop-at-init
loop-at-init c =
    let on : List (List ℕ) = names_on c.args.names.now c.args.parts.now (way_at (ways_of c.args.instances.now) c.args.row.instance) in
    record {
      inside = c.requires.inside;
      same = ap (bytes_eq c.args.text.now) (printed_split on _ ∙ ap (λ (s : List ℕ). printed on [] ++ s) (sym c.get.ensures))
          ∙ strip_yes c.args.text.now c.in-Some.front.now c.get.result.now (printed on []) c.in-Some.ensures.cases.0 c.in-Some.ensures.cases.1;
    }

pub returns-in_default-strip_suffix : goal.returns-in_default-strip_suffix
returns-in_default-strip_suffix c =
    let names = c.args.names.now in
    let parts = c.args.parts.now in
    let rows = c.args.instances.now in
    let i : ℕ = c.loop-at.at - 1 in
    let at : c.loop-at.at ≡ i + 1 = omega (arith, c.loop-at-test.true) in
    let below : i < length rows = omega (arith, c.loop-at.invariant.inside, c.loop-at-test.true) in
    let row = get_or rows i no_row in
    let step : way_at (ways_of rows) c.loop-at.at ≡ way_in (ways_of rows) row = ap (way_at (ways_of rows)) at ∙ way_step rows i below (c.requires.tree.parents i below) in
    let up : List (List ℕ) = names_on names parts (way_at (ways_of rows) row.parent) in
    let own : List ℕ = name_of_link (link_at names parts row.card) in
    sym (c.loop-at.invariant.same ∙ ap (bytes_eq c.loop-at.rest.now) (ap (λ (w : Way). printed (names_on names parts w) []) step ∙ front_more own up) ∙ strip_no c.loop-at.rest.now (codes "/") (printed up [] ++ own) c.in_default-strip_suffix.ensures.cases)

pub returns-in_default-strip_suffix-2 : goal.returns-in_default-strip_suffix-2
returns-in_default-strip_suffix-2 c =
    let names = c.args.names.now in
    let parts = c.args.parts.now in
    let rows = c.args.instances.now in
    let i : ℕ = c.loop-at.at - 1 in
    let at : c.loop-at.at ≡ i + 1 = omega (arith, c.loop-at-test.true) in
    let below : i < length rows = omega (arith, c.loop-at.invariant.inside, c.loop-at-test.true) in
    let row = get_or rows i no_row in
    let step : way_at (ways_of rows) c.loop-at.at ≡ way_in (ways_of rows) row = ap (way_at (ways_of rows)) at ∙ way_step rows i below (c.requires.tree.parents i below) in
    let up : List (List ℕ) = names_on names parts (way_at (ways_of rows) row.parent) in
    let own : List ℕ = name_of_link (link_at names parts row.card) in
    let is : own ≡ c.get-in-loop-at.result.now = ap name_of_link (link_is names parts row.card c.index-parts-above.result (c.requires.cards i no_row below) c.index-parts-above.is) ∙ sym c.get-in-loop-at.ensures in
    sym (c.loop-at.invariant.same ∙ ap (bytes_eq c.loop-at.rest.now) (ap (λ (w : Way). printed (names_on names parts w) []) step ∙ front_more own up)
    ∙ strip_yes c.loop-at.rest.now c.in-Some-strip_suffix.front.now (codes "/") (printed up [] ++ own) c.in-Some-strip_suffix.ensures.cases.0 c.in-Some-strip_suffix.ensures.cases.1
    ∙ ap (λ (s : List ℕ). bytes_eq c.in-Some-strip_suffix.front.now (printed up [] ++ s)) is
    ∙ strip_no c.in-Some-strip_suffix.front.now c.get-in-loop-at.result.now (printed up []) c.in_default-strip_suffix-2.ensures.cases)

pub loop-at-preserved : goal.loop-at-preserved
loop-at-preserved c =
    let names = c.args.names.now in
    let parts = c.args.parts.now in
    let rows = c.args.instances.now in
    let i : ℕ = c.loop-at.at - 1 in
    let at : c.loop-at.at ≡ i + 1 = omega (arith, c.loop-at-test.true) in
    let below : i < length rows = omega (arith, c.loop-at.invariant.inside, c.loop-at-test.true) in
    let row = get_or rows i no_row in
    let step : way_at (ways_of rows) c.loop-at.at ≡ way_in (ways_of rows) row = ap (way_at (ways_of rows)) at ∙ way_step rows i below (c.requires.tree.parents i below) in
    let up : List (List ℕ) = names_on names parts (way_at (ways_of rows) row.parent) in
    let own : List ℕ = name_of_link (link_at names parts row.card) in
    let is : own ≡ c.get-in-loop-at.result.now = ap name_of_link (link_is names parts row.card c.index-parts-above.result (c.requires.cards i no_row below) c.index-parts-above.is) ∙ sym c.get-in-loop-at.ensures in
    record {
      inside = omega (arith, c.requires.tree.parents i below, below);
      same = c.loop-at.invariant.same ∙ ap (bytes_eq c.loop-at.rest.now) (ap (λ (w : Way). printed (names_on names parts w) []) step ∙ front_more own up)
          ∙ strip_yes c.loop-at.rest.now c.in-Some-strip_suffix.front.now (codes "/") (printed up [] ++ own) c.in-Some-strip_suffix.ensures.cases.0 c.in-Some-strip_suffix.ensures.cases.1
          ∙ ap (λ (s : List ℕ). bytes_eq c.in-Some-strip_suffix.front.now (printed up [] ++ s)) is
          ∙ strip_yes c.in-Some-strip_suffix.front.now c.in-Some-strip_suffix-2.front.now c.get-in-loop-at.result.now (printed up []) c.in-Some-strip_suffix-2.ensures.cases.0 c.in-Some-strip_suffix-2.ensures.cases.1;
    }

pub returns : goal.returns
returns c =
    let rows = c.args.instances.now in
    let at : c.loop-at.at ≡ 0 = omega (arith, c.loop-at-test.false) in
    c.is_empty.ensures ∙ empty_is c.loop-at.rest.now
    ∙ sym (c.loop-at.invariant.same ∙ ap (λ (w : Way). bytes_eq c.loop-at.rest.now (printed (names_on c.args.names.now c.args.parts.now w) [])) (ap (way_at (ways_of rows)) at ∙ way_top rows))
