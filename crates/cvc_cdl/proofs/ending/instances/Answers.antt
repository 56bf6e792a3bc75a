use Rattle.std.proofs.Common.{◌≡◌, ◌+◌, List, [], ◌∷◌, ◌++◌, drop, map, take, ap, subst, sym, ◌∙◌}
use Rattle.std.specs.Prelude.{All}
use Rattle.std.proofs.lemmas.List.{map-append, map_more}
use Rattle.std.proofs.lemmas.List.Elements.{All-append, All-nil}
use Rattle.cvc_cdl.specs.declared.library.Placed.{Placed}
use Rattle.cvc_cdl.specs.declared.netlist.Item.{Item}
use Rattle.cvc_cdl.specs.Chains.{all_numbers, numbers_of}
use Rattle.cvc_cdl.specs.Netlist.{name_of_cell}
use Rattle.cvc_cdl.specs.Finishing.{file_items, file_instances, instances_in, uses_in}
use Rattle.cvc_cdl.specs.Placed.{IsPlaced, inst_placed, insts_placed}
use Rattle.cvc_cdl.proofs.Endings.{file_end, file_step, inners, instances_step, uses_are}
use Rattle.cvc_cdl.proofs.ending.instances.Goals as goal

pub loop-i-init : goal.loop-i-init
loop-i-init c = record {
  insts = ap (λ xs. insts_placed xs ++ file_instances c.args.items.now c.args.library.now.cells.now c.args.places.now) (sym c.new-placed.ensures.items);
  placed = let P : List Placed → Type 0 = All (IsPlaced c.args.library.now.cells.now) in subst P (sym c.new-placed.ensures.items) (All-nil (IsPlaced c.args.library.now.cells.now));
  uses = ap all_numbers c.new-uses.ensures.items;
}

pub add_instances-requires-in-loop-i : goal.add_instances-requires-in-loop-i
add_instances-requires-in-loop-i c = let P : List Placed → Type 0 = All (IsPlaced c.args.library.now.cells.now) in subst P (sym c.new-own.ensures.items) (All-nil (IsPlaced c.args.library.now.cells.now))

pub loop-i-preserved : goal.loop-i-preserved
loop-i-preserved c =
    let i = c.loop-i.i in
    let cells = c.args.library.now.cells.now in
    let places = c.args.places.now in
    let place = c.place_at-place.result in
    let rest = c.loop-i.rest.now in
    let behind = λ (xs : List Item). file_items place xs (inners (drop (i + 1) cells)) (drop (i + 1) places) in
    let split = file_step cells places i c.index-cells-i.result c.loop-i-test.true c.index-cells-i.is c.loop-i.from rest c.as_slice.result.now c.as_slice.ensures place c.saturating_sub.result c.place_at-place.ensures c.saturating_sub.ensures in
    let own : insts_placed c.add_instances-in-loop-i.new.found.items ≡ instances_in c.as_slice.result.now
    = c.in_ok-add_instances-2.ensures.insts ∙ ap (λ xs. insts_placed xs ++ instances_in c.as_slice.result.now) c.new-own.ensures.items in
    let both : insts_placed c.append.new.self.items ≡ insts_placed c.add_instances.new.found.items ++ instances_in c.as_slice.result.now
    = ap insts_placed c.in_ok-append.ensures.items ∙ map-append inst_placed c.add_instances.new.found.items c.add_instances-in-loop-i.new.found.items ∙ ap (λ xs. insts_placed c.add_instances.new.found.items ++ xs) own in
    record {
      insts = instances_step (file_instances c.args.items.now cells places) (insts_placed c.loop-i.placed.items) (insts_placed c.add_instances.new.found.items) (insts_placed c.append.new.self.items)
          c.cut.result.0.now c.as_slice.result.now (behind c.cut.result.1.now) (file_items c.loop-i.from rest (inners (drop i cells)) (drop i places)) c.loop-i.invariant.insts
          (split ∙ sym (λ j. c.cut.ensures.front j ++ c.as_slice.result.now ++ behind (c.cut.ensures.back j))) c.in_ok-add_instances.ensures.insts both;
      placed = let P : List Placed → Type 0 = All (IsPlaced cells) in
          subst P (sym c.in_ok-append.ensures.items) (All-append (IsPlaced cells) c.add_instances.new.found.items c.add_instances-in-loop-i.new.found.items c.in_ok-add_instances.ensures.placed c.in_ok-add_instances-2.ensures.placed);
      uses =
          ap all_numbers c.in_ok-push.ensures.items
          ∙ map-append numbers_of c.loop-i.uses.items (c.in_ok-places_of.field-0 ∷ [])
          ∙ (λ j. c.loop-i.invariant.uses j
          ++ (c.in_ok-places_of.ensures ∙ uses_are cells c.deref.result.now c.index-cells-i.result c.as_slice.result.now
          (let P : List Placed → Type 0 = All (IsPlaced cells) in subst P (sym c.deref.ensures.value) c.in_ok-add_instances-2.ensures.placed) (ap insts_placed c.deref.ensures.value ∙ own) c.as_slice.ensures) j ∷ [])
          ∙ ap (λ d. map (uses_in (map name_of_cell cells)) (take i cells) ++ uses_in (map name_of_cell cells) d ∷ []) c.index-cells-i.is
          ∙ sym (map_more (uses_in (map name_of_cell cells)) cells i c.index-cells-i.result c.loop-i-test.true);
    }

pub returns-clause-insts : goal.returns-clause-insts
returns-clause-insts c =
    c.in_ok-add_instances-3.ensures.insts
    ∙ sym (c.loop-i.invariant.insts
    ∙ ap (λ xs. insts_placed c.loop-i.placed.items ++ instances_in xs) (file_end c.args.library.now.cells.now c.args.places.now c.loop-i.i c.loop-i-test.false c.loop-i.from c.loop-i.rest.now))
