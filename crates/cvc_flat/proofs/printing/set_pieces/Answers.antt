use Rattle.std.proofs.Common.{◌≡◌, ℕ, ◌<◌, [], ◌∷◌, ◌++◌, List, length, sym, ap, subst, ◌∙◌, append_assoc, length-append, arith}
use Rattle.std.specs.Prelude.{All, codes}
use Rattle.std.specs.List.{flat_map}
use Rattle.std.proofs.lemmas.List.{append-nil}
use Rattle.std.proofs.lemmas.List.Concat.{flat_map-append}
use Rattle.cvc_cdl.specs.Instances.{printed}
use Rattle.cvc_plan.specs.declared.rows.InstancePart.{InstancePart}
use Rattle.cvc_plan.specs.Parts.{text}
use Rattle.cvc_plan.proofs.Lists.{all_front, all_last}
use Rattle.cvc_flat.specs.Tables.{names_on, way_at, ways_of}
use Rattle.cvc_flat.proofs.Ways.{all_on_way}
use Rattle.cvc_flat.proofs.Writing.{path_last}
use Rattle.cvc_flat.proofs.printing.set_pieces.Goals as goal

one_more : {X : Type 0} (f : X → List ℕ) (pieces : List X) (p : X) (left all : List ℕ) → flat_map f pieces ++ (f p ++ left) ≡ all → flat_map f (pieces ++ p ∷ []) ++ left ≡ all
one_more f pieces p left all e =
    ap (λ (l : List ℕ). l ++ left) (flat_map-append f pieces (p ∷ []) ∙ ap (λ (l : List ℕ). flat_map f pieces ++ l) (append-nil (f p))) ∙ append_assoc (flat_map f pieces) (f p) left ∙ e

pub loop-card-init : goal.loop-card-init
loop-card-init c =
    let whole = printed (names_on c.args.names.now c.args.parts.now (way_at (ways_of c.args.instances.now) c.args.instance)) (text c.args.names.now c.args.name) in
    record {
      inside = subst (All (λ k. k < length c.args.parts.now)) (sym c.way_up-way.ensures) (all_on_way (λ k. k < length c.args.parts.now) c.args.instances.now c.args.instance c.requires.cards);
      room = omega (arith, ap length c.clear.ensures, ap length c.way_up-way.ensures, c.requires.tree.depth c.args.instance c.requires.inside);
      whole = ap (λ pieces. flat_map (λ w. w.now) pieces ++ printed (names_on c.args.names.now c.args.parts.now c.way_up-way.result.items) (text c.args.names.now c.args.name)) c.clear.ensures
          ∙ ap (λ way. printed (names_on c.args.names.now c.args.parts.now way) (text c.args.names.now c.args.name)) c.way_up-way.ensures;
    }

pub bounds-parts-card : goal.bounds-parts-card
bounds-parts-card c = all_last (λ k. k < length c.args.parts.now) c.loop-card.way.items c.pop.new.self.items c.in-Some.card c.in-Some.ensures.items c.loop-card.invariant.inside

pub get-requires : goal.get-requires
get-requires c =
    let part = c.index-parts-card.result in
    let inside : c.in-Some.card < length c.args.parts.now = all_last (λ k. k < length c.args.parts.now) c.loop-card.way.items c.pop.new.self.items c.in-Some.card c.in-Some.ensures.items c.loop-card.invariant.inside in
    subst (λ (p : InstancePart). p.name < length c.args.names.now) (sym c.index-parts-card.is) (c.requires.parts c.in-Some.card part inside)

pub loop-card-preserved : goal.loop-card-preserved
loop-card-preserved c =
    let names = c.args.names.now in
    let parts = c.args.parts.now in
    let name : List ℕ = text names c.args.name in
    let inside : c.in-Some.card < length parts = all_last (λ k. k < length parts) c.loop-card.way.items c.pop.new.self.items c.in-Some.card c.in-Some.ensures.items c.loop-card.invariant.inside in
    let left : List ℕ = printed (names_on names parts c.pop.new.self.items) name in
    let split : printed (names_on names parts c.loop-card.way.items) name ≡ c.get.result.now ++ (codes "/" ++ left) =
    ap (λ way. printed (names_on names parts way) name) c.in-Some.ensures.items ∙ path_last names parts c.pop.new.self.items c.in-Some.card c.index-parts-card.result name inside c.index-parts-card.is ∙ ap (λ (l : List ℕ). l ++ (codes "/" ++ left)) (sym c.get.ensures) in
    let all : List ℕ = printed (names_on names parts (way_at (ways_of c.args.instances.now) c.args.instance)) name in
    let slash = c.as_slice.result in
    let here : flat_map (λ w. w.now) c.loop-card.pieces.items ++ (c.get.result.now ++ (slash.now ++ left)) ≡ all =
    ap (λ (l : List ℕ). flat_map (λ w. w.now) c.loop-card.pieces.items ++ (c.get.result.now ++ (l ++ left))) c.as_slice.ensures ∙ ap (λ (l : List ℕ). flat_map (λ w. w.now) c.loop-card.pieces.items ++ l) (sym split) ∙ c.loop-card.invariant.whole in
    let named : flat_map (λ w. w.now) c.push.new.self.items ++ (slash.now ++ left) ≡ all =
    ap (λ ps. flat_map (λ w. w.now) ps ++ (slash.now ++ left)) c.push.ensures.items ∙ one_more (λ w. w.now) c.loop-card.pieces.items c.get.result (slash.now ++ left) all here in
    record {
      inside = all_front (λ k. k < length parts) c.loop-card.way.items c.pop.new.self.items c.in-Some.card c.in-Some.ensures.items c.loop-card.invariant.inside;
      room = omega (arith, c.loop-card.invariant.room, ap length c.in-Some.ensures.items, length-append c.pop.new.self.items (c.in-Some.card ∷ []), c.push.ensures.len, c.push-in-Some.ensures.len);
      whole = ap (λ ps. flat_map (λ w. w.now) ps ++ left) c.push-in-Some.ensures.items ∙ one_more (λ w. w.now) c.push.new.self.items slash left all named;
    }
