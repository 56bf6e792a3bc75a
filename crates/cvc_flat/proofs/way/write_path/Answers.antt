use Rattle.std.proofs.Common.{◌≡◌, ℕ, ◌<◌, [], ◌++◌, List, length, Option, sym, ap, subst, ◌∙◌, append_assoc, arith}
use Rattle.std.specs.Prelude.{All, codes}
use Rattle.std.specs.Io.KnownBytes.{append_known}
use Rattle.std.proofs.lemmas.Bool.{false≢true}
use Rattle.std.proofs.lemmas.Result.{err_from_is_err_and}
use Rattle.cvc_cdl.specs.Instances.{printed}
use Rattle.cvc_plan.specs.declared.rows.InstancePart.{InstancePart}
use Rattle.cvc_plan.specs.Parts.{text}
use Rattle.cvc_plan.proofs.Lists.{all_front, all_last, empty_of}
use Rattle.cvc_flat.specs.Tables.{names_on, way_at, ways_of}
use Rattle.cvc_flat.proofs.Ways.{all_on_way}
use Rattle.cvc_flat.proofs.Writing.{known_nil, next_step, part_behind, twice_known, writes_last}
use Rattle.cvc_flat.proofs.way.write_path.Goals as goal

pub loop-card-init : goal.loop-card-init
loop-card-init g c = record {
  counts = omega arith;
  inside = subst (All (λ k. k < length c.args.parts.now)) (sym c.way_up-way.ensures) (all_on_way (λ k. k < length c.args.parts.now) c.args.instances.now c.args.instance c.requires.cards);
  written = ([], ap (λ way. printed (names_on c.args.names.now c.args.parts.now way) (text c.args.names.now c.args.name)) c.way_up-way.ensures, known_nil (g.K.Sink.written c.args.sink.now));
}

pub bounds-parts-card : goal.bounds-parts-card
bounds-parts-card g c = all_last (λ k. k < length c.args.parts.now) c.loop-card.way.items c.pop.new.self.items c.in-Some.card c.in-Some.ensures.items c.loop-card.invariant.inside

pub get-requires : goal.get-requires
get-requires g c =
    let part = c.index-parts-card.result in
    let inside : c.in-Some.card < length c.args.parts.now = all_last (λ k. k < length c.args.parts.now) c.loop-card.way.items c.pop.new.self.items c.in-Some.card c.in-Some.ensures.items c.loop-card.invariant.inside in
    subst (λ (p : InstancePart). p.name < length c.args.names.now) (sym c.index-parts-card.is) (c.requires.parts c.in-Some.card part inside)

pub returns-in_err-write_step-clause-written : goal.returns-in_err-write_step-clause-written
returns-in_err-write_step-clause-written g c =
    let p = err_from_is_err_and c.from_residual.result c.from_residual.ensures.1 in
    let names = c.args.names.now in
    let parts = c.args.parts.now in
    let name : List ℕ = text names c.args.name in
    let inside : c.in-Some.card < length parts = all_last (λ k. k < length parts) c.loop-card.way.items c.pop.new.self.items c.in-Some.card c.in-Some.ensures.items c.loop-card.invariant.inside in
    let left : List ℕ = printed (names_on names parts c.pop.new.self.items) name in
    let w = c.loop-card.invariant.written in
    let split = next_step names parts c.loop-card.way.items c.pop.new.self.items c.in-Some.card c.index-parts-card.result name c.get.result.now c.in-Some.ensures.items inside c.index-parts-card.is c.get.ensures in
    rw p.1 (part_behind w.0 (c.get.result.now ++ codes "/") left (printed (names_on names parts (way_at (ways_of c.args.instances.now) c.args.instance)) name) (g.K.Sink.written c.args.sink.now) (g.K.Sink.written c.loop-card.sink) (g.K.Sink.written c.write_step.new.sink)
    w.2 (ap (λ (l : List ℕ). w.0 ++ l) (sym split) ∙ w.1) c.in_err-write_step.ensures.written)

pub loop-card-preserved : goal.loop-card-preserved
loop-card-preserved g c =
    let names = c.args.names.now in
    let parts = c.args.parts.now in
    let name : List ℕ = text names c.args.name in
    let inside : c.in-Some.card < length parts = all_last (λ k. k < length parts) c.loop-card.way.items c.pop.new.self.items c.in-Some.card c.in-Some.ensures.items c.loop-card.invariant.inside in
    let step : List ℕ = c.get.result.now ++ codes "/" in
    let left : List ℕ = printed (names_on names parts c.pop.new.self.items) name in
    let w = c.loop-card.invariant.written in
    let split = next_step names parts c.loop-card.way.items c.pop.new.self.items c.in-Some.card c.index-parts-card.result name c.get.result.now c.in-Some.ensures.items inside c.index-parts-card.is c.get.ensures in
    record {
      counts = omega (arith, c.loop-card.invariant.counts, c.in_ok-write_step.ensures.cause.later);
      inside = all_front (λ k. k < length parts) c.loop-card.way.items c.pop.new.self.items c.in-Some.card c.in-Some.ensures.items c.loop-card.invariant.inside;
      written = (
        w.0 ++ step,
        append_assoc w.0 step left ∙ ap (λ (l : List ℕ). w.0 ++ l) (sym split) ∙ w.1,
        c.in_ok-write_step.ensures.written ∙ ap (λ (o : Option (List ℕ)). append_known o step) w.2 ∙ twice_known (g.K.Sink.written c.args.sink.now) w.0 step,
      );
    }

pub returns-clause-written : goal.returns-clause-written
returns-clause-written g c =
    let names = c.args.names.now in
    let parts = c.args.parts.now in
    let name : List ℕ = text names c.args.name in
    let w = c.loop-card.invariant.written in
    let none : c.loop-card.way.items ≡ [] = empty_of c.loop-card.way.items (λ h. false≢true (c.in_default.ensures.variant.1 h)) in
    writes_last c.write_all.result w.0 c.get-2.result.now (printed (names_on names parts (way_at (ways_of c.args.instances.now) c.args.instance)) name) (g.K.Sink.written c.args.sink.now) (g.K.Sink.written c.loop-card.sink) (g.K.Sink.written c.write_all.new.sink)
    w.2 (ap (λ (l : List ℕ). w.0 ++ l) (c.get-2.ensures ∙ ap (λ way. printed (names_on names parts way) name) (sym none)) ∙ w.1) c.write_all.ensures.written
