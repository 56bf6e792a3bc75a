use Rattle.std.proofs.Common.{ℕ, List, ◌<◌, length, refl, sym, subst, arith, length-set}
use Rattle.cvc_params.specs.declared.params.Site.{Site}
use Rattle.cvc_params.specs.Params.{Inside}
use Rattle.cvc_params.specs.Seen.{IsOnWay, scope_in, way_to}
use Rattle.cvc_params.specs.Sights.{AreAnswers, IsAnswer}
use Rattle.cvc_params.proofs.Answering.{knowing_kept, one_known, same_lists_of, ways_kept}
use Rattle.cvc_params.proofs.Sighted.{on_one}
use Rattle.cvc_params.proofs.params.Sight.keep.Goals as goal

pub returns-in-Below-clause-sight : goal.returns-in-Below-clause-sight
returns-in-Below-clause-sight c =
    let s = c.args.self.now in
    let n = s.netlist.now in
    let levels = s.levels.items in
    let depth = c.in-Below.depth in
    let old = c.index_mut-known.result.now in
    let new = c.keep-in-Below.new.self in
    let inside : depth < length s.known.items = omega (arith, c.requires.sight.count, subst (IsOnWay levels) c.in-Below.is c.requires.answered.inside) in
    let answer =
    subst (λ (site : Site). IsAnswer n (scope_in levels site) c.in_ok-low.low.items c.args.end.now) c.in-Below.is
    (subst (λ (low : List ℕ). IsAnswer n (scope_in levels c.args.asked.site) low c.args.end.now) (sym c.in_ok-low.ensures) c.requires.answered.answer) in
    let before = subst (AreAnswers n (Inside (way_to levels depth))) (sym c.index_mut-known.ensures.value) (c.requires.sight.known depth old inside) in
    on_one c.keep-in-Below.result c.keep-in-Below.ensures
    (λ is.
    knowing_kept s _ c.requires.sight (same_lists_of s _ record { netlist = refl; indexes = refl; top = refl; levels = refl; lists = refl } c.requires.sight.lists) refl refl c.requires.sight.main
    (length-set s.known.items depth new)
    (ways_kept n levels s.known.items depth new c.requires.sight.known (one_known n (Inside (way_to levels depth)) old new c.in_ok-low.low.items c.args.end.now is answer before)))
