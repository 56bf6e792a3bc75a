use Rattle.std.proofs.Common.{◌≡◌, ℕ, ◌<◌, length, sym, subst, ◌∙◌}
use Rattle.std.specs.Prelude.{Option, IfSome}
use Rattle.cvc_params.specs.PairIndexes.{place_in}
use Rattle.cvc_params.proofs.pair_index.PairIndex.place.Goals as goal

pub returns-clause-inside : goal.returns-clause-inside
returns-clause-inside c =
    let e : c.copied.result ≡ place_in c.args.self.now c.args.low.now = c.copied.ensures ∙ c.get.ensures.value in
    subst (λ (o : Option ℕ). IfSome o (λ k. k < length c.args.pairs.now)) (sym e) (c.requires.inside c.args.low.now)
