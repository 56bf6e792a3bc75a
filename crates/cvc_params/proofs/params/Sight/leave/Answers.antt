use Rattle.std.proofs.Common.{◌≡◌, ℕ, suc, ◌-◌, length, take, refl, ap, ◌∙◌, arith}
use Rattle.std.specs.Prelude.{vec_len}
use Rattle.cvc_params.proofs.Answering.{knowing_less}
use Rattle.cvc_params.proofs.Sighted.{sight_less}
use Rattle.cvc_params.proofs.params.Sight.leave.Goals as goal

pub returns-clause-sight : goal.returns-clause-sight
returns-clause-sight c =
    let s = c.args.self.now in
    let m : ℕ = length s.levels.items - 1 in
    let levels : vec_len s.levels ≡ length s.levels.items = omega (arith, s.levels.ok.0) in
    let lists : vec_len s.lists ≡ length s.levels.items = omega (arith, s.lists.ok.0, c.requires.sight.lists.count) in
    let known : vec_len s.known - 1 ≡ suc m = omega (arith, s.known.ok.0, c.requires.sight.count, c.requires.some) in
    let front = c.pop.ensures.rest ∙ ap (λ (k : ℕ). take (k - 1) s.levels.items) levels in
    knowing_less s _ m (omega (arith, c.requires.some)) c.requires.sight
    (sight_less s _ m (omega arith) c.requires.sight.lists refl refl refl front (c.pop-2.ensures.rest ∙ ap (λ (k : ℕ). take (k - 1) s.lists.items) lists))
    refl front refl (c.pop-3.ensures.rest ∙ ap (λ (k : ℕ). take k s.known.items) known)
