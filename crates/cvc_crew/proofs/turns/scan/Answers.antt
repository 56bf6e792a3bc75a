use Rattle.std.proofs.Common.{◌≡◌, true, ◌∙◌, sym, subst}
use Rattle.cvc_field.specs.Hands.{HandView}
use Rattle.cvc_field.specs.Trail.{is_quiet}
use Rattle.cvc_crew.proofs.Quiets.{ends_quiet}
use Rattle.cvc_crew.proofs.turns.scan.Goals as goal

pub returns-clause-quiet : goal.returns-clause-quiet
returns-clause-quiet g c is =
    let did = c.turn.ensures.turn in
    subst (λ (h : HandView). is_quiet h.trail ≡ true) (sym did.1)
    (ends_quiet c.args.shared.now.field.now.circuit.now c.scan_place-first.result c.turn.result c.args.hand.now.trail did.0 did.2 (sym c.after.ensures ∙ is))
