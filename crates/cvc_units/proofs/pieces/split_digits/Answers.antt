use Rattle.std.proofs.Common.{IsTrue, take, sym, subst, ap, ◌∙◌}
use Rattle.cvc_units.specs.Split.{are_digits}
use Rattle.cvc_units.proofs.Digits.{front_is_digits}
use Rattle.cvc_units.proofs.pieces.split_digits.Goals as goal

pub returns-clause-are_digits : goal.returns-clause-are_digits
returns-clause-are_digits c =
    let text = c.args.text.now in
    let front = c.split_at.ensures.front ∙ ap (λ n. take n text) c.digits_len.ensures.count in
    subst (λ ds. IsTrue (are_digits ds)) (sym front) (front_is_digits text)
