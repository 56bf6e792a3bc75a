use Rattle.std.proofs.Common.{◌≡◌, ◌||◌, ◌++◌, ◌∷◌, [], sym, ap, ◌∙◌}
use Rattle.std.proofs.lemmas.List.{map_push}
use Rattle.cvc_card.specs.Reading.{bytes_of, parts_held, texts_held}
use Rattle.cvc_card.proofs.Plainness.{plain_added}
use Rattle.cvc_card.proofs.parts.Parts.add_token.Goals as goal
use Rattle.cvc_card.proofs.parts.Parts.add_token.Goals.{then-self, else-self}

pub returns-in_ok-push : goal.returns-in_ok-push
returns-in_ok-push c =
    let p = parts_held c.args.self.now in
    let late : c.if-self.self ≡ (p.late_plain || p.by_name) =
    elim c.if-self.branch [ then-self w ↦ w.self-is ∙ w.if-self.true ∙ sym (ap (λ b. b || p.by_name) w.if-self.true) | else-self w ↦ w.self-is ∙ sym (ap (λ b. b || p.by_name) w.if-self.false) ] in
    let plain : texts_held c.push.new.self.items ≡ p.plain ++ c.args.token.now ∷ [] = rw c.in_ok-push.ensures.items (map_push bytes_of c.args.self.now.plain.items c.args.token) in
    ap (λ ts. record p { plain = ts; late_plain = c.if-self.self }) plain ∙ plain_added c.args.form p c.args.token.now c.if-self.self (sym c.is_plain.ensures ∙ c.if-is_plain.true) late
