use Rattle.std.proofs.Common.{◌≡◌, ◌++◌, ◌∷◌, [], ℕ, List, ap, not, refl, rules, subst, ◌∙◌}
use Rattle.std.specs.Bool.{OnTrue}
use Rattle.cvc_cdl.specs.Building.{is_among}
use Rattle.cvc_cdl.proofs.Drafts.{global_added, global_known}
use Rattle.cvc_cdl.proofs.draft.Draft.add_global.Goals as goal

pub returns-in_ok-push : goal.returns-in_ok-push
returns-in_ok-push c =
    let test = c.in_ok-insert.ensures.free ∙ ap (λ name. not (is_among c.args.self.now.global_names name)) c.bytes.ensures in
    let names = subst (λ (name : List ℕ). OnTrue c.in_ok-insert.field-0 (c.insert.new.self ≡ c.args.self.now.global_names ++ name ∷ [])) c.bytes.ensures c.in_ok-insert.ensures.added in
    (refl, global_added c.args.self.now (record { name = c.args.name; line = c.args.line }) c.in_ok-insert.field-0 test c.insert.new.self c.if-branch.true names c.push.new.self (search rules))

pub returns-else-branch : goal.returns-else-branch
returns-else-branch c =
    let test = c.in_ok-insert.ensures.free ∙ ap (λ name. not (is_among c.args.self.now.global_names name)) c.bytes.ensures in
    (refl, global_known c.args.self.now (record { name = c.args.name; line = c.args.line }) c.in_ok-insert.field-0 test c.insert.new.self c.if-branch.false c.in_ok-insert.ensures.same)
