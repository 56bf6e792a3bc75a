use Rattle.std.proofs.Common.{rules, ◌≡◌, ◌∷◌, ◌++◌, [], List, position, sym, ap, subst, ◌∙◌}
use Rattle.cvc_plan.specs.declared.rows.NetRow.{NetRow}
use Rattle.cvc_flat.specs.NetRows.{IsNetTable}
use Rattle.cvc_flat.specs.Resolving.{is_row}
use Rattle.cvc_flat.proofs.Tabled.{table_more}
use Rattle.cvc_flat.proofs.nets.NetTable.push.Goals as goal

pub invariant_of-self-2 : goal.invariant_of-self-2
invariant_of-self-2 c =
    let rows : c.push_reserved.new.self.items ≡ c.self.inside.rows.items ++ c.args.row ∷ [] = search rules in
    let hashes : c.push.new.self ≡ c.self.inside.chains ++ c.args.hash ∷ [] = search rules in
    subst (λ (l : List NetRow). IsNetTable l c.push.new.self) (sym rows) (subst (IsNetTable (c.self.inside.rows.items ++ c.args.row ∷ [])) (sym hashes)
    (table_more c.self.inside.rows.items c.self.inside.chains c.args.row c.args.hash c.self.invariant c.requires.hash (ap (position (is_row c.args.row)) c.self.view_is ∙ c.requires.new)))
