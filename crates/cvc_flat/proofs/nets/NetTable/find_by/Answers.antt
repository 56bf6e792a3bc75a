use Rattle.std.proofs.Common.{rules, position, ap, ◌∙◌}
use Rattle.cvc_flat.specs.Resolving.{is_row}
use Rattle.cvc_flat.proofs.Tabled.{found_row}
use Rattle.cvc_flat.proofs.nets.NetTable.find_by.Goals as goal

pub returns : goal.returns
returns c =
    found_row c.self.inside.rows.items c.self.inside.chains c.self.invariant c.args.row c.args.hash c.requires _ (λ k b below p. search rules) c.find.result c.find.ensures
    ∙ ap (position (is_row c.args.row)) c.self.view_is
