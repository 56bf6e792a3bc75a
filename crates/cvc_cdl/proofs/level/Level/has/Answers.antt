use Rattle.std.proofs.Common.{rules, ap, map, ◌∙◌}
use Rattle.cvc_cdl.specs.Building.{hash_of_item}
use Rattle.cvc_cdl.proofs.Levelled.{item_found, name_read}
use Rattle.cvc_cdl.proofs.level.Level.has.Goals as goal

pub returns : goal.returns
returns c =
    c.is_some.ensures
    ∙ item_found c.args.self.now c.self.inside.chains (c.self.invariant ∙ ap (map hash_of_item) c.self.view_is) c.args.name.now _ (λ k b below p. search (rules, name_read)) c.args.hash c.requires c.find.result c.find.ensures
