use Rattle.std.proofs.Common.{rules, ◌∙◌, ap, subst}
use Rattle.cvc_names.specs.Names.{AreApart}
use Rattle.cvc_names.specs.Chains.{text_hash}
use Rattle.std.proofs.Common.{map}
use Rattle.cvc_names.proofs.Tables.{found_place}
use Rattle.cvc_names.proofs.names.Names.find_by.Goals as goal

pub returns-clause-place : goal.returns-clause-place
returns-clause-place c =
    found_place c.args.self.now c.self.inside.chains (c.self.invariant.hashed ∙ ap (map text_hash) c.self.view_is) c.args.name.now _ (λ k b below p. search rules) c.args.hash c.requires
    (subst AreApart c.self.view_is c.self.invariant.apart) c.find.result c.find.ensures
