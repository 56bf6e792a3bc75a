use Rattle.std.proofs.Common.{◌<◌, ℕ, ap, length, subst, ◌∙◌}
use Rattle.std.specs.Option.{IfSome}
use Rattle.std.proofs.lemmas.List.{length-map}
use Rattle.cvc_names.specs.Names.{place_of}
use Rattle.cvc_cdl.specs.Netlist.{name_of_cell}
use Rattle.cvc_cdl.proofs.Lookups.{place_is}
use Rattle.cvc_cdl.proofs.library.Library.place.Goals as goal

pub returns-clause-place : goal.returns-clause-place
returns-clause-place c = c.find.ensures.place ∙ ap (λ names. place_of names c.args.name.now) c.args.self.now.named ∙ place_is _ c.args.name.now

pub returns-clause-within : goal.returns-clause-within
returns-clause-within c =
    subst (λ (n : ℕ). IfSome c.find.result (λ place. place < n)) (ap length c.args.self.now.named ∙ length-map c.args.self.now.cells.now name_of_cell) c.find.ensures.within
