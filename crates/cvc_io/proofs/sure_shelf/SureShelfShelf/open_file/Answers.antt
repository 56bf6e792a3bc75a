use Rattle.std.proofs.Common.{sym, ap, ◌∙◌}
use Rattle.cvc_io.specs.MemFiles.{place_of}
use Rattle.cvc_io.proofs.Places.{opens_surely}
use Rattle.cvc_io.proofs.sure_shelf.SureShelfShelf.open_file.Goals as goal

pub returns-clause-opened : goal.returns-clause-opened
returns-clause-opened c =
    rw c.at_start-self.ensures (opens_surely c.args.self.now.files.items c.args.name.now c.find.result (sym (c.find.ensures.place ∙ ap (λ fs. place_of fs c.args.name.now) c.deref.ensures.value)))
