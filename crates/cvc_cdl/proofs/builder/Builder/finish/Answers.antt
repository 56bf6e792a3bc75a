use Rattle.cvc_cdl.specs.Builder.{named_top}
use Rattle.cvc_cdl.specs.Drafting.{draft_held}
use Rattle.cvc_cdl.proofs.Reading.{gives_fault, gives_formed, gives_kept, gives_netlist}
use Rattle.cvc_cdl.proofs.builder.Builder.finish.Goals as goal

pub returns-in-Some-clause-fault : goal.returns-in-Some-clause-fault
returns-in-Some-clause-fault c =
    rw (← c.self.view_is) (λ entries st. gives_kept (draft_held c.self.inside.draft) entries (named_top c.args.top) c.self.inside.refused c.in-Some.refusal c.in-Some.is st)

pub returns-clause-netlist : goal.returns-clause-netlist
returns-clause-netlist c =
    rw (← c.self.view_is) (λ entries st. gives_netlist (draft_held c.self.inside.draft) entries (named_top c.args.top) c.self.inside.refused c.in_default.is st c.finish.result c.finish.ensures)

pub returns-clause-fault : goal.returns-clause-fault
returns-clause-fault c =
    rw (← c.self.view_is) (λ entries st. gives_fault (draft_held c.self.inside.draft) entries (named_top c.args.top) c.self.inside.refused c.in_default.is st c.finish.result c.finish.ensures)

pub returns-clause-well_formed : goal.returns-clause-well_formed
returns-clause-well_formed c =
    rw (← c.self.view_is) (λ entries st. gives_formed (draft_held c.self.inside.draft) entries (named_top c.args.top) c.self.inside.refused c.in_default.is st c.finish.result c.finish.ensures)
