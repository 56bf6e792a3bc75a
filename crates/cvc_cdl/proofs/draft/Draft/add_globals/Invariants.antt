use Rattle.std.proofs.Common.{◌≡◌}
use Rattle.cvc_cdl.specs.Drafting.{draft_held, with_globals}
use Rattle.cvc_cdl.proofs.Drafts.{globals_on}
use Rattle.cvc_cdl.proofs.draft.Draft.add_globals.Given as goal

-- the names that are left make it whole
abbrev pub invariant-loop-name : goal.invariant-loop-name
invariant-loop-name l = with_globals (draft_held l.self) (globals_on l.line l.name-iterator.rest.items) ≡ with_globals (draft_held l.initial.self) (globals_on l.line l.initial.name-iterator.rest.items)
