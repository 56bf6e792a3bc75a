use Rattle.std.proofs.Common.{take}
use Rattle.cvc_top.proofs.Rechecking.{AreDone}
use Rattle.cvc_top.proofs.rechecks.do_edits.Given as goal

abbrev pub invariant-loop-edit : goal.invariant-loop-edit
invariant-loop-edit l = AreDone l.fn.session (take l.edit-index l.edits) l.session l.rechecks
