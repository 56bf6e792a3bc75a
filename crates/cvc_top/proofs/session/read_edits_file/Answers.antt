use Rattle.std.proofs.Common.{List}
use Rattle.cvc_delta.specs.declared.edit.Edit.{Edit}
use Rattle.cvc_top.proofs.SessionInputs.{edits_own, edits_read, edits_stopped}
use Rattle.cvc_top.proofs.session.read_edits_file.Goals as goal

pub returns-in-Ok-clause-edits : goal.returns-in-Ok-clause-edits
returns-in-Ok-clause-edits g c =
    edits_read (g.S.Shelf.files c.args.shelf.now) c.args.name.now c.in_ok-text.text c.in_ok-text.ensures.bytes c.args.power.now c.in-Ok.edits (rw c.bytes.ensures at c.in-Ok.ensures.edits)

pub returns-clause-edits : goal.returns-clause-edits
returns-clause-edits g c =
    rw c.edits_stop.ensures
    (edits_stopped (g.S.Shelf.files c.args.shelf.now) c.args.name.now c.in_ok-text.text c.in_ok-text.ensures.bytes c.args.power.now c.in-Err.refusal (rw c.bytes.ensures at c.in-Err.ensures.edits))

pub returns-clause-own : goal.returns-clause-own
returns-clause-own g c = rw c.edits_stop.ensures (edits_own (List Edit) c.in-Err.refusal)
