use Rattle.std.proofs.Common.{None, Some, sym, ◌∙◌}
use Rattle.cvc_cdl.specs.Builder.{named_top}
use Rattle.cvc_cdl.proofs.Finished.{checked, open_fails}
use Rattle.cvc_cdl.proofs.Named.{names_ended}
use Rattle.cvc_cdl.proofs.draft.Draft.finish.Goals as goal

pub check-requires : goal.check-requires
check-requires c = names_ended c.args.self c.in_default.is c.requires c.as_slice-cells.result.now c.as_slice-cells.ensures

pub returns-in-Some : goal.returns-in-Some
returns-in-Some c = open_fails c.args.self (named_top c.args.top) c.in-Some.open c.in-Some.is c.fault_at-fault.result c.fault_at-fault.ensures

pub returns-in-Ok-Some : goal.returns-in-Ok-Some
returns-in-Ok-Some c =
    checked c.args.self (named_top c.args.top) c.in_default.is c.as_slice-cells.result.now c.as_slice-items.result.now c.deref.result.now c.as_slice-cells.ensures c.as_slice-items.ensures c.deref.ensures.value (Some c.in-Ok-Some.fault)
    (sym c.in-Ok-Some.field-0-is ∙ c.in-Ok-Some.ensures)

pub returns-in-Ok : goal.returns-in-Ok
returns-in-Ok c = (
  checked c.args.self (named_top c.args.top) c.in_default.is c.as_slice-cells.result.now c.as_slice-items.result.now c.deref.result.now c.as_slice-cells.ensures c.as_slice-items.ensures c.deref.ensures.value None
      (sym c.in-Ok-None.field-0-is ∙ c.in-Ok-None.ensures),
  c.in-Ok.ensures,
)
