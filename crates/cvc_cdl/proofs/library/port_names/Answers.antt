use Rattle.std.proofs.Common.{List, ℕ, ◌+◌, take, sym, subst, []}
use Rattle.cvc_cdl.proofs.Lookups.{AreTheirPorts, each_port, ports_push}
use Rattle.cvc_cdl.proofs.library.port_names.Goals as goal

pub loop-cell-init : goal.loop-cell-init
loop-cell-init c = let P : List (List (List ℕ)) → Type 0 = AreTheirPorts [] in subst P (sym c.new-names.ensures.items) tt

pub loop-cell-preserved : goal.loop-cell-preserved
loop-cell-preserved c =
    let P : List (List (List ℕ)) → Type 0 = AreTheirPorts (take (c.loop-cell.cell-index + 1) c.args.cells.now) in
    subst P (sym {A = List (List (List ℕ))} c.in_ok-push.ensures.items)
    (ports_push c.args.cells.now c.loop-cell.cell-index c.loop-cell.names.items c.cell-item.result c.as_slice.result.now c.in_ok-names_of.field-0 c.loop-cell-test.true c.cell-item.is c.as_slice.ensures c.in_ok-names_of.ensures
    c.loop-cell.invariant)

pub returns : goal.returns
returns c = each_port c.args.cells.now c.loop-cell.cell-index c.loop-cell.names.items c.loop-cell.auto.cell-index-end c.loop-cell-test.false c.loop-cell.invariant
