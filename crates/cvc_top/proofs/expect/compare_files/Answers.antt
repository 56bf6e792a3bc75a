use Rattle.std.proofs.Common.{inl, List, [], ◌∷◌}
use Rattle.std.proofs.lemmas.Result.{err_from_is_err_and}
use Rattle.cvc_cdl.specs.Builder.{named_top}
use Rattle.cvc_expect.specs.declared.row.ExpectRow.{ExpectRow}
use Rattle.cvc_run.specs.Said.{whole}
use Rattle.cvc_run.proofs.Loading.{read_through}
use Rattle.cvc_run.proofs.Runs.{later_failed}
use Rattle.cvc_run.proofs.Shelving.{rose_later}
use Rattle.cvc_top.specs.declared.expect.Compared.{Compared}
use Rattle.cvc_top.specs.Expectations.{expect_files, expected_reading}
use Rattle.cvc_top.proofs.Expecting.{stands_compared, stands_unread, unread_any}
use Rattle.cvc_top.proofs.expect.compare_files.Goals as goal

pub returns-in_err-rows-clause-told : goal.returns-in_err-rows-clause-told
returns-in_err-rows-clause-told g c =
    let p = err_from_is_err_and c.from_residual-in_err-rows.result c.from_residual-in_err-rows.ensures.1 in
    let x = expect_files c.args.netlist.now c.args.models.now c.args.power.now c.args.expected.now (named_top c.args.top) in
    let w = whole c.in_ok-bound.bound.flat.list c.in_ok-bound.bound.circuit in
    rw (p.1, p.2)
    (stands_unread (g.S.Shelf.files c.args.shelf.now) x w c.in_ok-bound.ensures.said c.in_err-rows.field-0.0 c.in_err-rows.ensures.own (rw c.bind_files.ensures.shelf.files at c.in_err-rows.ensures.rows))

pub returns-in_err-rows-clause-cause : goal.returns-in_err-rows-clause-cause
returns-in_err-rows-clause-cause g c =
    let p = err_from_is_err_and c.from_residual-in_err-rows.result c.from_residual-in_err-rows.ensures.1 in
    let x = expect_files c.args.netlist.now c.args.models.now c.args.power.now c.args.expected.now (named_top c.args.top) in
    let w = whole c.in_ok-bound.bound.flat.list c.in_ok-bound.bound.circuit in
    let before = g.S.Shelf.faults c.args.shelf.now in
    let between = g.S.Shelf.faults c.bind_files.new.shelf in
    let after = g.S.Shelf.faults c.read_expected_file.new.shelf in
    rw (p.1, p.2)
    (read_through (List ExpectRow) Compared c.in_err-rows.field-0.0 _ _
    (λ rose. later_failed (g.S.Shelf.files c.args.shelf.now) x.top x.netlist x.models x.power w (expected_reading x ∷ []) before after c.in_ok-bound.ensures.said
    (inl (rose_later (before x.expected) (between x.expected) (after x.expected) (c.bind_files.ensures.shelf.counts x.expected) rose)))
    c.in_err-rows.ensures.cause)

pub returns-clause-told : goal.returns-clause-told
returns-clause-told g c =
    let x = expect_files c.args.netlist.now c.args.models.now c.args.power.now c.args.expected.now (named_top c.args.top) in
    let w = whole c.in_ok-bound.bound.flat.list c.in_ok-bound.bound.circuit in
    stands_compared (g.S.Shelf.files c.args.shelf.now) x w c.in_ok-bound.ensures.said c.in_ok-rows.rows (rw c.bind_files.ensures.shelf.files at c.in_ok-rows.ensures.rows) c.compare.result c.compare.ensures.told

pub returns-clause-cause : goal.returns-clause-cause
returns-clause-cause g c = unread_any c.compare.result _ c.compare.ensures.unread
