use Rattle.std.proofs.Common.{◌∙◌, Ok, Err, ap, sym, refl, rules}
use Rattle.std.proofs.lemmas.Result.{err_from_is_err_and}
use Rattle.cvc_rows.proofs.Items.{three_items}
use Rattle.cvc_expect.specs.Rows.{bound_of, row_with}
use Rattle.cvc_expect.proofs.Lines.{too_few, too_many, by_bounds}
use Rattle.cvc_expect.proofs.row.read_row.Goals as goal
use Rattle.cvc_expect.proofs.row.read_row.Goals.{in_default-via-then-as_slice-lt3, in_default-via-else-as_slice-lt3+else-this-lt4}

pub returns-in_default : goal.returns-in_default
returns-in_default c =
    elim c.in_default.branch [
      | in_default-via-then-as_slice-lt3 w ↦ too_few c.args.line.now _ c.as_slice.ensures (search rules)
      | in_default-via-else-as_slice-lt3+else-this-lt4 w ↦ too_many c.args.line.now _ c.as_slice.ensures (search rules)
    ]

pub returns-in_err-low : goal.returns-in_err-low
returns-in_err-low c =
    let p = err_from_is_err_and c.from_residual.result c.from_residual.ensures.1 in
    let are = three_items c.as_slice.result.now c.name-item.result c.low-item.result c.high-item.result c.in-len3.len_at_least c.in-len3.len_below c.name-item.is c.low-item.is c.high-item.is in
    rw (p.1, p.2) (by_bounds c.args.line.now _ c.as_slice.ensures c.name-item.result c.low-item.result c.high-item.result are
    (Err c.in_err-low.field-0.0) (bound_of c.high-item.result.text) (c.in_err-low.ensures ∙ ap bound_of c.bytes.ensures) refl)

pub returns-in_err-high : goal.returns-in_err-high
returns-in_err-high c =
    let p = err_from_is_err_and c.from_residual-in_err-high.result c.from_residual-in_err-high.ensures.1 in
    let are = three_items c.as_slice.result.now c.name-item.result c.low-item.result c.high-item.result c.in-len3.len_at_least c.in-len3.len_below c.name-item.is c.low-item.is c.high-item.is in
    rw (p.1, p.2) (by_bounds c.args.line.now _ c.as_slice.ensures c.name-item.result c.low-item.result c.high-item.result are
    (Ok c.in_ok-low.low) (Err c.in_err-high.field-0.0) (c.in_ok-low.ensures ∙ ap bound_of c.bytes.ensures) (c.in_err-high.ensures ∙ ap bound_of c.bytes-2.ensures))

pub returns : goal.returns
returns c =
    let are = three_items c.as_slice.result.now c.name-item.result c.low-item.result c.high-item.result c.in-len3.len_at_least c.in-len3.len_below c.name-item.is c.low-item.is c.high-item.is in
    by_bounds c.args.line.now _ c.as_slice.ensures c.name-item.result c.low-item.result c.high-item.result are
    (Ok c.in_ok-low.low) (Ok c.in_ok-high.high) (c.in_ok-low.ensures ∙ ap bound_of c.bytes.ensures) (c.in_ok-high.ensures ∙ ap bound_of c.bytes-2.ensures)
    ∙ ap (λ name. Ok (row_with c.args.line.now.first name c.in_ok-low.low c.in_ok-high.high)) (sym (c.in_ok-of.ensures ∙ c.bytes-3.ensures))
