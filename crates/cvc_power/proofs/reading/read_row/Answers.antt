use Rattle.std.proofs.Common.{◌∙◌, Ok, Err, ap, sym}
use Rattle.std.proofs.lemmas.Result.{err_from_is_err_and}
use Rattle.cvc_power.specs.Power.{row_with}
use Rattle.cvc_power.proofs.Lines.{no_tokens, by_span}
use Rattle.cvc_power.proofs.reading.read_row.Goals as goal

pub returns-in_default-clause-row : goal.returns-in_default-clause-row
returns-in_default-clause-row c = no_tokens c.args.line.now _ c.as_slice.ensures c.in_default.len_below

pub returns-in_err-span-clause-row : goal.returns-in_err-span-clause-row
returns-in_err-span-clause-row c =
    let p = err_from_is_err_and c.from_residual.result c.from_residual.ensures.1 in
    rw (p.1, p.2) (by_span c.args.line.now _ c.as_slice.ensures c.name-item.result c.in-len1-up.len_at_least c.name-item.is (Err c.in_err-span.field-0.0) c.in_err-span.ensures.span)

pub returns-clause-row : goal.returns-clause-row
returns-clause-row c =
    by_span c.args.line.now _ c.as_slice.ensures c.name-item.result c.in-len1-up.len_at_least c.name-item.is (Ok c.in_ok-span.span) c.in_ok-span.ensures.span
    ∙ ap (λ name. Ok (row_with c.args.line.now.first name c.in_ok-span.span)) (sym (c.in_ok-of.ensures ∙ c.bytes.ensures))
