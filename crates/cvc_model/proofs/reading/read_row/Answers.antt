use Rattle.std.proofs.Common.{◌∙◌, sym}
use Rattle.std.proofs.lemmas.Result.{err_from_is_err_and}
use Rattle.cvc_model.proofs.Stepping.{stop_given, of_draft}
use Rattle.cvc_model.proofs.Tokens.{short, unknown, bad_item, bad_volts, the_row}
use Rattle.cvc_model.proofs.reading.read_row.Goals as goal

pub returns-in_default-clause-row : goal.returns-in_default-clause-row
returns-in_default-clause-row c = short c.args.line.now c.as_slice.result.now c.as_slice.ensures c.in_default.len_below

pub returns-in_default-kind_of-clause-row : goal.returns-in_default-kind_of-clause-row
returns-in_default-kind_of-clause-row c =
    unknown c.args.line.now c.as_slice.result.now c.as_slice.ensures c.name-item.result c.word-item.result c.in-len2-up.len_at_least c.name-item.is c.word-item.is
    c.bytes.result.now c.bytes.ensures (sym c.in_default-kind_of.ensures)

pub returns-in_err-draft-clause-row : goal.returns-in_err-draft-clause-row
returns-in_err-draft-clause-row c =
    let p = err_from_is_err_and c.from_residual.result c.from_residual.ensures.1 in
    rw (p.1, p.2) (stop_given c.in_err-draft.field-0.0 _ _
    (λ cause bad. bad_item c.args.line.now c.as_slice.result.now c.as_slice.ensures c.name-item.result c.word-item.result c.in-len2-up.len_at_least c.name-item.is c.word-item.is
    c.bytes.result.now c.bytes.ensures c.in-Some.kind (sym c.in-Some.ensures) cause bad)
    c.in_err-draft.ensures)

pub returns-in_err-volts-clause-row : goal.returns-in_err-volts-clause-row
returns-in_err-volts-clause-row c =
    let p = err_from_is_err_and c.from_residual-in_err-volts.result c.from_residual-in_err-volts.ensures.1 in
    let said = of_draft _ _ c.in_ok-draft.ensures in
    rw (p.1, p.2) (bad_volts c.args.line.now c.as_slice.result.now c.as_slice.ensures c.name-item.result c.word-item.result c.in-len2-up.len_at_least c.name-item.is c.word-item.is
    c.bytes.result.now c.bytes.ensures c.in-Some.kind (sym c.in-Some.ensures) said.0 said.1.0 c.in_err-volts.field-0.0 (sym (c.in_err-volts.ensures.volts said.0.settings said.1.1.voltages)))

pub returns-clause-row : goal.returns-clause-row
returns-clause-row c =
    let said = of_draft _ _ c.in_ok-draft.ensures in
    the_row c.args.line.now c.as_slice.result.now c.as_slice.ensures c.name-item.result c.word-item.result c.in-len2-up.len_at_least c.name-item.is c.word-item.is
    c.bytes.result.now c.bytes.ensures c.in-Some.kind (sym c.in-Some.ensures) said.0 said.1.0 c.in_ok-volts.volts (sym (c.in_ok-volts.ensures.volts said.0.settings said.1.1.voltages))
    c.in_ok-of.field-0 (c.in_ok-of.ensures ∙ c.bytes-2.ensures) _ said.1.1.tests
