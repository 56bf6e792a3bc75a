use Rattle.std.proofs.Common.{Err}
use Rattle.std.proofs.lemmas.Result.{err_from_is_err_and}
use Rattle.cvc_card.specs.Items.{items_of}
use Rattle.cvc_card.specs.Parts.{parts_of}
use Rattle.cvc_card.specs.Card.{card_from, card_of}
use Rattle.cvc_card.specs.Reading.{parts_held, texts_of}
use Rattle.cvc_card.proofs.Fronts.{rest_of}
use Rattle.cvc_card.proofs.Assembling.{card_front, card_ignored, card_read, stopped, gathered, gives_same}
use Rattle.cvc_card.proofs.read.card.Goals as goal

pub returns-in_err-form : goal.returns-in_err-form
returns-in_err-form c =
    let p = err_from_is_err_and c.from_residual.result c.from_residual.ensures.1 in
    rw (p.1, p.2) (card_front c.args.line.now c.as_slice-tokens.result.now c.index-tokens-0.result c.as_slice-tokens.ensures c.requires c.bytes-name.result.now c.bytes-name.ensures (Err c.in_err-form.field-0.0) c.in_err-form.ensures)

pub returns-in_default : goal.returns-in_default
returns-in_default c =
    card_ignored c.args.line.now c.as_slice-tokens.result.now c.index-tokens-0.result c.as_slice-tokens.ensures c.requires c.bytes-name.result.now c.bytes-name.ensures c.in_ok-form.field-0 c.in_ok-form.ensures c.in_default.is

pub returns-in_err-parts : goal.returns-in_err-parts
returns-in_err-parts c =
    let p = err_from_is_err_and c.from_residual-in_err-parts.result c.from_residual-in_err-parts.ensures.1 in
    let front = card_read c.args.line.now c.as_slice-tokens.result.now c.index-tokens-0.result c.as_slice-tokens.ensures c.requires c.bytes-name.result.now c.bytes-name.ensures c.in_ok-form.field-0 c.in-Some.form c.in_ok-form.ensures c.in-Some.is in
    rw (p.1, p.2) (stopped c.in_err-parts.field-0.0 (items_of (texts_of (rest_of c.as_slice-tokens.result.now))) (λ items. card_from c.in-Some.form c.bytes-name.result.now c.args.line.now.first (parts_of c.in-Some.form items)) (card_of c.args.line.now) front c.in_err-parts.ensures)

pub returns : goal.returns
returns c =
    let front = card_read c.args.line.now c.as_slice-tokens.result.now c.index-tokens-0.result c.as_slice-tokens.ensures c.requires c.bytes-name.result.now c.bytes-name.ensures c.in_ok-form.field-0 c.in-Some.form c.in_ok-form.ensures c.in-Some.is in
    let found = c.in_ok-parts.ensures in
    gives_same c.card_from.result (card_from c.in-Some.form c.bytes-name.result.now c.args.line.now.first (parts_held c.in_ok-parts.parts)) (card_of c.args.line.now)
    (gathered c.in-Some.form c.bytes-name.result.now c.args.line.now.first (parts_held c.in_ok-parts.parts) (items_of (texts_of (rest_of c.as_slice-tokens.result.now))) found.0 (card_of c.args.line.now) front found.1 found.2)
    c.card_from.ensures
