use Rattle.std.proofs.Common.{rules}
use Rattle.cvc_card.specs.Reading.{item_of, parts_held, texts_of}
use Rattle.std.proofs.lemmas.Result.{err_from_is_err_and}
use Rattle.cvc_card.proofs.Gathering.{ends, fails, goes_on}
use Rattle.cvc_card.proofs.parts.parts_of.Goals as goal

pub loop-rest-preserved : goal.loop-rest-preserved
loop-rest-preserved c =
    goes_on c.args.form (texts_of c.args.tokens.now) (texts_of c.loop-rest.rest.now) (texts_of c.in_ok-item.after.now) (parts_held c.loop-rest.parts) (parts_held c.add.new.self) (item_of c.in_ok-item.item) c.loop-rest.invariant c.in_ok-item.ensures.0 c.in_ok-add.ensures

pub returns : goal.returns
returns c = ends c.args.form (texts_of c.args.tokens.now) c.loop-rest.rest.now (parts_held c.loop-rest.parts) c.loop-rest.invariant (search rules)

pub returns-in_err-item : goal.returns-in_err-item
returns-in_err-item c =
    let p = err_from_is_err_and c.from_residual.result c.from_residual.ensures.1 in
    rw (p.1, p.2) (fails c.args.form (texts_of c.args.tokens.now) (texts_of c.loop-rest.rest.now) (parts_held c.loop-rest.parts) c.in_err-item.field-0.0 c.loop-rest.invariant c.in_err-item.ensures)

pub returns-in_err-add : goal.returns-in_err-add
returns-in_err-add c =
    let p = err_from_is_err_and c.from_residual-in_err-add.result c.from_residual-in_err-add.ensures.1 in
    rw (p.1, p.2) tt
