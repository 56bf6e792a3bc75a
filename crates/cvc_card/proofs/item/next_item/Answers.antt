use Rattle.std.proofs.Common.{ap, sym, ◌∙◌}
use Rattle.std.proofs.lemmas.Result.{err_from_is_err_and}
use Rattle.cvc_card.specs.Items.{alone, named, followed_by, items_of}
use Rattle.cvc_card.specs.Reading.{texts_of}
use Rattle.cvc_card.proofs.Fronts.{after_pair, read_both, rest_of, lone_at, short_at, pair_at, fewer_after_one, fewer_after_pair}
use Rattle.cvc_card.proofs.item.next_item.Goals as goal

pub returns-in_err-alone : goal.returns-in_err-alone
returns-in_err-alone c =
    let p = err_from_is_err_and c.from_residual.result c.from_residual.ensures.1 in
    let front = lone_at c.args.tokens.now c.index-tokens-0.result c.requires (sym c.begins_with_equals.ensures ∙ c.if-not-begins_with_equals.true) in
    let is = sym (ap alone c.bytes-token.ensures) ∙ c.in_err-alone.ensures in
    rw (p.1, p.2) (front ∙ ap (λ r. followed_by r (items_of (texts_of (rest_of c.args.tokens.now)))) is)

pub returns-then-not-begins_with_equals : goal.returns-then-not-begins_with_equals
returns-then-not-begins_with_equals c =
    let front = lone_at c.args.tokens.now c.index-tokens-0.result c.requires (sym c.begins_with_equals.ensures ∙ c.if-not-begins_with_equals.true) in
    let is = sym (ap alone c.bytes-token.ensures) ∙ c.in_ok-alone.ensures in
    (front ∙ ap (λ r. followed_by r (items_of (texts_of (rest_of c.args.tokens.now)))) is, fewer_after_one c.args.tokens.now c.requires)

pub returns-then-rest-lt2 : goal.returns-then-rest-lt2
returns-then-rest-lt2 c = short_at c.args.tokens.now c.index-tokens-0.result c.requires (sym c.begins_with_equals.ensures ∙ c.if-not-begins_with_equals.false) c.if-rest-lt2.true

pub returns-in_err-named : goal.returns-in_err-named
returns-in_err-named c =
    let p = err_from_is_err_and c.from_residual-in_err-named.result c.from_residual-in_err-named.ensures.1 in
    let front = pair_at c.args.tokens.now c.index-tokens-0.result c.index-rest-1.result c.requires c.if-rest-lt2.false (sym c.begins_with_equals.ensures ∙ c.if-not-begins_with_equals.false) in
    let is = read_both named _ _ _ _ _ c.bytes-token.ensures c.bytes.ensures c.in_err-named.ensures in
    rw (p.1, p.2) (front ∙ ap (λ r. followed_by r (items_of (texts_of (after_pair c.args.tokens.now)))) is)

pub returns : goal.returns
returns c =
    let front = pair_at c.args.tokens.now c.index-tokens-0.result c.index-rest-1.result c.requires c.if-rest-lt2.false (sym c.begins_with_equals.ensures ∙ c.if-not-begins_with_equals.false) in
    let is = read_both named _ _ _ _ _ c.bytes-token.ensures c.bytes.ensures c.in_ok-named.ensures in
    (front ∙ ap (λ r. followed_by r (items_of (texts_of (after_pair c.args.tokens.now)))) is, fewer_after_pair c.args.tokens.now c.requires c.if-rest-lt2.false)
