use Rattle.std.proofs.Common.{◌∙◌, sym, ap}
use Rattle.cvc_names.specs.Names.{place_of as place_among}
use Rattle.cvc_names.proofs.Tables.{among_at_place, not_among}
use Rattle.cvc_delta.specs.Edits.{names_of, numbered}
use Rattle.cvc_delta.proofs.Rowing.{removed_is_filtered}
use Rattle.cvc_delta.proofs.rows.unset_row.Goals as goal

pub returns-in-None-clause-there : goal.returns-in-None-clause-there
returns-in-None-clause-there c =
    sym (not_among (names_of c.args.rows.now) c.args.name.now (ap (λ xs. place_among (names_of xs) c.args.name.now) (sym c.as_slice.ensures) ∙ sym c.in-None.ensures.place))

pub returns-in-Some-clause-there : goal.returns-in-Some-clause-there
returns-in-Some-clause-there c =
    sym (among_at_place (names_of c.args.rows.now) c.args.name.now c.in-Some.place (ap (λ xs. place_among (names_of xs) c.args.name.now) (sym c.as_slice.ensures) ∙ sym c.in-Some.ensures.place))

pub returns-in-Some-clause-left : goal.returns-in-Some-clause-left
returns-in-Some-clause-left c =
    c.number.ensures ∙ ap numbered (c.remove-gone.ensures.after ∙ removed_is_filtered c.args.rows.now c.args.name.now c.in-Some.place c.requires.apart
    (ap (λ xs. place_among (names_of xs) c.args.name.now) (sym c.as_slice.ensures) ∙ sym c.in-Some.ensures.place))
