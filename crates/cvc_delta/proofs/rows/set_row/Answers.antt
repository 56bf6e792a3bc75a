use Rattle.std.proofs.Common.{◌∙◌, sym, ap}
use Rattle.cvc_names.specs.Names.{place_of as place_among}
use Rattle.cvc_power.specs.Power.{name_of}
use Rattle.cvc_delta.specs.Edits.{names_of}
use Rattle.cvc_delta.proofs.Editing.{name_in_place}
use Rattle.cvc_delta.proofs.Rowing.{place_inside, widened_rows}
use Rattle.cvc_delta.proofs.rows.set_row.Goals as goal

pub returns-clause-wider : goal.returns-clause-wider
returns-clause-wider c =
    let rows = c.args.rows.now in
    let name = c.args.name.now in
    let place = c.in-Some.place in
    let before = c.replace-before.result in
    let is = ap (λ xs. place_among (names_of xs) name) (sym c.as_slice.ensures) ∙ sym c.in-Some.ensures.place in
    widened_rows rows c.replace-before.new.self place _ before c.lies_within.result (place_inside rows name place is) c.replace-before.ensures.after c.replace-before.ensures.before
    (ap name_of c.replace-before.ensures.before ∙ sym (name_in_place rows name place before is) ∙ sym c.in_ok-name.ensures) c.lies_within.ensures.low c.lies_within.ensures.high
