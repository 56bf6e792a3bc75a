use Rattle.std.proofs.Common.{ℕ, List, Some, if◌then◌else◌, ap, sym, ◌∙◌}
use Rattle.std.specs.Option.{option_map}
use Rattle.cvc_card.specs.declared.card.Ports.TheVariants.{ByName, ByOrder}
use Rattle.cvc_card.specs.Card.{cell_of, nets_of}
use Rattle.cvc_card.specs.Reading.{bytes_of, pairs_held, parts_held, texts_held}
use Rattle.cvc_card.proofs.Assembling.{tested, instance_bad, instance_short, instance_done}
use Rattle.cvc_card.proofs.instance.instance_card.Goals as goal

pub returns-then-branch : goal.returns-then-branch
returns-then-branch c =
    let nets = c.nets_and_cell.ensures.nets ∙ ap (λ ts. nets_of (texts_held ts)) c.as_slice.ensures.value in
    instance_bad c.args.name.now c.args.line (parts_held c.args.parts.now) (tested c.args.parts.now _ _ nets c.in_ok-are_bad_pins.ensures ∙ c.if-branch.true)

pub returns-in_default : goal.returns-in_default
returns-in_default c =
    let nets = c.nets_and_cell.ensures.nets ∙ ap (λ ts. nets_of (texts_held ts)) c.as_slice.ensures.value in
    let cell = c.nets_and_cell.ensures.cell ∙ ap (λ ts. cell_of (texts_held ts)) c.as_slice.ensures.value in
    instance_short c.args.name.now c.args.line (parts_held c.args.parts.now) (tested c.args.parts.now _ _ nets c.in_ok-are_bad_pins.ensures ∙ c.if-branch.false) (sym cell ∙ ap (option_map bytes_of) c.in_default.is)

pub returns : goal.returns
returns c =
    let nets = c.nets_and_cell.ensures.nets ∙ ap (λ ts. nets_of (texts_held ts)) c.as_slice.ensures.value in
    let cell = c.nets_and_cell.ensures.cell ∙ ap (λ ts. cell_of (texts_held ts)) c.as_slice.ensures.value in
    instance_done c.args.name.now c.args.line (parts_held c.args.parts.now) _ _ _ _ (tested c.args.parts.now _ _ nets c.in_ok-are_bad_pins.ensures ∙ c.if-branch.false)
    (sym cell ∙ ap (option_map bytes_of) c.in-Some.is ∙ ap (λ (text : List ℕ). Some text) (sym c.in_ok-of-2.ensures))
    c.in_ok-of.ensures
    (c.in_ok-ports_of.ensures ∙ ap (λ ts. if c.args.parts.now.by_name then ByName (pairs_held c.args.parts.now.connections.items) else ByOrder ts) nets)
    (c.in_ok-copied_pairs.ensures ∙ ap pairs_held c.as_slice-2.ensures.value)
