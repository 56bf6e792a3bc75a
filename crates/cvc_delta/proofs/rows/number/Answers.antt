use Rattle.std.proofs.Common.{◌∙◌, refl, ap, arith, length}
use Rattle.std.proofs.lemmas.List.{length-set}
use Rattle.cvc_delta.proofs.Numbering.{all_numbered, numbered_more}
use Rattle.cvc_delta.proofs.rows.number.Goals as goal

pub loop-place-preserved : goal.loop-place-preserved
loop-place-preserved c =
    let at = c.loop-place in
    let one = c.replace-row.ensures.after in
    let two = c.replace-at_hand.ensures.after in
    record {
      rows = numbered_more c.args.rows.now at.rows c.replace-row.new.self c.replace-at_hand.new.self at.place _ at.at_hand c.replace-row.result
          (omega (arith, c.loop-place-test.true, c.len-place-end.ensures)) at.invariant.rows one c.replace-row.ensures.before refl two;
      size = ap length two ∙ length-set c.replace-row.new.self at.place _ ∙ ap length one ∙ length-set at.rows at.place at.at_hand ∙ at.invariant.size;
    }

pub returns : goal.returns
returns c = c.loop-place.invariant.rows ∙ all_numbered c.loop-place.place c.args.rows.now (omega (arith, c.loop-place-test.false, c.len-place-end.ensures))
