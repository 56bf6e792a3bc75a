use Rattle.std.proofs.Common.{◌-◌, ◌<◌, length, get_or, sym, ap, ◌∙◌, arith}
use Rattle.std.specs.Cmp.Lexicographic.{bytes_decides}
use Rattle.cvc_plan.specs.Nets.{name_of_link}
use Rattle.cvc_plan.proofs.Parts.{link_is}
use Rattle.cvc_flat.specs.Tables.{no_row}
use Rattle.cvc_flat.proofs.find.is_child.Goals as goal

pub returns-then-row-up-clause-yes : goal.returns-then-row-up-clause-yes
returns-then-row-up-clause-yes c =
    let place = c.args.instance - 1 in
    let below : place < length c.args.instances.now = omega (arith, c.requires.inside, c.if-instance-eq0.false) in
    let card = (get_or c.args.instances.now place no_row).card in
    λ same. record {
      above = omega (arith, c.if-instance-eq0.false);
      inside = c.requires.inside;
      parent = c.if-row-up.true;
      named = ap name_of_link (link_is c.args.names.now c.args.parts.now card c.index-parts-row.result (c.requires.cards place no_row below) c.index-parts-row.is)
          ∙ sym c.get.ensures ∙ (bytes_decides c.get.result.now c.args.name.now).0 (sym c.eq.ensures ∙ same);
    }

pub returns-then-row-up-clause-no : goal.returns-then-row-up-clause-no
returns-then-row-up-clause-no c =
    let place = c.args.instance - 1 in
    let below : place < length c.args.instances.now = omega (arith, c.requires.inside, c.if-instance-eq0.false) in
    let card = (get_or c.args.instances.now place no_row).card in
    λ child. c.eq.ensures ∙ (bytes_decides c.get.result.now c.args.name.now).1
    (c.get.ensures ∙ sym (ap name_of_link (link_is c.args.names.now c.args.parts.now card c.index-parts-row.result (c.requires.cards place no_row below) c.index-parts-row.is)) ∙ child.named)
