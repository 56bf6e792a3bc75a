use Rattle.std.proofs.Common.{◌<◌, length, map, ap, subst, sym, ◌≡◌, false, ◌∙◌, arith}
use Rattle.cvc_card.specs.Card.{has_twice}
use Rattle.cvc_cdl.specs.declared.netlist.Cell.{Cell}
use Rattle.cvc_cdl.specs.Instances.{all_cells}
use Rattle.cvc_cdl.specs.Netlist.{name_of_cell, name_of_global}
use Rattle.cvc_plan.specs.declared.rows.DevicePart.{DevicePart}
use Rattle.cvc_plan.specs.Parts.{IsPart}
use Rattle.cvc_plan.specs.Planning.{openings_at}
use Rattle.cvc_plan.proofs.Growing.{grows_length}
use Rattle.cvc_plan.proofs.Lists.{all_none}
use Rattle.cvc_plan.proofs.Planned.{formed_at, names_front, none_kept}
use Rattle.cvc_plan.proofs.cards.open_plan.Goals as goal

pub port_names-requires : goal.port_names-requires
port_names-requires c =
    subst (λ ports. has_twice ports ≡ false) (sym (c.as_slice-2.ensures ∙ ap (λ (x : Cell). x.ports) c.cell_of-first.ensures)) (formed_at c.args.netlist.now c.in_ok-top.top c.requires c.in_ok-top.ensures.inside).ports

pub returns : goal.returns
returns c =
    let n = c.args.netlist.now in
    let first = c.in_ok-names.names in
    let names = c.openings_of.new.names in
    let grown = c.in_ok-openings.ensures.grows in
    let top = c.cell_of-first.ensures ∙ c.in_ok-top.ensures.top in
    let again = c.as_slice-4.ensures in
    record {
      apart = c.check_count.ensures.apart;
      name_count = c.in_ok-check_count.ensures.count;
      below = omega (arith, c.len-globals.ensures.count, grows_length first names grown);
      globals = names_front first names c.len-globals.result grown c.len-globals.ensures.count ∙ c.in_ok-names.ensures ∙ ap (map name_of_global) c.as_slice-3.ensures;
      cards = record { parts = all_none (IsPart names) _ c.new.ensures.items; devices = all_none (λ (d : DevicePart). d.name < length names) _ c.new-2.ensures.items };
      cells = none_kept n _ (all_cells n) c.in_ok-cells.cells.items c.in_ok-cells.ensures;
      known = c.in_ok-top.ensures.inside;
      top = c.in_ok-top.ensures.top;
      openings = c.in_ok-openings.ensures.openings ∙ (λ i. openings_at (again i) (top i));
      opened = c.in_ok-openings.ensures.within;
      places = c.in_ok-places.ensures ∙ ap (map name_of_cell) c.as_slice.ensures;
      ports = c.in_ok-ports.ensures ∙ c.as_slice-2.ensures ∙ ap (λ (x : Cell). x.ports) top;
    }
