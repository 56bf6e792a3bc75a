use Rattle.std.proofs.Common.{◌≡◌, true, false, sym, ap, ◌∙◌}
use Rattle.std.specs.Prelude.{is_ok, Some}
use Rattle.std.specs.Str.{str_to_ascii_lowercase}
use Rattle.cvc_card.specs.Words.{is_number}
use Rattle.cvc_params.specs.Params.{seen_from}
use Rattle.cvc_params.specs.Seen.{scope_in, use_in}
use Rattle.cvc_params.proofs.Answering.{ends_after, ends_here, known_found}
use Rattle.cvc_params.proofs.Givens.{lower_twice}
use Rattle.cvc_params.proofs.Sighting.{next_name, next_number}
use Rattle.cvc_params.proofs.params.Sight.step.Goals as goal

pub returns-then-is_ok : goal.returns-then-is_ok
returns-then-is_ok c =
    let u = use_in c.args.self.now.levels.items c.args.spot in
    let number : is_number c.args.spot.text.now ≡ true = ap is_ok (sym c.read_number.ensures.number) ∙ sym c.if-is_ok.ensures.value in
    ends_here c.args.self.now.netlist.now u (next_number c.args.self.now.netlist.now u number)

pub returns-in-Some : goal.returns-in-Some
returns-in-Some c =
    let n = c.args.self.now.netlist.now in
    let levels = c.args.self.now.levels.items in
    let u = use_in levels c.args.spot in
    let s = scope_in levels c.args.spot.site in
    let low = c.as_slice.result.now in
    let e : low ≡ str_to_ascii_lowercase c.args.spot.text.now = c.as_slice.ensures.value ∙ c.in_ok-low.ensures in
    let word : is_number c.args.spot.text.now ≡ false = ap is_ok (sym c.read_number.ensures.number) ∙ sym c.if-is_ok.ensures.value in
    let answer = known_found n s c.known_at.result.now low c.in-Some.end.now c.known_at.ensures c.in-Some.ensures in
    ends_after n u answer.to c.in-Some.end.now (next_name n u low word e ∙ answer.seen) answer.ends

pub seen_from-requires-clause-lower : goal.seen_from-requires-clause-lower
seen_from-requires-clause-lower c =
    let e : c.as_slice-2.result.now ≡ str_to_ascii_lowercase c.args.spot.text.now = c.as_slice-2.ensures.value ∙ c.in_ok-low.ensures in
    ap str_to_ascii_lowercase e ∙ lower_twice c.args.spot.text.now ∙ sym e

pub returns-in-Some-seen_from : goal.returns-in-Some-seen_from
returns-in-Some-seen_from c =
    let n = c.args.self.now.netlist.now in
    let levels = c.args.self.now.levels.items in
    let u = use_in levels c.args.spot in
    let low = c.as_slice-2.result.now in
    let e : low ≡ str_to_ascii_lowercase c.args.spot.text.now = c.as_slice-2.ensures.value ∙ c.in_ok-low.ensures in
    let word : is_number c.args.spot.text.now ≡ false = ap is_ok (sym c.read_number.ensures.number) ∙ sym c.if-is_ok.ensures.value in
    let some : seen_from n (scope_in levels c.args.spot.site) low ≡ Some (use_in levels c.in-Some-seen_from.seen) = sym c.in-Some-seen_from.ensures.spot in
    record {
      step = next_name n u low word e ∙ some;
      name = ap (seen_from n (scope_in levels c.args.spot.site)) (sym e) ∙ some;
      inside = c.in-Some-seen_from.ensures.inside;
    }

pub returns : goal.returns
returns c =
    let n = c.args.self.now.netlist.now in
    let levels = c.args.self.now.levels.items in
    let u = use_in levels c.args.spot in
    let low = c.as_slice-2.result.now in
    let e : low ≡ str_to_ascii_lowercase c.args.spot.text.now = c.as_slice-2.ensures.value ∙ c.in_ok-low.ensures in
    let word : is_number c.args.spot.text.now ≡ false = ap is_ok (sym c.read_number.ensures.number) ∙ sym c.if-is_ok.ensures.value in
    ends_here n u (next_name n u low word e ∙ sym c.in-None.ensures.spot)
