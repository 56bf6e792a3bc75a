use Rattle.std.proofs.Common.{◌≡◌, Some, None, sym, ap, ◌∙◌}
use Rattle.std.specs.Prelude.{position}
use Rattle.std.specs.Option.{option_map}
use Rattle.std.specs.Str.{bytes_eq}
use Rattle.cvc_base.specs.declared.param.Pair.{Pair}
use Rattle.cvc_names.specs.Names.{place_of}
use Rattle.cvc_plan.specs.Pins.{name_of_pair}
use Rattle.cvc_plan.proofs.Lists.{place_map}
use Rattle.cvc_plan.proofs.Planned.{first_found, none_found}
use Rattle.cvc_plan.proofs.pins.net_among.Goals as goal

pub returns-in_err-place : goal.returns-in_err-place
returns-in_err-place c =
    let pairs = c.args.pairs.now in
    let port = c.args.port.now in
    let at : None ≡ position (λ (p : Pair). bytes_eq port p.name) pairs = c.in_err-place.ensures.place ∙ ap (λ ns. place_of ns port) c.requires ∙ place_map (bytes_eq port) name_of_pair pairs in
    ap (option_map (λ text. text.now)) c.from_residual.ensures ∙ sym (ap (option_map (λ (p : Pair). p.value)) (none_found (λ (p : Pair). bytes_eq port p.name) pairs (sym at)))

pub returns : goal.returns
returns c =
    let pairs = c.args.pairs.now in
    let port = c.args.port.now in
    let pair = c.index-pairs-place.result in
    let at : Some c.in_ok-place.place ≡ position (λ (p : Pair). bytes_eq port p.name) pairs = c.in_ok-place.ensures.place ∙ ap (λ ns. place_of ns port) c.requires ∙ place_map (bytes_eq port) name_of_pair pairs in
    let found = first_found (λ (p : Pair). bytes_eq port p.name) pairs c.in_ok-place.place pair (sym at) in
    ap Some (c.bytes.ensures ∙ ap (λ (p : Pair). p.value) c.index-pairs-place.is) ∙ sym (ap (option_map (λ (p : Pair). p.value)) found.1)
