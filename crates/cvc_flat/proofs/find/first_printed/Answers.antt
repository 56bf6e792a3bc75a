use Rattle.std.proofs.Common.{rules, ◌<◌, List, ℕ, length, sym, ap, subst, ◌∙◌}
use Rattle.std.specs.Prelude.{IfSome}
use Rattle.std.specs.Str.{bytes_eq}
use Rattle.std.proofs.lemmas.List.{length-map}
use Rattle.cvc_plan.specs.declared.rows.NetRow.{NetRow}
use Rattle.cvc_plan.specs.Nets.{Net}
use Rattle.cvc_plan.proofs.Lists.{place_map}
use Rattle.cvc_flat.specs.FindNet.{printed_net}
use Rattle.cvc_flat.specs.Finder.{net_hash}
use Rattle.cvc_flat.specs.Tables.{net_at, ways_of}
use Rattle.cvc_flat.proofs.Hashed.{found_first, no_net, printed_hash}
use Rattle.cvc_flat.proofs.find.first_printed.Goals as goal

pub returns-clause-inside : goal.returns-clause-inside
returns-clause-inside c =
    subst (λ n. IfSome c.find.result (λ k. k < n)) (ap length c.requires.finder.nets ∙ length-map c.args.nets.now (net_hash c.args.names.now c.args.parts.now c.args.instances.now)) c.find.ensures.inside

pub returns-clause-place : goal.returns-clause-place
returns-clause-place c =
    let names = c.args.names.now in
    let parts = c.args.parts.now in
    let rows = c.args.instances.now in
    let nets = c.args.nets.now in
    let text : List ℕ = c.args.text.now in
    found_first (λ (r : NetRow). bytes_eq text (printed_net (net_at names parts (ways_of rows) r))) (net_hash names parts rows) nets no_net c.args.finder.now.nets c.hash_on-hash.result _ c.find.result c.requires.finder.nets
    (λ r same. printed_hash names parts rows text r same ∙ sym c.hash_on-hash.ensures) (λ j b inside p. search rules) c.find.ensures
    ∙ sym (place_map (λ (n : Net). bytes_eq text (printed_net n)) (net_at names parts (ways_of rows)) nets)
