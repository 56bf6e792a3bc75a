use Rattle.std.proofs.Common.{◌≡◌, ℕ, List, [], map, drop, refl, sym, ap, ◌∙◌}
use Rattle.std.specs.Prelude.{None, Some}
use Rattle.std.specs.Option.{option_and_then, option_or}
use Rattle.cvc_flat.specs.FindNet.{find_net, net_named, number_among, number_printed, pieces}
use Rattle.cvc_flat.specs.Flat.{FlatList}
use Rattle.cvc_flat.specs.Held.{Held}
use Rattle.cvc_flat.specs.Tables.{Tables, held_of, net_at, path_of, ways_of}
use Rattle.cvc_flat.proofs.flat.Flat.place_of_net.Goals as goal

printed_first : (f : FlatList) (text : List ℕ) (k : ℕ) → number_printed f.nets text ≡ Some k → find_net f text ≡ Some k
unfolding find_net
printed_first f text k e = ap (λ o. option_or o (option_and_then (number_among f.nets) (net_named f [] (pieces text)))) e

named_second : (f : FlatList) (text : List ℕ) → number_printed f.nets text ≡ None → find_net f text ≡ option_and_then (number_among f.nets) (net_named f [] (pieces text))
unfolding find_net
named_second f text e = ap (λ o. option_or o (option_and_then (number_among f.nets) (net_named f [] (pieces text)))) e

pub returns-in-Some-clause-place : goal.returns-in-Some-clause-place
returns-in-Some-clause-place c =
    let s = c.self.inside in
    let t : Tables = record { top = s.top; names = s.names; globals = s.globals; parts = s.parts.items; cards = s.cards.items; groups = s.groups.items; instances = s.instances.items; devices = s.devices.items; nets = s.nets.items } in
    let text = c.args.name.now in
    let parts = c.deref.result.now in
    let rows = c.deref-2.result.now in
    let e : number_printed (held_of t).list.nets text ≡ Some c.in-Some.place =
    ap (λ ps. number_printed (map (net_at s.names ps (ways_of s.instances.items)) s.nets.items) text) (sym c.deref.ensures.value)
    ∙ ap (λ rs. number_printed (map (net_at s.names parts (ways_of rs)) s.nets.items) text) (sym c.deref-2.ensures.value)
    ∙ ap (λ ns. number_printed (map (net_at s.names parts (ways_of rows)) ns) text) (sym c.deref-3.ensures.value)
    ∙ sym c.first_printed.ensures.place ∙ c.in-Some.is in
    sym (printed_first (held_of t).list text c.in-Some.place e) ∙ ap (λ (h : Held). find_net h.list text) c.self.view_is

pub returns-in-None-clause-place : goal.returns-in-None-clause-place
returns-in-None-clause-place c =
    let s = c.self.inside in
    let t : Tables = record { top = s.top; names = s.names; globals = s.globals; parts = s.parts.items; cards = s.cards.items; groups = s.groups.items; instances = s.instances.items; devices = s.devices.items; nets = s.nets.items } in
    let text = c.args.name.now in
    let f : FlatList = (held_of t).list in
    let parts = c.deref.result.now in
    let rows = c.deref-2.result.now in
    let e : number_printed f.nets text ≡ None =
    ap (λ ps. number_printed (map (net_at s.names ps (ways_of s.instances.items)) s.nets.items) text) (sym c.deref.ensures.value)
    ∙ ap (λ rs. number_printed (map (net_at s.names parts (ways_of rs)) s.nets.items) text) (sym c.deref-2.ensures.value)
    ∙ ap (λ ns. number_printed (map (net_at s.names parts (ways_of rows)) ns) text) (sym c.deref-3.ensures.value)
    ∙ sym c.first_printed.ensures.place ∙ c.in-None.is in
    let parts2 = c.deref-in-None.result.now in
    let rows2 = c.deref-in-None-2.result.now in
    let second = net_named f [] (pieces text) in
    c.first_named.ensures.place f refl
    (ap (λ ps. map (path_of s.names ps) (drop 1 (ways_of s.instances.items))) (sym c.deref-in-None.ensures.value)
    ∙ ap (λ rs. map (path_of s.names parts2) (drop 1 (ways_of rs))) (sym c.deref-in-None-2.ensures.value))
    ∙ ap (λ ns. option_and_then (number_among (map (net_at s.names parts2 (ways_of rows2)) ns)) second) c.deref-in-None-3.ensures.value
    ∙ ap (λ rs. option_and_then (number_among (map (net_at s.names parts2 (ways_of rs)) s.nets.items)) second) c.deref-in-None-2.ensures.value
    ∙ ap (λ ps. option_and_then (number_among (map (net_at s.names ps (ways_of s.instances.items)) s.nets.items)) second) c.deref-in-None.ensures.value
    ∙ sym (named_second f text e)
    ∙ ap (λ (h : Held). find_net h.list text) c.self.view_is
