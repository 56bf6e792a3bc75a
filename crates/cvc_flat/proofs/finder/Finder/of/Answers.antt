use Rattle.std.proofs.Common.{◌≡◌, ◌∷◌, ◌++◌, [], length, get_or, sym, ap, ◌∙◌, arith}
use Rattle.std.proofs.lemmas.List.{length-map, map_more}
use Rattle.cvc_flat.specs.Finder.{net_hash, way_hash}
use Rattle.cvc_flat.specs.Tables.{ways_of}
use Rattle.cvc_flat.proofs.Hashed.{count_ways, net_hash_is, no_net}
use Rattle.cvc_flat.proofs.finder.Finder.of.Goals as goal

pub of-requires : goal.of-requires
of-requires c =
    omega (arith, ap length c.in_ok-way_hashes.ensures, length-map (ways_of c.args.instances.now) (way_hash c.args.names.now c.args.parts.now), count_ways c.args.instances.now, c.requires.instance_limit)

pub net_hash-requires-clause-inside : goal.net_hash-requires-clause-inside
net_hash-requires-clause-inside c =
    let hashed = way_hash c.args.names.now c.args.parts.now in
    omega (arith, (c.requires.nets c.loop-net.net-index no_net c.loop-net-test.true).0, ap length c.in_ok-ways.ensures, ap length c.in_ok-way_hashes.ensures, length-map (ways_of c.args.instances.now) hashed, count_ways c.args.instances.now)

pub loop-net-preserved : goal.loop-net-preserved
loop-net-preserved c =
    let names = c.args.names.now in
    let parts = c.args.parts.now in
    let rows = c.args.instances.now in
    let nets = c.args.nets.now in
    let k = c.loop-net.net-index in
    let hash : c.net_hash.result ≡ net_hash names parts rows (get_or nets k no_net) =
    net_hash_is names parts rows (get_or nets k no_net) c.in_ok-ways.ways c.net_hash.result (c.requires.nets k no_net c.loop-net-test.true).0 (c.in_ok-ways.ensures ∙ c.in_ok-way_hashes.ensures) c.net_hash.ensures in
    c.in_ok-push.ensures.items ∙ (λ i. c.loop-net.invariant i ++ hash i ∷ []) ∙ sym (map_more (net_hash names parts rows) nets k no_net c.loop-net-test.true)
