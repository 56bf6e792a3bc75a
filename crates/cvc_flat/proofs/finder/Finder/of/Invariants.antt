use Rattle.std.proofs.Common.{◌≡◌, map, take}
use Rattle.cvc_flat.specs.Finder.{net_hash}
use Rattle.cvc_flat.proofs.finder.Finder.of.Given as goal

abbrev pub invariant-loop-net : goal.invariant-loop-net
invariant-loop-net l = l.hashes.items ≡ map (net_hash l.names l.parts l.instances) (take l.net-index l.nets)
