use Rattle.std.proofs.Common.{◌≡◌, map, take}
use Rattle.cvc_flat.specs.Finder.{way_hash}
use Rattle.cvc_flat.specs.Tables.{ways_of}
use Rattle.cvc_flat.proofs.finder.way_hashes.Given as goal

abbrev pub invariant-loop-row : goal.invariant-loop-row
invariant-loop-row l = l.hashes.items ≡ map (way_hash l.names l.parts) (ways_of (take l.row-index l.instances))
