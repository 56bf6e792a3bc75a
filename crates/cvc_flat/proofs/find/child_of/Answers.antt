use Rattle.std.proofs.Common.{rules, ◌≤◌, length, ap, subst, sym, ◌∙◌, arith}
use Rattle.std.proofs.lemmas.List.{length-map}
use Rattle.cvc_flat.specs.Finder.{way_hash}
use Rattle.cvc_flat.specs.Hashes.{hash_on}
use Rattle.cvc_flat.specs.Resolving.{ChildOf}
use Rattle.cvc_flat.specs.Tables.{ways_of}
use Rattle.cvc_flat.proofs.Hashed.{count_ways, found_child}
use Rattle.cvc_flat.proofs.find.child_of.Goals as goal

pub get-requires : goal.get-requires
get-requires c =
    omega (arith, c.requires.inside, ap length c.requires.hashes, length-map (ways_of c.args.instances.now) (way_hash c.args.names.now c.args.parts.now), count_ways c.args.instances.now)

pub find-requires : goal.find-requires
find-requires c = λ place below.
    let inside : place ≤ length c.args.instances.now =
    omega (arith, below, ap length c.requires.hashes, length-map (ways_of c.args.instances.now) (way_hash c.args.names.now c.args.parts.now), count_ways c.args.instances.now) in
    search rules

pub returns-in_err-child : goal.returns-in_err-child
returns-in_err-child c =
    subst (ChildOf c.args.names.now c.args.parts.now c.args.instances.now c.args.up c.args.name.now) (c.in_err-child.was ∙ sym c.from_residual.ensures)
    (found_child c.args.names.now c.args.parts.now c.args.instances.now c.args.up c.args.name.now c.args.hashes.now c.hash_on-own.result c.hash_on-hash.result _ c.find.result
    c.requires.tree c.requires.hashes c.requires.inside (c.hash_on-own.ensures ∙ ap (λ h. hash_on h c.args.name.now) c.get.ensures) c.hash_on-hash.ensures
    (λ i b few p. (λ same. search rules, λ child. search rules)) c.find.ensures)
