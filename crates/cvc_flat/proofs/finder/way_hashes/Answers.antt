use Rattle.std.proofs.Common.{◌≡◌, ℕ, ◌<◌, ◌∷◌, ◌++◌, List, [], length, map, take, get_or, refl, ap, ◌∙◌, arith}
use Rattle.std.proofs.lemmas.List.{get_or_read, length-map, length-take-le}
use Rattle.cvc_plan.specs.declared.rows.InstancePart.{InstancePart}
use Rattle.cvc_flat.specs.declared.rows.InstanceRow.{InstanceRow}
use Rattle.cvc_flat.specs.Finder.{way_hash}
use Rattle.cvc_flat.specs.Hashes.{empty_hash, hash_on}
use Rattle.cvc_flat.specs.Tables.{IsTree, no_row, ways_of}
use Rattle.cvc_flat.proofs.Hashed.{count_ways, hashes_more, way_first}
use Rattle.cvc_flat.proofs.finder.way_hashes.Goals as goal

-- the parent's hash is known
parent_known : (names : List (List ℕ)) (parts : List InstancePart) (rows : List InstanceRow) (k : ℕ) (hashes : List ℕ) → IsTree rows → k < length rows
    → hashes ≡ map (way_hash names parts) (ways_of (take k rows)) → (get_or rows k no_row).parent < length hashes
parent_known names parts rows k hashes tree inside is =
    omega (arith, tree.parents k inside, ap length is, length-map (ways_of (take k rows)) (way_hash names parts), count_ways (take k rows), length-take-le k rows (omega arith))

pub loop-row-init : goal.loop-row-init
loop-row-init c = c.in_ok-push.ensures.items ∙ ap (λ l. l ++ empty_hash ∷ []) c.in_ok-hashes.ensures.items ∙ way_first c.args.names.now c.args.parts.now

pub index-requires : goal.index-requires
index-requires c = omega (arith, parent_known c.args.names.now c.args.parts.now c.args.instances.now c.loop-row.row-index c.loop-row.hashes.items c.requires.tree c.loop-row-test.true c.loop-row.invariant)

pub loop-row-preserved : goal.loop-row-preserved
loop-row-preserved c =
    let names = c.args.names.now in
    let parts = c.args.parts.now in
    let rows = c.args.instances.now in
    let k = c.loop-row.row-index in
    let hashes = c.loop-row.hashes.items in
    let row = get_or rows k no_row in
    let known : row.parent < length hashes = parent_known names parts rows k hashes c.requires.tree c.loop-row-test.true c.loop-row.invariant in
    let front : c.index.result.now ≡ get_or hashes row.parent 0 = get_or_read hashes row.parent c.index.result.now known c.index.ensures 0 in
    c.in_ok-push-2.ensures.items
    ∙ hashes_more names parts rows k row c.index-parts-row.result hashes c.hash_on-own.result c.hash_on.result
    c.loop-row-test.true refl (c.requires.tree.parents k c.loop-row-test.true) (c.requires.cards k no_row c.loop-row-test.true) c.index-parts-row.is
    (c.hash_on-own.ensures ∙ (λ i. hash_on (front i) (c.get.ensures i))) c.hash_on.ensures c.loop-row.invariant
