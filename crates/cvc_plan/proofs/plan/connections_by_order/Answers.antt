use Rattle.std.proofs.Common.{◌≡◌, ℕ, zero, suc, ◌<◌, ◌∷◌, ◌++◌, [], List, length, get_or, take, refl, sym, ap, ◌∙◌, arith}
use Rattle.std.proofs.lemmas.List.{take_all, take_more}
use Rattle.cvc_base.specs.declared.param.Pair.{Pair}
use Rattle.cvc_plan.specs.Nets.{paired}
use Rattle.cvc_plan.specs.Parts.{pair_of}
use Rattle.cvc_plan.proofs.Growing.{connection_more, grows_twice, pairs_more}
use Rattle.cvc_plan.proofs.plan.connections_by_order.Goals as goal

length_paired : (ports nets : List (List ℕ)) → length nets ≡ length ports → length (paired ports nets) ≡ length ports
length_paired [] nets e = refl
length_paired (p ∷ ps) [] e = absurd (omega arith)
length_paired (p ∷ ps) (n ∷ ns) e = let h = length_paired ps ns (omega arith) in omega (arith, h)

paired_at : (ports nets : List (List ℕ)) (i : ℕ) (d e : List ℕ) (z : Pair) → length nets ≡ length ports → i < length ports → get_or (paired ports nets) i z ≡ record { name = get_or ports i d; value = get_or nets i e }
paired_at [] nets i d e z l h = absurd (omega arith)
paired_at (p ∷ ps) [] i d e z l h = absurd (omega arith)
paired_at (p ∷ ps) (n ∷ ns) zero d e z l h = refl
paired_at (p ∷ ps) (n ∷ ns) (suc i) d e z l h = paired_at ps ns i d e z (omega arith) (omega arith)

no_pair : Pair
no_pair = record { name = []; value = [] }

pub loop-place-preserved : goal.loop-place-preserved
loop-place-preserved c =
    let old = c.loop-place.names in
    let new = c.connection.new.names in
    let ports = c.args.ports.now in
    let nets = c.args.nets.now in
    let k = c.loop-place.place in
    let done : List Pair = take k (paired ports nets) in
    let inside : k < length ports = c.loop-place-test.true in
    let pair : pair_of new c.in_ok-connection.field-0 ≡ get_or (paired ports nets) k no_pair =
    c.in_ok-connection.ensures.pair ∙ (λ i. record { name = c.bytes.ensures i; value = c.bytes-in-loop-place.ensures i })
    ∙ (λ i. record { name = c.index-ports-place.is i; value = c.index-nets-place.is i }) ∙ sym (paired_at ports nets k c.index-ports-place.result c.index-nets-place.result no_pair c.requires inside) in
    record {
      grows = grows_twice c.args.names.now old new c.loop-place.invariant.grows c.in_ok-connection.ensures.grows;
      within = connection_more old new c.loop-place.connections.items c.push.new.self.items c.in_ok-connection.field-0 c.in_ok-connection.ensures.grows c.loop-place.invariant.within c.in_ok-connection.ensures.within c.in_ok-push.ensures.items;
      pairs = pairs_more old new c.loop-place.connections.items c.push.new.self.items c.in_ok-connection.field-0 done c.in_ok-connection.ensures.grows c.loop-place.invariant.within c.in_ok-push.ensures.items c.loop-place.invariant.pairs
          ∙ ap (λ (p : Pair). done ++ p ∷ []) pair
          ∙ sym (take_more (paired ports nets) k no_pair (omega (arith, length_paired ports nets c.requires, inside)));
    }

pub returns-clause-pairs : goal.returns-clause-pairs
returns-clause-pairs c =
    let long = length_paired c.args.ports.now c.args.nets.now c.requires in
    c.loop-place.invariant.pairs ∙ take_all c.loop-place.place (paired c.args.ports.now c.args.nets.now) (omega (arith, long, c.loop-place-test.false))
