use Rattle.std.proofs.Common.{length, map, arith}
use Rattle.cvc_expect.specs.Rows.{name_of}
use Rattle.cvc_expect.proofs.Apart.{few_found}
use Rattle.cvc_expect.proofs.listing.list_missed.Goals as goal

pub prove-unreachable-requires : goal.prove-unreachable-requires
prove-unreachable-requires c =
    let few = few_found c.args.flat.now.list (map name_of c.as_slice-rows.result.now) c.in-Ok.nets.items (length c.args.flat.now.list.nets) (rw c.in-Ok.is at c.in_ok-nets.ensures.nets) (rw c.in-Ok.is at c.in_ok-nets.ensures.inside) in
    omega (arith, few, c.if-prove.true, c.nets.ensures.count, c.len.ensures, c.in-Ok.nets.ok.0)
