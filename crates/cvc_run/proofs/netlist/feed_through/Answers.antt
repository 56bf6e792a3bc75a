use Rattle.std.proofs.Common.{◌++◌, take, ◌∙◌, arith}
use Rattle.std.proofs.lemmas.Result.{err_from_is_err_and}
use Rattle.cvc_run.specs.Reader.{IsDecided}
use Rattle.cvc_run.specs.Rests.{IsFaultOf, OfRest}
use Rattle.cvc_run.proofs.Loading.{at_load, reader_at_weaker}
use Rattle.cvc_run.proofs.Netlists.{counted, fed_decided, fed_more, longer}
use Rattle.cvc_run.proofs.netlist.feed_through.Goals as goal

pub returns-in_err-feed-clause-decided : goal.returns-in_err-feed-clause-decided
returns-in_err-feed-clause-decided g c =
    let fed = c.pieces.invariant.fed in
    let piece = take c.in-Ok.count c.read.new.buf in
    let old = g.S.Shelf.standing c.args.shelf.now in
    let p = err_from_is_err_and c.from_residual.result c.from_residual.ensures.1 in
    rw (p.1, p.2)
    (at_load (Unit {0}) c.in_err-feed.field-0.0 (λ fault. OfRest old (IsFaultOf fault))
    (reader_at_weaker c.in_err-feed.field-0.0 (IsDecided (fed.stream ++ piece)) (λ fault. OfRest old (IsFaultOf fault))
    (λ fault decided. fed_decided old (g.S.Shelf.standing c.pieces.shelf) (g.S.Shelf.standing c.read.new.self) c.pieces.reader piece fault fed c.in-Ok.ensures.bytes.0 decided)
    (c.in_err-feed.ensures.decided fed.stream fed.read)))

pub pieces-preserved : goal.pieces-preserved
pieces-preserved g c =
    let fed = c.pieces.invariant.fed in
    let piece = take c.in-Ok.count c.read.new.buf in
    record {
      room = omega (arith, c.read.auto.buf, c.pieces.invariant.room);
      files = c.in-Ok.ensures.files ∙ c.pieces.invariant.files;
      counts = λ name. omega (arith, c.pieces.invariant.counts name, c.in-Ok.ensures.counts name);
      fed = fed_more (g.S.Shelf.standing c.args.shelf.now) (g.S.Shelf.standing c.pieces.shelf) (g.S.Shelf.standing c.read.new.self) c.pieces.reader c.feed.new.self piece fed c.in-Ok.ensures.bytes.0
          (c.in_ok-feed.ensures.read fed.stream fed.read);
    }

pub pieces-smaller : goal.pieces-smaller
pieces-smaller g c =
    let fed = c.pieces.invariant.fed in
    let piece = take c.in-Ok.count c.read.new.buf in
    let old = counted c.pieces.reader fed.stream fed.read in
    let new = counted c.feed.new.self (fed.stream ++ piece) (c.in_ok-feed.ensures.read fed.stream fed.read) in
    omega (arith, old.0, new.0, new.1, longer c.pieces.reader c.feed.new.self fed.stream c.read.new.buf c.in-Ok.count old.0 new.0 c.in-Ok.ensures.bound.0, c.if-count-eq0.false)
