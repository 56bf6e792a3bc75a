use Rattle.std.proofs.Common.{[], arith, sym, subst}
use Rattle.std.specs.Prelude.{None, false}
use Rattle.cvc_law.specs.declared.interval.Reads.{Reads}
use Rattle.cvc_law.specs.Reach.{device_at}
use Rattle.cvc_law.proofs.ReachBoth.{six_reads}
use Rattle.cvc_field.specs.Runs.{IsGiving}
use Rattle.cvc_field.proofs.Going.{goes_on}
use Rattle.cvc_field.proofs.Loading.{loaded_to_end, all_loaded}
use Rattle.cvc_field.proofs.field.Field.load_all.Goals as goal

pub load_one-requires-clause-few : goal.load_one-requires-clause-few
load_one-requires-clause-few c = let few = six_reads (device_at c.args.self.now.circuit.now c.args.d.0).kind in omega (arith, c.read_count-read-end.ensures)

pub loop-read-preserved : goal.loop-read-preserved
loop-read-preserved c = record {
  seat = c.load_one.ensures.seat;
  loaded = c.load_one.ensures.loading;
  goes = goes_on c.args.seat.now.me.0 c.loop-read.seat.me.0 c.load_one.new.seat.me.0 [] [] c.loop-read.invariant.goes c.load_one.ensures.goes;
}

pub returns-clause-loaded : goal.returns-clause-loaded
returns-clause-loaded c = let n = c.args.self.now.circuit.now in subst (λ (r : Reads). IsGiving n c.args.d r 0 None false c.loop-read.seat.me.0.actor) (sym c.reads_of.ensures)
    (all_loaded n c.args.d c.loop-read.bounds c.loop-read.seat.me.0.actor c.nets-circuit.ensures.circuit c.requires.device
    (loaded_to_end n c.args.d c.read_count-read-end.result c.loop-read.read c.loop-read.bounds c.loop-read.seat.me.0.actor c.read_count-read-end.ensures c.loop-read.auto.read-end c.loop-read-test.false c.loop-read.invariant.loaded))
