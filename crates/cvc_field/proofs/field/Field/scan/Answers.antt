use Rattle.std.proofs.Common.{arith, ◌+◌, false}
use Rattle.cvc_field.proofs.Turning.{nothing_scanned, scan_empty, scan_idle, scan_shorter, scanned_on, scanned_run}
use Rattle.cvc_field.proofs.field.Field.scan.Goals as goal

pub loop-d-init : goal.loop-d-init
loop-d-init c = record {
  seat = c.requires.seat;
  low = omega arith;
  high = omega arith;
  scanned = nothing_scanned c.args.self.now.circuit.now c.args.seat.now.me.0 c.args.from c.args.from c.args.tray.now.items (omega arith) c.requires.empty;
}

pub try_one-requires-clause-idle : goal.try_one-requires-clause-idle
try_one-requires-clause-idle c = scan_idle c.args.self.now.circuit.now c.args.from c.loop-d.d false c.args.seat.now.me.0 c.loop-d.seat.me.0 c.loop-d.tray.items c.loop-d.invariant.scanned c.requires.idle

pub try_one-requires-clause-empty : goal.try_one-requires-clause-empty
try_one-requires-clause-empty c = scan_empty c.args.self.now.circuit.now c.args.from c.loop-d.d c.args.seat.now.me.0 c.loop-d.seat.me.0 c.loop-d.tray.items c.loop-d.invariant.scanned

pub returns-then-try_one-clause-done : goal.returns-then-try_one-clause-done
returns-then-try_one-clause-done c = scanned_run c.args.self.now.circuit.now c.args.from c.loop-d.d c.args.to c.args.seat.now.me.0 c.loop-d.seat.me.0 c.try_one.new.seat.me.0 c.loop-d.tray.items c.try_one.new.tray.items c.loop-d.invariant.low c.loop-d-test.true c.loop-d.invariant.scanned c.if-try_one.ensures.done

pub loop-d-preserved : goal.loop-d-preserved
loop-d-preserved c = record {
  seat = c.try_one.ensures.seat;
  low = let low = c.loop-d.invariant.low in omega arith;
  high = let within = c.loop-d-test.true in omega arith;
  scanned = scanned_on c.args.self.now.circuit.now c.args.from c.loop-d.d (c.loop-d.d + 1) c.args.seat.now.me.0 c.loop-d.seat.me.0 c.try_one.new.seat.me.0 c.loop-d.tray.items c.try_one.new.tray.items c.loop-d.invariant.low (omega arith) c.loop-d.invariant.scanned c.if-try_one.ensures.done;
}

pub returns-clause-done : goal.returns-clause-done
returns-clause-done c = scan_shorter c.args.self.now.circuit.now c.args.from c.loop-d.d c.args.to c.args.seat.now.me.0 c.loop-d.seat.me.0 c.loop-d.tray.items c.loop-d-test.false c.loop-d.invariant.high c.loop-d.invariant.scanned
