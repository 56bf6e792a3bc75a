use Rattle.std.proofs.Common.{arith}
use Rattle.cvc_field.proofs.Turning.{scan_empty, turn_first, turn_second, turn_idle, turn_quiet, counted}
use Rattle.cvc_field.proofs.field.Field.go_round.Goals as goal

pub returns-then-scan-clause-done : goal.returns-then-scan-clause-done
returns-then-scan-clause-done c = turn_first c.args.self.now.circuit.now c.args.first c.devices-devices.result c.args.seat.now.me.0 c.scan.new.seat.me.0 c.scan.new.tray.items c.devices-devices.ensures.count c.if-scan.ensures.done

pub scan-requires-2-clause-empty : goal.scan-requires-2-clause-empty
scan-requires-2-clause-empty c = scan_empty c.args.self.now.circuit.now c.args.first c.devices-devices.result c.args.seat.now.me.0 c.scan.new.seat.me.0 c.scan.new.tray.items c.if-scan.ensures.done

pub returns-then-scan-2-clause-done : goal.returns-then-scan-2-clause-done
returns-then-scan-2-clause-done c = turn_second c.args.self.now.circuit.now c.args.first c.devices-devices.result c.lesser-stop.result c.args.seat.now.me.0 c.scan.new.seat.me.0 c.scan-2.new.seat.me.0 c.scan.new.tray.items c.scan-2.new.tray.items c.devices-devices.ensures.count c.lesser-stop.ensures c.if-scan.ensures.done c.if-scan-2.ensures.done

pub returns-then-read_count-eq0-clause-done : goal.returns-then-read_count-eq0-clause-done
returns-then-read_count-eq0-clause-done c = turn_quiet c.args.self.now.circuit.now c.args.first c.devices-devices.result c.lesser-stop.result c.read_count.result c.args.seat.now.me.0 c.scan.new.seat.me.0 c.scan-2.new.seat.me.0 c.read_count.new.seat.me.0 c.scan.new.tray.items c.scan-2.new.tray.items c.devices-devices.ensures.count c.lesser-stop.ensures
    c.if-scan.ensures.done c.if-scan-2.ensures.done (counted c.read_count.result c.scan-2.new.seat.me.0 c.read_count.new.seat.me.0 c.read_count.ensures.step) c.if-read_count-eq0.true

pub returns-clause-done : goal.returns-clause-done
returns-clause-done c = turn_idle c.args.self.now.circuit.now c.args.first c.devices-devices.result c.lesser-stop.result c.read_count.result c.args.seat.now.me.0 c.scan.new.seat.me.0 c.scan-2.new.seat.me.0 c.read_count.new.seat.me.0 c.scan.new.tray.items c.scan-2.new.tray.items c.devices-devices.ensures.count c.lesser-stop.ensures
    c.if-scan.ensures.done c.if-scan-2.ensures.done (counted c.read_count.result c.scan-2.new.seat.me.0 c.read_count.new.seat.me.0 c.read_count.ensures.step) (let some_count = c.if-read_count-eq0.false in omega arith)
