use Rattle.std.proofs.Common.{[]}
use Rattle.cvc_field.proofs.Going.{notes_nothing, notes_on, notes_few, goes_on}
use Rattle.cvc_field.proofs.field.Field.run.Goals as goal

pub loop-slot-init : goal.loop-slot-init
loop-slot-init c = record {
  seat = c.load_all-reads.ensures.seat;
  giving = c.load_all-reads.ensures.loaded;
  room = c.requires.room;
  goes = notes_nothing c.args.seat.now.me.0 c.load_all-reads.new.seat.me.0 c.args.tray.now.items c.requires.room c.load_all-reads.ensures.goes;
}

pub loop-slot-preserved : goal.loop-slot-preserved
loop-slot-preserved c = record {
  seat = c.give_slot-spare.ensures.seat;
  giving = c.give_slot-spare.ensures.giving;
  room = notes_few c.loop-slot.seat.me.0 c.give_slot-spare.new.seat.me.0 c.loop-slot.tray.items c.give_slot-spare.new.tray.items c.give_slot-spare.ensures.goes;
  goes = notes_on c.args.seat.now.me.0 c.loop-slot.seat.me.0 c.give_slot-spare.new.seat.me.0 c.args.tray.now.items c.loop-slot.tray.items c.give_slot-spare.new.tray.items c.loop-slot.invariant.goes c.give_slot-spare.ensures.goes;
}

pub returns-clause-goes : goal.returns-clause-goes
returns-clause-goes c = let few = notes_few c.args.seat.now.me.0 c.loop-slot.seat.me.0 c.args.tray.now.items c.loop-slot.tray.items c.loop-slot.invariant.goes in
    notes_on c.args.seat.now.me.0 c.loop-slot.seat.me.0 c.give_last.new.seat.me.0 c.args.tray.now.items c.loop-slot.tray.items c.loop-slot.tray.items c.loop-slot.invariant.goes
    (notes_nothing c.loop-slot.seat.me.0 c.give_last.new.seat.me.0 c.loop-slot.tray.items few
    (goes_on c.loop-slot.seat.me.0 c.give_spare.new.seat.me.0 c.give_last.new.seat.me.0 [] [] (goes_on c.loop-slot.seat.me.0 c.leave.new.seat.me.0 c.give_spare.new.seat.me.0 [] [] c.leave.ensures.goes c.give_spare.ensures.goes) c.give_last.ensures.goes))
