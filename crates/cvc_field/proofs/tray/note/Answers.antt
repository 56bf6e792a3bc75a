use Rattle.std.proofs.Common.{◌∙◌, sym, eqb-true, length}
use Rattle.cvc_field.proofs.Going.{noted_before, noted_now, noted_full, noted_room, room_left}
use Rattle.cvc_field.proofs.tray.note.Goals as goal

pub returns-then-was_queued : goal.returns-then-was_queued
returns-then-was_queued c = noted_before c.args.tray.now.items c.args.d c.args.was_queued c.if-was_queued.true c.is_full-full.ensures.fits

pub returns-then-full : goal.returns-then-full
returns-then-full c = noted_now c.args.tray.now.items c.args.tray.now.items c.args.d c.args.was_queued c.if-was_queued.false (noted_full c.args.tray.now.items c.args.d (eqb-true (length c.args.tray.now.items) 32 (sym c.is_full-full.ensures.value ∙ c.if-full.true)))

pub returns : goal.returns
returns c = noted_now c.args.tray.now.items c.push.new.self.items c.args.d c.args.was_queued c.if-was_queued.false (c.push.ensures.items ∙ noted_room c.args.tray.now.items c.args.d (room_left (length c.args.tray.now.items) (sym c.is_full-full.ensures.value ∙ c.if-full.false) c.is_full-full.ensures.fits))
