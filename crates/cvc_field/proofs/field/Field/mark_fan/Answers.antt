use Rattle.std.proofs.Common.{slice_index_or, ap, ◌∙◌}
use Rattle.std.specs.Prelude.{Option}
use Rattle.cvc_core.specs.declared.actor.Debt.{Debt}
use Rattle.cvc_core.specs.declared.actor.Actor.TheVariants.{Running}
use Rattle.cvc_core.specs.State.{run_of}
use Rattle.cvc_field.specs.Runs.{with_debt}
use Rattle.cvc_field.proofs.Going.{goes_nowhere, notes_nothing, notes_on}
use Rattle.cvc_field.proofs.Giving.{fan_begins, fan_place, fan_owes, fan_next, fan_ended}
use Rattle.cvc_field.proofs.field.Field.mark_fan.Goals as goal

pub loop-d-init : goal.loop-d-init
loop-d-init c = record {
  seat = c.requires.seat;
  actor = fan_begins c.args.self.now.circuit.now c.args.net.0 c.args.spare c.args.seat.now.me.0.actor c.requires.marking;
  goes = notes_nothing c.args.seat.now.me.0 c.args.seat.now.me.0 c.args.tray.now.items c.requires.room (goes_nowhere c.args.seat.now.me.0);
}

pub mark_next-spare-requires-clause-owing : goal.mark_next-spare-requires-clause-owing
mark_next-spare-requires-clause-owing c = let n = c.args.self.now.circuit.now in let l = c.fan-d-items.result.now in let i = c.loop-d.d-index in
    let at = fan_place n c.args.net.0 i l (record { 0 = 0 }) c.fan-d-items.ensures.fan c.loop-d-test.true in
    fan_owes n c.args.net.0 i (slice_index_or l i (record { 0 = 0 })) c.loop-d.spare (run_of c.args.seat.now.me.0.actor) c.loop-d.seat.me.0.actor at.0 at.1 c.loop-d.invariant.actor

pub loop-d-preserved : goal.loop-d-preserved
loop-d-preserved c = let n = c.args.self.now.circuit.now in let l = c.fan-d-items.result.now in let i = c.loop-d.d-index in
    let at = fan_place n c.args.net.0 i l (record { 0 = 0 }) c.fan-d-items.ensures.fan c.loop-d-test.true in record {
      seat = c.mark_next-spare.ensures.seat;
      actor = fan_next n c.args.net.0 i c.loop-d.spare c.mark_next-spare.result (run_of c.args.seat.now.me.0.actor) c.loop-d.seat.me.0.actor c.mark_next-spare.new.seat.me.0.actor at.0 c.loop-d.invariant.actor c.mark_next-spare.ensures.actor;
      goes = notes_on c.args.seat.now.me.0 c.loop-d.seat.me.0 c.mark_next-spare.new.seat.me.0 c.args.tray.now.items c.loop-d.tray.items c.mark_next-spare.new.tray.items c.loop-d.invariant.goes c.mark_next-spare.ensures.goes;
    }

pub returns-clause-actor : goal.returns-clause-actor
returns-clause-actor c = c.loop-d.invariant.actor ∙ ap (λ (o : Option Debt). Running (with_debt o c.loop-d.spare (run_of c.args.seat.now.me.0.actor))) (fan_ended c.args.self.now.circuit.now c.args.net.0 c.loop-d.d-index c.fan-d-items.result.now c.fan-d-items.ensures.fan c.loop-d-test.false)
