use Rattle.std.proofs.Common.{◌≡◌, ap, arith, length, map}
use Rattle.std.specs.Prelude.{is_some}
use Rattle.std.proofs.lemmas.List.{length-map}
use Rattle.cvc_core.specs.declared.actor.Intent.TheVariants.{Queue}
use Rattle.cvc_core.specs.Store.{machine_of, mark_word}
use Rattle.cvc_core.proofs.Trying.{none_runs, run_done, run_debt_net, run_due_marked}
use Rattle.cvc_core.proofs.MarkWords.{queue_effect}
use Rattle.cvc_core.proofs.store.Store.try_queue.Goals as goal
use Rattle.cvc_core.proofs.store.Store.try_queue.Goals.{then-mark, else-mark}

pub returns-in_default : goal.returns-in_default
returns-in_default c = none_runs c.args.circuit.now (machine_of c.args.self.now) c.args.k Queue tt c.in_default.ensures

pub next_device-d-requires-clause-net : goal.next_device-d-requires-clause-net
next_device-d-requires-clause-net c = run_debt_net c.args.circuit.now (machine_of c.args.self.now) c.args.k c.in-Some.run' c.requires c.in-Some.ensures c.in-Some-owes.debt c.in-Some-owes.is

pub next_debt-owes-requires-clause-net : goal.next_debt-owes-requires-clause-net
next_debt-owes-requires-clause-net c = run_debt_net c.args.circuit.now (machine_of c.args.self.now) c.args.k c.in-Some.run' c.requires c.in-Some.ensures c.in-Some-owes.debt c.in-Some-owes.is

pub mark-mark-requires : goal.mark-mark-requires
mark-mark-requires c = run_due_marked c.args.circuit.now (machine_of c.args.self.now) c.args.k c.in-Some.run' c.requires c.in-Some.ensures c.in-Some-owes.debt c.next_device-d.result.0 c.in-Some-owes.is c.next_device-d.ensures

pub index_mut-requires : goal.index_mut-requires
index_mut-requires c = let h = run_due_marked c.args.circuit.now (machine_of c.args.self.now) c.args.k c.in-Some.run' c.requires c.in-Some.ensures c.in-Some-owes.debt c.next_device-d.result.0 c.in-Some-owes.is c.next_device-d.ensures in
    let same : length (map mark_word c.args.self.now.marks.items) ≡ length c.args.self.now.marks.items = length-map c.args.self.now.marks.items mark_word in omega arith

pub returns : goal.returns
returns c = run_done c.args.circuit.now (machine_of c.args.self.now) _ c.args.k Queue c.in-Some.run' c.in-Some.ensures (ap is_some c.in-Some-owes.is, omega arith)
    (rw (c.from.ensures, c.marked.ensures) (queue_effect c.args.circuit.now c.args.self.now.bounds.items c.args.self.now.marks.items c.args.self.now.count c.args.self.now.actors.items c.args.k c.in-Some.run' c.in-Some-owes.debt c.next_device-d.result.0 c.mark-mark.result c.with_queued.result c.next_debt-owes.result _
    c.in-Some-owes.is c.next_device-d.ensures c.mark-mark.ensures c.with_queued.ensures c.next_debt-owes.ensures
    (elim c.if-mark.branch [ then-mark w ↦ rw w.if-mark.true w.credits-is | else-mark w ↦ rw w.if-mark.false w.credits-is ])))
