use Rattle.std.proofs.Common.{◌≡◌, ℕ, ◌∙◌, ap, replicate}
use Rattle.std.specs.Prelude.{map}
use Rattle.cvc_core.specs.Start.{start}
use Rattle.cvc_core.specs.Store.{machine_of, mark_word}
use Rattle.cvc_core.specs.Measured.{Measured, measured}
use Rattle.cvc_core.proofs.Openings.{started, started_sound}
use Rattle.cvc_core.proofs.Listed.{sound_measured}
use Rattle.cvc_core.proofs.opening.start.Goals as goal
use Rattle.cvc_core.proofs.opening.start.Goals.{After-from}

abbrev made : After-from → Measured
made c = record { floor = c.floor.result; ceiling = c.ceiling.result; machine = machine_of record { bounds = c.in_ok-bounds.bounds; marks = c.in_ok-marks.marks; count = c.from.result; actors = c.in_ok-actors.actors } }

made_is : (c : After-from) → made c ≡ measured c.args.circuit.now (start c.args.circuit.now c.args.actors)
made_is c = started c.args.circuit.now c.args.actors c.from.result c.floor.result c.ceiling.result c.in_ok-bounds.bounds.items (map mark_word c.in_ok-marks.marks.items) c.in_ok-actors.actors.items
    c.floor.ensures.floor c.ceiling.ensures.ceiling c.in_ok-bounds.ensures (c.in_ok-marks.ensures ∙ ap (λ (n : ℕ). replicate {A = ℕ} n 1) c.devices.ensures.count) (c.from.ensures ∙ c.devices-2.ensures.count) c.in_ok-actors.ensures

pub returns-clause-start : goal.returns-clause-start
returns-clause-start c = made_is c

pub returns-clause-sound : goal.returns-clause-sound
returns-clause-sound c = started_sound c.args.circuit.now c.args.actors (made c) c.devices.ensures.circuit c.requires.few (made_is c)

pub invariant_of-result : goal.invariant_of-result
invariant_of-result c = sound_measured c.args.circuit.now (made c) (started_sound c.args.circuit.now c.args.actors (made c) c.devices.ensures.circuit c.requires.few (made_is c))
