use Rattle.std.proofs.Common.{ℕ, ◌/◌, ◌%◌, ◌+◌, ◌*◌, ap, ◌∙◌}
use Rattle.cvc_law.specs.declared.conductor.Conductor.{Conductor}
use Rattle.cvc_law.specs.Conductor.{net_at}
use Rattle.cvc_law.specs.Reach.{device_at}
use Rattle.cvc_law.proofs.Conductors.{net_of}
use Rattle.cvc_field.proofs.places.read_place.Goals as goal

pub returns-clause-place : goal.returns-clause-place
returns-clause-place c =
    let i = c.args.read in
    c.read_place.ensures.place ∙ ap (λ (n : ℕ). 2 * n + i % 2) (ap (λ (x : Conductor). net_at x (i / 2)) c.conductor.ensures.same ∙ net_of (device_at c.args.circuit.now c.args.d.0) (i / 2))
