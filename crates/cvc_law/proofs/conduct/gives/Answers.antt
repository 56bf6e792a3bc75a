use Rattle.std.proofs.Common.{◌≡◌, ap, ◌∙◌}
use Rattle.cvc_law.specs.declared.conductor.Conductor.{Conductor}
use Rattle.cvc_law.specs.declared.device.Device.{Device}
use Rattle.cvc_law.specs.Conduction.{offered}
use Rattle.cvc_law.specs.Conductor.{volts_of}
use Rattle.cvc_law.specs.Reach.{device_at}
use Rattle.cvc_law.proofs.Conductors.{offered_by}
use Rattle.cvc_law.proofs.conduct.gives.Goals as goal

pub returns : goal.returns
returns c =
    let d : Device = device_at c.args.circuit.now c.args.d.0 in
    let value : c.offered-value.result ≡ offered d.kind d.volts c.args.slot c.args.reads.now = c.offered-value.ensures ∙ (ap (λ (x : Conductor). offered x.kind (volts_of x.voltage) c.args.slot c.args.reads.now) c.conductor-conductor.ensures.same ∙ offered_by d.kind d.volts c.args.slot c.args.reads.now) in
    rw (← value, ← c.floor.ensures.floor, ← c.ceiling.ensures.ceiling) c.kept_within.ensures
