use Rattle.std.proofs.Common.{◌≡◌, ◌<◌, ◌≤◌, length, drop, sym, subst, ◌∙◌, arith}
use Rattle.std.proofs.lemmas.Grind.{common_steps}
use Rattle.std.proofs.lemmas.List.{take_at}
use Rattle.std.proofs.lemmas.List.Elements.{All-push}
use Rattle.std.specs.Prelude.{All, Ok, Err}
use Rattle.cvc_flat.specs.Held.{device, no_device}
use Rattle.cvc_law.specs.Network.{IsDevice}
use Rattle.cvc_bind.specs.Choices.{AreChosen}
use Rattle.cvc_bind.specs.Devices.{device_of}
use Rattle.cvc_bind.proofs.Verdicts.{one_more, at_fault, none_left}
use Rattle.cvc_bind.proofs.devices.devices.Goals as goal

pub returns-in-Err-clause-devices : goal.returns-in-Err-clause-devices
returns-in-Err-clause-devices c =
    let inside : c.loop-d.d < length c.args.flat.now.list.devices = omega arith in
    let bad : device_of c.args.models.now (device c.args.flat.now.list c.loop-d.d) ≡ Err c.in-Err.fault = cc in
    sym c.loop-d.invariant.so_far ∙ at_fault (device_of c.args.models.now) c.args.flat.now.list.devices c.loop-d.d no_device c.loop-d.devices.items inside c.in-Err.fault bad

pub loop-d-preserved : goal.loop-d-preserved
loop-d-preserved c =
    let inside : c.loop-d.d < length c.args.flat.now.list.devices = omega arith in
    let good : device_of c.args.models.now (device c.args.flat.now.list c.loop-d.d) ≡ Ok c.in-Ok.device = cc in
    let pushed = c.in_ok-push-in-Ok.ensures.items in
    let long : length c.device_for.new.chosen ≡ c.loop-d.chosen.len = omega (arith, c.device_for.ensures.chosen.sized, c.loop-d.invariant.chosen.sized, c.loop-d.chosen.ok.0) in
    record {
      chosen = subst (AreChosen c.args.flat.now c.args.models.now) (sym (take_at c.device_for.new.chosen (drop (length c.device_for.new.chosen) c.loop-d.chosen.items) c.loop-d.chosen.len long)) c.device_for.ensures.chosen;
      so_far = rw pushed (one_more (device_of c.args.models.now) c.args.flat.now.list.devices c.loop-d.d no_device c.loop-d.devices.items inside c.in-Ok.device good ∙ c.loop-d.invariant.so_far);
      counted = grind (arith, common_steps);
      limit = c.loop-d.invariant.limit;
      ending = c.loop-d.invariant.ending;
      sound = subst (All (IsDevice (length c.args.flat.now.list.nets))) (sym pushed) (All-push (IsDevice (length c.args.flat.now.list.nets)) c.loop-d.devices.items c.in-Ok.device c.loop-d.invariant.sound c.in-Ok.ensures.sound);
    }

pub returns-clause-devices : goal.returns-clause-devices
returns-clause-devices c =
    let done : length c.args.flat.now.list.devices ≤ c.loop-d.d = omega arith in
    sym c.loop-d.invariant.so_far ∙ none_left (device_of c.args.models.now) c.args.flat.now.list.devices c.loop-d.d c.loop-d.devices.items done
