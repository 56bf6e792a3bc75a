use Rattle.std.proofs.Common.{◌≡◌, length, List, slice_get, sym, ap, ◌∙◌, arith, subst}
use Rattle.cvc_law.specs.declared.device.Device.{Device}
use Rattle.cvc_law.specs.Network.{IsDevice}
use Rattle.cvc_law.proofs.circuit.Circuit.new.Goals as goal

pub fans_of-requires-clause-sound : goal.fans_of-requires-clause-sound
fans_of-requires-clause-sound c =
    let nets_are : length c.args.fixed.items ≡ c.len.result = omega arith in
    λ i d at. subst (λ n. IsDevice n d) nets_are (c.requires.sound i d (ap (λ (l : List Device). slice_get l i) (sym c.deref-2.ensures.value) ∙ at))
