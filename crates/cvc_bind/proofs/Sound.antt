-- A device with the pins of the flat list and the voltages of a row that fits its letter stands in a circuit.
use Rattle.std.proofs.Common.{◌≡◌, ℕ, ◌<◌, true, List, length, All, refl, subst, ◌∙◌, sym}
use Rattle.std.proofs.lemmas.List.Elements.{All-get_or}
use Rattle.cvc_base.specs.declared.device.Kind.{Kind}
use Rattle.cvc_base.specs.declared.device.Kind.TheVariants.{Nmos, Pmos, Resistor, Diode, Capacitor, Inductor, Bipolar}
use Rattle.cvc_base.specs.declared.device.Volts.{Volts}
use Rattle.cvc_base.specs.declared.ids.NetId.{NetId}
use Rattle.cvc_card.specs.declared.card.Letter.{Letter}
use Rattle.cvc_card.specs.declared.card.Letter.TheVariants.{M, D, R, C, L, Q}
use Rattle.cvc_card.specs.Card.{net_count}
use Rattle.cvc_law.specs.Network.{IsDevice, pins_of, no_net}
use Rattle.cvc_model.specs.Bindable.{AreVoltsOf}
use Rattle.cvc_bind.specs.Devices.{fits}

same_count : (letter : Letter) (kind : Kind) → fits letter kind ≡ true → net_count letter ≡ pins_of kind
same_count M Nmos e = refl
same_count M Pmos e = refl
same_count D Diode e = refl
same_count R Resistor e = refl
same_count C Capacitor e = refl
same_count L Inductor e = refl
same_count Q Bipolar e = refl
same_count _ _ e = cc

module _ (nets : ℕ) (letter : Letter) (kind : Kind) (pins : List NetId) (volts : Volts) (serves : fits letter kind ≡ true) (count : length pins ≡ net_count letter) (inside : All (λ (n : NetId). n.0 < nets) pins) (rated : AreVoltsOf kind volts) where
  counted : length pins ≡ pins_of kind
  counted = count ∙ same_count letter kind serves

  pub sound_device : IsDevice nets record { kind = kind; pins = record { items = pins }; volts = volts }
  sound_device = record {
    pin_count = counted;
    on_nets = λ i h. All-get_or (λ (n : NetId). n.0 < nets) pins i no_net (subst (λ n. i < n) (sym counted) h) inside;
    drop = rated.drop;
    junction = rated.junction;
    threshold = rated.threshold;
    corners = rated.corners;
  }
