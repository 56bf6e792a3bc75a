use Rattle.cvc_tests_settle.proofs.rules.build.is_device.Goals as goal

pub returns : goal.returns
returns c = λ yes. record {
  pin_count = c.are_pins.ensures.count c.if-not-are_pins.false;
  on_nets = c.are_pins.ensures.nets c.if-not-are_pins.false;
  drop = c.are_volts.ensures.drop yes;
  junction = c.are_volts.ensures.junction yes;
  threshold = λ kind. c.are_volts.ensures.threshold yes;
  corners = c.are_volts.ensures.corners yes;
}
