use Rattle.std.proofs.Common.{◌++◌, ◌^◌, length, subst, arith}
use Rattle.std.specs.Str.Parse.{digits_value}
use Rattle.std.proofs.lemmas.List.{length-append}
use Rattle.cvc_units.specs.Number.{Power, limited}
use Rattle.cvc_units.specs.Reading.{Measures, held, power_of, value_with}
use Rattle.cvc_units.proofs.Digits.{value_below}
use Rattle.cvc_units.proofs.Cut.{and_both}
use Rattle.cvc_units.proofs.Capped.{capped, with_exponent}
use Rattle.cvc_units.proofs.reading.value_of.Goals as goal

pub returns : goal.returns
returns c =
    let p = held c.args.pieces in
    let r = c.magnitude_of.result in
    let s = power_of c.in-Some.scale in
    let d = digits_value 10 (p.digits ++ p.fraction) in
    let n = length (p.digits ++ p.fraction) in
    let f = length p.fraction in
    let small = value_below (p.digits ++ p.fraction) (and_both p.digits p.fraction c.requires.digits c.requires.fraction) in
    let bound = c.in-Some.ensures.small in
    let read = subst (λ (e : Power). Measures r (limited (with_exponent d f e s))) c.exponent_power-exponent.ensures c.magnitude_of.ensures in
    let real = capped r p.exponent_negative d n f (10 ^ 20) (digits_value 10 p.exponent) s small bound.0 bound.1 (omega (arith, length-append p.digits p.fraction, c.requires.digits_len, c.requires.fraction_len)) read in
    subst (λ o. Measures r (value_with p o)) c.in-Some.ensures.scale real
