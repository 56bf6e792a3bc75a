-- Worked lines: the definition computes their cards and faults.
use Rattle.std.proofs.Common.{◌≡◌, ℕ, true, false, List, [], ◌∷◌, Ok, Err, Some, None, refl, codes}
use Rattle.cvc_base.specs.declared.cause.Cause.TheVariants.{UnknownCard, Unsupported, BadParam, BadPins, ShortCard}
use Rattle.cvc_base.specs.declared.param.Pair.{Pair}
use Rattle.cvc_card.specs.declared.card.Card.TheVariants as cards
use Rattle.cvc_card.specs.declared.card.Ports.TheVariants.{ByOrder, ByName}
use Rattle.cvc_card.specs.declared.card.Letter.TheVariants.{M, D, R, Q}
use Rattle.cvc_units.specs.Split.{split_of, exponent_at}
use Rattle.cvc_units.specs.Number.{number_of, scale_of}
use Rattle.cvc_card.specs.Forms.{form_of}
use Rattle.cvc_card.specs.Items.{items_of}
use Rattle.cvc_card.specs.Parts.{parts_of}
use Rattle.cvc_card.specs.Card.{card_of_texts, card_from, device_of, instance_of, nets_of, cell_of, globals_of}

abbrev pair : List ℕ → List ℕ → Pair
pair name value = record { name = name; value = value }

-- R1 a b 1k w=
-- R1 a b 1k w=
-- R1 a b 1k w=
row-1 : card_of_texts false 7 (codes "R1" ∷ codes "a" ∷ codes "b" ∷ codes "1k" ∷ codes "w" ∷ codes "=" ∷ []) ≡ Err BadParam
unfolding number_of scale_of split_of exponent_at form_of items_of parts_of card_from device_of instance_of nets_of cell_of globals_of
row-1 = refl

-- R1 a b 'r*2'
row-2 : card_of_texts false 7 (codes "R1" ∷ codes "a" ∷ codes "b" ∷ codes "'r*2'" ∷ []) ≡ Err Unsupported
unfolding number_of scale_of split_of exponent_at form_of items_of parts_of card_from device_of instance_of nets_of cell_of globals_of
row-2 = refl

-- V1 a 0 1.2
row-3 : card_of_texts false 7 (codes "V1" ∷ codes "a" ∷ codes "0" ∷ codes "1.2" ∷ []) ≡ Err Unsupported
unfolding number_of scale_of split_of exponent_at form_of items_of parts_of card_from device_of instance_of nets_of cell_of globals_of
row-3 = refl

-- .TRAN 1n 10n
row-4 : card_of_texts false 7 (codes ".TRAN" ∷ codes "1n" ∷ codes "10n" ∷ []) ≡ Err UnknownCard
unfolding number_of scale_of split_of exponent_at form_of items_of parts_of card_from device_of instance_of nets_of cell_of globals_of
row-4 = refl

-- E1 a b c d 2
row-5 : card_of_texts false 7 (codes "E1" ∷ codes "a" ∷ codes "b" ∷ codes "c" ∷ codes "d" ∷ codes "2" ∷ []) ≡ Err UnknownCard
unfolding number_of scale_of split_of exponent_at form_of items_of parts_of card_from device_of instance_of nets_of cell_of globals_of
row-5 = refl

-- M1 d g s nch
row-6 : card_of_texts false 7 (codes "M1" ∷ codes "d" ∷ codes "g" ∷ codes "s" ∷ codes "nch" ∷ []) ≡ Err ShortCard
unfolding number_of scale_of split_of exponent_at form_of items_of parts_of card_from device_of instance_of nets_of cell_of globals_of
row-6 = refl

-- XI0 a / inv $PINS A=a
row-7 : card_of_texts false 7 (codes "XI0" ∷ codes "a" ∷ codes "/" ∷ codes "inv" ∷ codes "$PINS" ∷ codes "A" ∷ codes "=" ∷ codes "a" ∷ []) ≡ Err BadPins
unfolding number_of scale_of split_of exponent_at form_of items_of parts_of card_from device_of instance_of nets_of cell_of globals_of
row-7 = refl

-- XI0 / inv $PINS A=a A=b
row-8 : card_of_texts false 7 (codes "XI0" ∷ codes "/" ∷ codes "inv" ∷ codes "$PINS" ∷ codes "A" ∷ codes "=" ∷ codes "a" ∷ codes "A" ∷ codes "=" ∷ codes "b" ∷ []) ≡ Err BadPins
unfolding number_of scale_of split_of exponent_at form_of items_of parts_of card_from device_of instance_of nets_of cell_of globals_of
row-8 = refl

-- .PARAM
row-9 : card_of_texts false 7 (codes ".PARAM" ∷ []) ≡ Ok (cards.Params [])
unfolding number_of scale_of split_of exponent_at form_of items_of parts_of card_from device_of instance_of nets_of cell_of globals_of
row-9 = refl

-- *.RESI = 2000
row-10 : card_of_texts true 7 (codes "*.RESI" ∷ codes "=" ∷ codes "2000" ∷ []) ≡ Ok cards.Ignored
unfolding number_of scale_of split_of exponent_at form_of items_of parts_of card_from device_of instance_of nets_of cell_of globals_of
row-10 = refl

-- RR0 A B 1K $SUB=VSS $[rpoly]
row-11 : card_of_texts false 7 (codes "RR0" ∷ codes "A" ∷ codes "B" ∷ codes "1K" ∷ codes "$SUB" ∷ codes "=" ∷ codes "VSS" ∷ codes "$[rpoly]" ∷ []) ≡ Ok (cards.Device record { letter = R; name = codes "RR0"; nets = (codes "A" ∷ codes "B" ∷ []); model = codes "rpoly"; pairs = (pair (codes "R") (codes "1K") ∷ pair (codes "SUB") (codes "VSS") ∷ []); line = 7 })
unfolding number_of scale_of split_of exponent_at form_of items_of parts_of card_from device_of instance_of nets_of cell_of globals_of
row-11 = refl

-- DD0 A C ndio 1p
row-12 : card_of_texts false 7 (codes "DD0" ∷ codes "A" ∷ codes "C" ∷ codes "ndio" ∷ codes "1p" ∷ []) ≡ Ok (cards.Device record { letter = D; name = codes "DD0"; nets = (codes "A" ∷ codes "C" ∷ []); model = codes "ndio"; pairs = []; line = 7 })
unfolding number_of scale_of split_of exponent_at form_of items_of parts_of card_from device_of instance_of nets_of cell_of globals_of
row-12 = refl

-- X1 a / / inv
row-13 : card_of_texts false 7 (codes "X1" ∷ codes "a" ∷ codes "/" ∷ codes "/" ∷ codes "inv" ∷ []) ≡ Ok (cards.Inst record { name = codes "X1"; cell = codes "/"; ports = ByOrder (codes "a" ∷ []); pairs = []; line = 7 })
unfolding number_of scale_of split_of exponent_at form_of items_of parts_of card_from device_of instance_of nets_of cell_of globals_of
row-13 = refl

-- X1 / inv $PINS A=a /
row-14 : card_of_texts false 7 (codes "X1" ∷ codes "/" ∷ codes "inv" ∷ codes "$PINS" ∷ codes "A" ∷ codes "=" ∷ codes "a" ∷ codes "/" ∷ []) ≡ Err BadPins
unfolding number_of scale_of split_of exponent_at form_of items_of parts_of card_from device_of instance_of nets_of cell_of globals_of
row-14 = refl

-- X1 $PINS A=a /
row-15 : card_of_texts false 7 (codes "X1" ∷ codes "$PINS" ∷ codes "A" ∷ codes "=" ∷ codes "a" ∷ codes "/" ∷ []) ≡ Err BadPins
unfolding number_of scale_of split_of exponent_at form_of items_of parts_of card_from device_of instance_of nets_of cell_of globals_of
row-15 = refl

-- X1 a / /
row-16 : card_of_texts false 7 (codes "X1" ∷ codes "a" ∷ codes "/" ∷ codes "/" ∷ []) ≡ Ok (cards.Inst record { name = codes "X1"; cell = codes "/"; ports = ByOrder (codes "a" ∷ []); pairs = []; line = 7 })
unfolding number_of scale_of split_of exponent_at form_of items_of parts_of card_from device_of instance_of nets_of cell_of globals_of
row-16 = refl

-- R1 a b 1 'x'=3
row-17 : card_of_texts false 7 (codes "R1" ∷ codes "a" ∷ codes "b" ∷ codes "1" ∷ codes "'x'" ∷ codes "=" ∷ codes "3" ∷ []) ≡ Ok (cards.Device record { letter = R; name = codes "R1"; nets = (codes "a" ∷ codes "b" ∷ []); model = codes "R"; pairs = (pair (codes "R") (codes "1") ∷ pair (codes "'x'") (codes "3") ∷ []); line = 7 })
unfolding number_of scale_of split_of exponent_at form_of items_of parts_of card_from device_of instance_of nets_of cell_of globals_of
row-17 = refl

-- R1 a b 1 'x'=
row-18 : card_of_texts false 7 (codes "R1" ∷ codes "a" ∷ codes "b" ∷ codes "1" ∷ codes "'x'" ∷ codes "=" ∷ []) ≡ Err BadParam
unfolding number_of scale_of split_of exponent_at form_of items_of parts_of card_from device_of instance_of nets_of cell_of globals_of
row-18 = refl

-- R1 a b 1 'x'='y'
row-19 : card_of_texts false 7 (codes "R1" ∷ codes "a" ∷ codes "b" ∷ codes "1" ∷ codes "'x'" ∷ codes "=" ∷ codes "'y'" ∷ []) ≡ Err Unsupported
unfolding number_of scale_of split_of exponent_at form_of items_of parts_of card_from device_of instance_of nets_of cell_of globals_of
row-19 = refl

-- R1 a b w=x=y
row-20 : card_of_texts false 7 (codes "R1" ∷ codes "a" ∷ codes "b" ∷ codes "w" ∷ codes "=" ∷ codes "x" ∷ codes "=" ∷ codes "y" ∷ []) ≡ Err BadParam
unfolding number_of scale_of split_of exponent_at form_of items_of parts_of card_from device_of instance_of nets_of cell_of globals_of
row-20 = refl

-- R1 = a b
row-21 : card_of_texts false 7 (codes "R1" ∷ codes "=" ∷ codes "a" ∷ codes "b" ∷ []) ≡ Err BadParam
unfolding number_of scale_of split_of exponent_at form_of items_of parts_of card_from device_of instance_of nets_of cell_of globals_of
row-21 = refl

-- X1 inv $PINS=1
row-22 : card_of_texts false 7 (codes "X1" ∷ codes "inv" ∷ codes "$PINS" ∷ codes "=" ∷ codes "1" ∷ []) ≡ Ok (cards.Inst record { name = codes "X1"; cell = codes "inv"; ports = ByOrder []; pairs = (pair (codes "PINS") (codes "1") ∷ []); line = 7 })
unfolding number_of scale_of split_of exponent_at form_of items_of parts_of card_from device_of instance_of nets_of cell_of globals_of
row-22 = refl

-- R1 a b /=1
row-23 : card_of_texts false 7 (codes "R1" ∷ codes "a" ∷ codes "b" ∷ codes "/" ∷ codes "=" ∷ codes "1" ∷ []) ≡ Ok (cards.Device record { letter = R; name = codes "R1"; nets = (codes "a" ∷ codes "b" ∷ []); model = codes "R"; pairs = (pair (codes "/") (codes "1") ∷ []); line = 7 })
unfolding number_of scale_of split_of exponent_at form_of items_of parts_of card_from device_of instance_of nets_of cell_of globals_of
row-23 = refl

-- X1 a inv PARAMS:=1
row-24 : card_of_texts false 7 (codes "X1" ∷ codes "a" ∷ codes "inv" ∷ codes "PARAMS:" ∷ codes "=" ∷ codes "1" ∷ []) ≡ Ok (cards.Inst record { name = codes "X1"; cell = codes "inv"; ports = ByOrder (codes "a" ∷ []); pairs = (pair (codes "PARAMS:") (codes "1") ∷ []); line = 7 })
unfolding number_of scale_of split_of exponent_at form_of items_of parts_of card_from device_of instance_of nets_of cell_of globals_of
row-24 = refl

-- R1 a b 1 $[m]=1
row-25 : card_of_texts false 7 (codes "R1" ∷ codes "a" ∷ codes "b" ∷ codes "1" ∷ codes "$[m]" ∷ codes "=" ∷ codes "1" ∷ []) ≡ Ok (cards.Device record { letter = R; name = codes "R1"; nets = (codes "a" ∷ codes "b" ∷ []); model = codes "R"; pairs = (pair (codes "R") (codes "1") ∷ pair (codes "[m]") (codes "1") ∷ []); line = 7 })
unfolding number_of scale_of split_of exponent_at form_of items_of parts_of card_from device_of instance_of nets_of cell_of globals_of
row-25 = refl

-- R1 a b $[]=3
row-26 : card_of_texts false 7 (codes "R1" ∷ codes "a" ∷ codes "b" ∷ codes "$[]" ∷ codes "=" ∷ codes "3" ∷ []) ≡ Ok (cards.Device record { letter = R; name = codes "R1"; nets = (codes "a" ∷ codes "b" ∷ []); model = codes "R"; pairs = (pair (codes "[]") (codes "3") ∷ []); line = 7 })
unfolding number_of scale_of split_of exponent_at form_of items_of parts_of card_from device_of instance_of nets_of cell_of globals_of
row-26 = refl

-- R1 a b $[]
row-27 : card_of_texts false 7 (codes "R1" ∷ codes "a" ∷ codes "b" ∷ codes "$[]" ∷ []) ≡ Err BadParam
unfolding number_of scale_of split_of exponent_at form_of items_of parts_of card_from device_of instance_of nets_of cell_of globals_of
row-27 = refl

-- X1 a inv $[x
row-28 : card_of_texts false 7 (codes "X1" ∷ codes "a" ∷ codes "inv" ∷ codes "$[x" ∷ []) ≡ Err BadParam
unfolding number_of scale_of split_of exponent_at form_of items_of parts_of card_from device_of instance_of nets_of cell_of globals_of
row-28 = refl

-- R1 a b $[
row-29 : card_of_texts false 7 (codes "R1" ∷ codes "a" ∷ codes "b" ∷ codes "$[" ∷ []) ≡ Err BadParam
unfolding number_of scale_of split_of exponent_at form_of items_of parts_of card_from device_of instance_of nets_of cell_of globals_of
row-29 = refl

-- a diode whose model is named by a bracket that closes
row-30 : card_of_texts false 7 (codes "D1" ∷ codes "a" ∷ codes "b" ∷ codes "$[]]" ∷ []) ≡ Ok (cards.Device record { letter = D; name = codes "D1"; nets = (codes "a" ∷ codes "b" ∷ []); model = codes "]"; pairs = []; line = 7 })
unfolding number_of scale_of split_of exponent_at form_of items_of parts_of card_from device_of instance_of nets_of cell_of globals_of
row-30 = refl

-- R1 a b .MODEL=p $[q]
row-31 : card_of_texts false 7 (codes "R1" ∷ codes "a" ∷ codes "b" ∷ codes ".MODEL" ∷ codes "=" ∷ codes "p" ∷ codes "$[q]" ∷ []) ≡ Ok (cards.Device record { letter = R; name = codes "R1"; nets = (codes "a" ∷ codes "b" ∷ []); model = codes "q"; pairs = []; line = 7 })
unfolding number_of scale_of split_of exponent_at form_of items_of parts_of card_from device_of instance_of nets_of cell_of globals_of
row-31 = refl

-- R1 a b $[q] $.model=p
row-32 : card_of_texts false 7 (codes "R1" ∷ codes "a" ∷ codes "b" ∷ codes "$[q]" ∷ codes "$.model" ∷ codes "=" ∷ codes "p" ∷ []) ≡ Ok (cards.Device record { letter = R; name = codes "R1"; nets = (codes "a" ∷ codes "b" ∷ []); model = codes "p"; pairs = []; line = 7 })
unfolding number_of scale_of split_of exponent_at form_of items_of parts_of card_from device_of instance_of nets_of cell_of globals_of
row-32 = refl

-- R1 a b $$.MODEL=p
row-33 : card_of_texts false 7 (codes "R1" ∷ codes "a" ∷ codes "b" ∷ codes "$$.MODEL" ∷ codes "=" ∷ codes "p" ∷ []) ≡ Ok (cards.Device record { letter = R; name = codes "R1"; nets = (codes "a" ∷ codes "b" ∷ []); model = codes "R"; pairs = (pair (codes "$.MODEL") (codes "p") ∷ []); line = 7 })
unfolding number_of scale_of split_of exponent_at form_of items_of parts_of card_from device_of instance_of nets_of cell_of globals_of
row-33 = refl

-- X1 a inv .MODEL=p $[q]
row-34 : card_of_texts false 7 (codes "X1" ∷ codes "a" ∷ codes "inv" ∷ codes ".MODEL" ∷ codes "=" ∷ codes "p" ∷ codes "$[q]" ∷ []) ≡ Ok (cards.Inst record { name = codes "X1"; cell = codes "inv"; ports = ByOrder (codes "a" ∷ []); pairs = (pair (codes ".MODEL") (codes "p") ∷ []); line = 7 })
unfolding number_of scale_of split_of exponent_at form_of items_of parts_of card_from device_of instance_of nets_of cell_of globals_of
row-34 = refl

-- X1 inv $pins .MODEL=p
row-35 : card_of_texts false 7 (codes "X1" ∷ codes "inv" ∷ codes "$pins" ∷ codes ".MODEL" ∷ codes "=" ∷ codes "p" ∷ []) ≡ Ok (cards.Inst record { name = codes "X1"; cell = codes "inv"; ports = ByName (pair (codes ".MODEL") (codes "p") ∷ []); pairs = []; line = 7 })
unfolding number_of scale_of split_of exponent_at form_of items_of parts_of card_from device_of instance_of nets_of cell_of globals_of
row-35 = refl

-- *.global a b:p :x
row-36 : card_of_texts true 7 (codes "*.global" ∷ codes "a" ∷ codes "b:p" ∷ codes ":x" ∷ []) ≡ Ok (cards.Global (codes "a" ∷ codes "b" ∷ []))
unfolding number_of scale_of split_of exponent_at form_of items_of parts_of card_from device_of instance_of nets_of cell_of globals_of
row-36 = refl

-- *.GLOBALS a
row-37 : card_of_texts true 7 (codes "*.GLOBALS" ∷ codes "a" ∷ []) ≡ Ok cards.Ignored
unfolding number_of scale_of split_of exponent_at form_of items_of parts_of card_from device_of instance_of nets_of cell_of globals_of
row-37 = refl

-- *.GLOBAL = x
row-38 : card_of_texts true 7 (codes "*.GLOBAL" ∷ codes "=" ∷ codes "x" ∷ []) ≡ Err BadParam
unfolding number_of scale_of split_of exponent_at form_of items_of parts_of card_from device_of instance_of nets_of cell_of globals_of
row-38 = refl

-- *.GLOBAL 'x'
row-39 : card_of_texts true 7 (codes "*.GLOBAL" ∷ codes "'x'" ∷ []) ≡ Err Unsupported
unfolding number_of scale_of split_of exponent_at form_of items_of parts_of card_from device_of instance_of nets_of cell_of globals_of
row-39 = refl

-- .ENDS 'x'
row-40 : card_of_texts false 7 (codes ".ENDS" ∷ codes "'x'" ∷ []) ≡ Err Unsupported
unfolding number_of scale_of split_of exponent_at form_of items_of parts_of card_from device_of instance_of nets_of cell_of globals_of
row-40 = refl

-- .GLOBAL a w=1
row-41 : card_of_texts false 7 (codes ".GLOBAL" ∷ codes "a" ∷ codes "w" ∷ codes "=" ∷ codes "1" ∷ []) ≡ Ok (cards.Global (codes "a" ∷ []))
unfolding number_of scale_of split_of exponent_at form_of items_of parts_of card_from device_of instance_of nets_of cell_of globals_of
row-41 = refl

-- .OPTION x=
row-42 : card_of_texts false 7 (codes ".OPTION" ∷ codes "x" ∷ codes "=" ∷ []) ≡ Ok cards.Ignored
unfolding number_of scale_of split_of exponent_at form_of items_of parts_of card_from device_of instance_of nets_of cell_of globals_of
row-42 = refl

-- V1 = 'x'
row-43 : card_of_texts false 7 (codes "V1" ∷ codes "=" ∷ codes "'x'" ∷ []) ≡ Err Unsupported
unfolding number_of scale_of split_of exponent_at form_of items_of parts_of card_from device_of instance_of nets_of cell_of globals_of
row-43 = refl

-- X1 inv $PINS A=a
row-44 : card_of_texts false 7 (codes "X1" ∷ codes "inv" ∷ codes "$PINS" ∷ codes "A" ∷ codes "=" ∷ codes "a" ∷ []) ≡ Ok (cards.Inst record { name = codes "X1"; cell = codes "inv"; ports = ByName (pair (codes "A") (codes "a") ∷ []); pairs = []; line = 7 })
unfolding number_of scale_of split_of exponent_at form_of items_of parts_of card_from device_of instance_of nets_of cell_of globals_of
row-44 = refl

-- X1 w=1 / inv $PINS A=a $PINS B=b
row-45 : card_of_texts false 7 (codes "X1" ∷ codes "w" ∷ codes "=" ∷ codes "1" ∷ codes "/" ∷ codes "inv" ∷ codes "$PINS" ∷ codes "A" ∷ codes "=" ∷ codes "a" ∷ codes "$PINS" ∷ codes "B" ∷ codes "=" ∷ codes "b" ∷ []) ≡ Ok (cards.Inst record { name = codes "X1"; cell = codes "inv"; ports = ByName (pair (codes "A") (codes "a") ∷ pair (codes "B") (codes "b") ∷ []); pairs = (pair (codes "w") (codes "1") ∷ []); line = 7 })
unfolding number_of scale_of split_of exponent_at form_of items_of parts_of card_from device_of instance_of nets_of cell_of globals_of
row-45 = refl

-- X1 a / $PINS A=a
row-46 : card_of_texts false 7 (codes "X1" ∷ codes "a" ∷ codes "/" ∷ codes "$PINS" ∷ codes "A" ∷ codes "=" ∷ codes "a" ∷ []) ≡ Err BadPins
unfolding number_of scale_of split_of exponent_at form_of items_of parts_of card_from device_of instance_of nets_of cell_of globals_of
row-46 = refl

-- R1 a b $PINS 1
row-47 : card_of_texts false 7 (codes "R1" ∷ codes "a" ∷ codes "b" ∷ codes "$PINS" ∷ codes "1" ∷ []) ≡ Ok (cards.Device record { letter = R; name = codes "R1"; nets = (codes "a" ∷ codes "b" ∷ []); model = codes "R"; pairs = (pair (codes "R") (codes "1") ∷ []); line = 7 })
unfolding number_of scale_of split_of exponent_at form_of items_of parts_of card_from device_of instance_of nets_of cell_of globals_of
row-47 = refl

-- a diode whose model is a number
row-48 : card_of_texts false 7 (codes "D1" ∷ codes "a" ∷ codes "b" ∷ codes "1" ∷ []) ≡ Ok (cards.Device record { letter = D; name = codes "D1"; nets = (codes "a" ∷ codes "b" ∷ []); model = codes "1"; pairs = []; line = 7 })
unfolding number_of scale_of split_of exponent_at form_of items_of parts_of card_from device_of instance_of nets_of cell_of globals_of
row-48 = refl

-- Q1 a b c 1
row-49 : card_of_texts false 7 (codes "Q1" ∷ codes "a" ∷ codes "b" ∷ codes "c" ∷ codes "1" ∷ []) ≡ Err ShortCard
unfolding number_of scale_of split_of exponent_at form_of items_of parts_of card_from device_of instance_of nets_of cell_of globals_of
row-49 = refl

-- Q1 a b c m 1 n
row-50 : card_of_texts false 7 (codes "Q1" ∷ codes "a" ∷ codes "b" ∷ codes "c" ∷ codes "m" ∷ codes "1" ∷ codes "n" ∷ []) ≡ Ok (cards.Device record { letter = Q; name = codes "Q1"; nets = (codes "a" ∷ codes "b" ∷ codes "c" ∷ []); model = codes "n"; pairs = []; line = 7 })
unfolding number_of scale_of split_of exponent_at form_of items_of parts_of card_from device_of instance_of nets_of cell_of globals_of
row-50 = refl

-- R1 a b $[m] x 1 2
row-51 : card_of_texts false 7 (codes "R1" ∷ codes "a" ∷ codes "b" ∷ codes "$[m]" ∷ codes "x" ∷ codes "1" ∷ codes "2" ∷ []) ≡ Ok (cards.Device record { letter = R; name = codes "R1"; nets = (codes "a" ∷ codes "b" ∷ []); model = codes "m"; pairs = (pair (codes "R") (codes "1") ∷ []); line = 7 })
unfolding number_of scale_of split_of exponent_at form_of items_of parts_of card_from device_of instance_of nets_of cell_of globals_of
row-51 = refl

-- R1 a b 1e12
row-52 : card_of_texts false 7 (codes "R1" ∷ codes "a" ∷ codes "b" ∷ codes "1e12" ∷ []) ≡ Ok (cards.Device record { letter = R; name = codes "R1"; nets = (codes "a" ∷ codes "b" ∷ []); model = codes "1e12"; pairs = []; line = 7 })
unfolding number_of scale_of split_of exponent_at form_of items_of parts_of card_from device_of instance_of nets_of cell_of globals_of
row-52 = refl

-- .SUBCKT / c a PARAMS: w=1
row-53 : card_of_texts false 7 (codes ".SUBCKT" ∷ codes "/" ∷ codes "c" ∷ codes "a" ∷ codes "PARAMS:" ∷ codes "w" ∷ codes "=" ∷ codes "1" ∷ []) ≡ Ok (cards.Subckt record { name = codes "c"; ports = (codes "a" ∷ []); pairs = (pair (codes "w") (codes "1") ∷ []); line = 7 })
unfolding number_of scale_of split_of exponent_at form_of items_of parts_of card_from device_of instance_of nets_of cell_of globals_of
row-53 = refl

-- R1 / a b
row-54 : card_of_texts false 7 (codes "R1" ∷ codes "/" ∷ codes "a" ∷ codes "b" ∷ []) ≡ Ok (cards.Device record { letter = R; name = codes "R1"; nets = (codes "a" ∷ codes "b" ∷ []); model = codes "R"; pairs = []; line = 7 })
unfolding number_of scale_of split_of exponent_at form_of items_of parts_of card_from device_of instance_of nets_of cell_of globals_of
row-54 = refl

-- .ENDS /
row-55 : card_of_texts false 7 (codes ".ENDS" ∷ codes "/" ∷ []) ≡ Ok (cards.Ends None)
unfolding number_of scale_of split_of exponent_at form_of items_of parts_of card_from device_of instance_of nets_of cell_of globals_of
row-55 = refl

-- .ENDS c d
row-56 : card_of_texts false 7 (codes ".ENDS" ∷ codes "c" ∷ codes "d" ∷ []) ≡ Ok (cards.Ends (Some (codes "c")))
unfolding number_of scale_of split_of exponent_at form_of items_of parts_of card_from device_of instance_of nets_of cell_of globals_of
row-56 = refl

-- R1 a PARAMS: 1
row-57 : card_of_texts false 7 (codes "R1" ∷ codes "a" ∷ codes "PARAMS:" ∷ codes "1" ∷ []) ≡ Ok (cards.Device record { letter = R; name = codes "R1"; nets = (codes "a" ∷ codes "PARAMS:" ∷ []); model = codes "R"; pairs = (pair (codes "R") (codes "1") ∷ []); line = 7 })
unfolding number_of scale_of split_of exponent_at form_of items_of parts_of card_from device_of instance_of nets_of cell_of globals_of
row-57 = refl

-- .GLOBAL $x y
row-58 : card_of_texts false 7 (codes ".GLOBAL" ∷ codes "$x" ∷ codes "y" ∷ []) ≡ Ok (cards.Global (codes "y" ∷ []))
unfolding number_of scale_of split_of exponent_at form_of items_of parts_of card_from device_of instance_of nets_of cell_of globals_of
row-58 = refl

-- R1 a b + 1
row-59 : card_of_texts false 7 (codes "R1" ∷ codes "a" ∷ codes "b" ∷ codes "+" ∷ codes "1" ∷ []) ≡ Ok (cards.Device record { letter = R; name = codes "R1"; nets = (codes "a" ∷ codes "b" ∷ []); model = codes "+"; pairs = (pair (codes "R") (codes "1") ∷ []); line = 7 })
unfolding number_of scale_of split_of exponent_at form_of items_of parts_of card_from device_of instance_of nets_of cell_of globals_of
row-59 = refl

-- r1 a b w=2 1 R=5
row-60 : card_of_texts false 7 (codes "r1" ∷ codes "a" ∷ codes "b" ∷ codes "w" ∷ codes "=" ∷ codes "2" ∷ codes "1" ∷ codes "R" ∷ codes "=" ∷ codes "5" ∷ []) ≡ Ok (cards.Device record { letter = R; name = codes "r1"; nets = (codes "a" ∷ codes "b" ∷ []); model = codes "R"; pairs = (pair (codes "R") (codes "1") ∷ pair (codes "w") (codes "2") ∷ pair (codes "R") (codes "5") ∷ []); line = 7 })
unfolding number_of scale_of split_of exponent_at form_of items_of parts_of card_from device_of instance_of nets_of cell_of globals_of
row-60 = refl

-- X1
row-61 : card_of_texts false 7 (codes "X1" ∷ []) ≡ Err ShortCard
unfolding number_of scale_of split_of exponent_at form_of items_of parts_of card_from device_of instance_of nets_of cell_of globals_of
row-61 = refl

-- X1 /
row-62 : card_of_texts false 7 (codes "X1" ∷ codes "/" ∷ []) ≡ Err ShortCard
unfolding number_of scale_of split_of exponent_at form_of items_of parts_of card_from device_of instance_of nets_of cell_of globals_of
row-62 = refl

-- .SUBCKT
row-63 : card_of_texts false 7 (codes ".SUBCKT" ∷ []) ≡ Err ShortCard
unfolding number_of scale_of split_of exponent_at form_of items_of parts_of card_from device_of instance_of nets_of cell_of globals_of
row-63 = refl

-- R1 a
row-64 : card_of_texts false 7 (codes "R1" ∷ codes "a" ∷ []) ≡ Err ShortCard
unfolding number_of scale_of split_of exponent_at form_of items_of parts_of card_from device_of instance_of nets_of cell_of globals_of
row-64 = refl

-- $x a
row-65 : card_of_texts false 7 (codes "$x" ∷ codes "a" ∷ []) ≡ Err UnknownCard
unfolding number_of scale_of split_of exponent_at form_of items_of parts_of card_from device_of instance_of nets_of cell_of globals_of
row-65 = refl

-- = a
row-66 : card_of_texts false 7 (codes "=" ∷ codes "a" ∷ []) ≡ Err UnknownCard
unfolding number_of scale_of split_of exponent_at form_of items_of parts_of card_from device_of instance_of nets_of cell_of globals_of
row-66 = refl

-- .end x=
row-67 : card_of_texts false 7 (codes ".end" ∷ codes "x" ∷ codes "=" ∷ []) ≡ Ok cards.Ignored
unfolding number_of scale_of split_of exponent_at form_of items_of parts_of card_from device_of instance_of nets_of cell_of globals_of
row-67 = refl

-- .Lib x
row-68 : card_of_texts false 7 (codes ".Lib" ∷ codes "x" ∷ []) ≡ Err Unsupported
unfolding number_of scale_of split_of exponent_at form_of items_of parts_of card_from device_of instance_of nets_of cell_of globals_of
row-68 = refl

-- M1 a $=1 'x'
row-69 : card_of_texts false 7 (codes "M1" ∷ codes "a" ∷ codes "$" ∷ codes "=" ∷ codes "1" ∷ codes "'x'" ∷ []) ≡ Err BadParam
unfolding number_of scale_of split_of exponent_at form_of items_of parts_of card_from device_of instance_of nets_of cell_of globals_of
row-69 = refl

-- M1 a 'x' $=1
row-70 : card_of_texts false 7 (codes "M1" ∷ codes "a" ∷ codes "'x'" ∷ codes "$" ∷ codes "=" ∷ codes "1" ∷ []) ≡ Err Unsupported
unfolding number_of scale_of split_of exponent_at form_of items_of parts_of card_from device_of instance_of nets_of cell_of globals_of
row-70 = refl

-- M1 d g s b n w=1u $x $[
row-71 : card_of_texts false 7 (codes "M1" ∷ codes "d" ∷ codes "g" ∷ codes "s" ∷ codes "b" ∷ codes "n" ∷ codes "w" ∷ codes "=" ∷ codes "1u" ∷ codes "$x" ∷ codes "$[" ∷ []) ≡ Err BadParam
unfolding number_of scale_of split_of exponent_at form_of items_of parts_of card_from device_of instance_of nets_of cell_of globals_of
row-71 = refl

-- M1 d g s b n w=1u
row-72 : card_of_texts false 7 (codes "M1" ∷ codes "d" ∷ codes "g" ∷ codes "s" ∷ codes "b" ∷ codes "n" ∷ codes "w" ∷ codes "=" ∷ codes "1u" ∷ []) ≡ Ok (cards.Device record { letter = M; name = codes "M1"; nets = (codes "d" ∷ codes "g" ∷ codes "s" ∷ codes "b" ∷ []); model = codes "n"; pairs = (pair (codes "w") (codes "1u") ∷ []); line = 7 })
unfolding number_of scale_of split_of exponent_at form_of items_of parts_of card_from device_of instance_of nets_of cell_of globals_of
row-72 = refl
