-- The text of a netlist: the global nets on one line, the parameters on another, each cell, and then what stands on the main level. Every line ends in LF.
-- A pair is printed as ` $NAME=VALUE`. A device names its model as ` $[MODEL]`, and an instance its cell behind a lone `/`; connections by name stand
-- behind ` $PINS`.
use Rattle.std.specs.Prelude.{ℕ, List, [], ◌∷◌, ◌++◌, codes}
use Rattle.std.specs.List.{flat_map}
use Rattle.cvc_base.specs.declared.param.Pair.{Pair}
use Rattle.cvc_card.specs.declared.card.DeviceCard.{DeviceCard}
use Rattle.cvc_card.specs.declared.card.InstCard.{InstCard}
use Rattle.cvc_card.specs.declared.card.Ports.{Ports}
use Rattle.cvc_card.specs.declared.card.Ports.TheVariants.{ByOrder, ByName}
use Rattle.cvc_cdl.specs.declared.netlist.Cell.{Cell}
use Rattle.cvc_cdl.specs.declared.netlist.Global.{Global}
use Rattle.cvc_cdl.specs.declared.netlist.Item.{Item}
use Rattle.cvc_cdl.specs.declared.netlist.Item.TheVariants.{Device, Inst}
use Rattle.cvc_cdl.specs.declared.netlist.Netlist.{Netlist}

abbrev pub line_feed : List ℕ
line_feed = 10 ∷ []

-- a word behind a blank
abbrev pub spaced : List ℕ → List ℕ
spaced word = 32 ∷ word

abbrev pub spaced_words : List (List ℕ) → List ℕ
spaced_words words = flat_map spaced words

abbrev pub pair_text : Pair → List ℕ
pair_text p = codes " $" ++ p.name ++ codes "=" ++ p.value

abbrev pub pairs_text : List Pair → List ℕ
pairs_text pairs = flat_map pair_text pairs

abbrev pub device_text : DeviceCard → List ℕ
device_text d = d.name ++ spaced_words d.nets ++ codes " $[" ++ d.model ++ codes "]" ++ pairs_text d.pairs

-- what stands behind the name of an instance
abbrev pub connected_text : List ℕ → List Pair → Ports → List ℕ
connected_text cell pairs (ByOrder nets) = spaced_words nets ++ codes " / " ++ cell ++ pairs_text pairs
connected_text cell pairs (ByName connections) = codes " / " ++ cell ++ pairs_text pairs ++ codes " $PINS" ++ pairs_text connections

abbrev pub instance_text : InstCard → List ℕ
instance_text x = x.name ++ connected_text x.cell x.pairs x.ports

abbrev pub item_text : Item → List ℕ
item_text (Device d) = device_text d
item_text (Inst x) = instance_text x

abbrev pub item_line : Item → List ℕ
item_line item = item_text item ++ line_feed

abbrev pub items_text : List Item → List ℕ
items_text items = flat_map item_line items

abbrev pub cell_text : Cell → List ℕ
cell_text c = codes ".SUBCKT " ++ c.name ++ spaced_words c.ports ++ pairs_text c.pairs ++ line_feed ++ items_text c.items ++ codes ".ENDS\n"

abbrev pub global_word : Global → List ℕ
global_word g = spaced g.name

abbrev pub globals_text : List Global → List ℕ
globals_text [] = []
globals_text (g ∷ gs) = codes "*.GLOBAL" ++ flat_map global_word (g ∷ gs) ++ line_feed

abbrev pub params_text : List Pair → List ℕ
params_text [] = []
params_text (p ∷ ps) = codes ".PARAM" ++ pairs_text (p ∷ ps) ++ line_feed

unfoldable pub text_of : Netlist → List ℕ
text_of n = globals_text n.globals ++ params_text n.params ++ flat_map cell_text n.cells ++ items_text n.main.items
