-- The generated circuit: a chain of stages from net n0 on, each an instance of one of three cells. A stage INV inverts, a stage LINK is a resistor,
-- and a stage LOST is a resistor with a MOS whose gate nothing drives. The seed and the stage's number choose the cell. Each text is a list of
-- lines, and each line ends in LF.
use Rattle.std.specs.Prelude.{ℕ, ◌+◌, ◌%◌, ◌==◌, List, [], ◌∷◌, ◌++◌, map, codes, decimal, if◌then◌else◌}
use Rattle.std.specs.List.{flat_map, range_with_len}

abbrev pub line : List ℕ → List ℕ
line text = text ++ 10 ∷ []

abbrev pub text_of : List (List ℕ) → List ℕ
text_of lines = flat_map line lines

-- ## The netlist

unfoldable pub cell_lines : List (List ℕ)
cell_lines =
    codes "*.GLOBAL VDD VSS"
    ∷ codes ".SUBCKT INV A Y"
    ∷ codes "MN Y A VSS VSS nch L=0.1u"
    ∷ codes "MP Y A VDD VDD pch L=0.1u"
    ∷ codes ".ENDS"
    ∷ codes ".SUBCKT LINK A Y"
    ∷ codes "R1 A Y 100"
    ∷ codes ".ENDS"
    ∷ codes ".SUBCKT LOST A Y"
    ∷ codes "R1 A Y 100"
    ∷ codes "MN Y F VSS VSS nch L=0.1u"
    ∷ codes ".ENDS"
    ∷ []

-- the cell of a remainder by 5
abbrev pub cell_of : ℕ → List ℕ
cell_of remainder = if remainder == 3 then codes "LINK" else (if remainder == 4 then codes "LOST" else codes "INV")

-- stage i leads from net i to the next one
abbrev pub stage_line : ℕ → ℕ → List ℕ
stage_line seed i = codes "X" ++ decimal i ++ codes " n" ++ decimal i ++ codes " n" ++ decimal (i + 1) ++ codes " / " ++ cell_of ((seed + i) % 5)

-- stages 0 to size - 1
abbrev pub stage_lines : ℕ → ℕ → List (List ℕ)
stage_lines seed size = map (stage_line seed) (range_with_len 0 size)

abbrev pub netlist_text : ℕ → ℕ → List ℕ
netlist_text seed size = text_of (cell_lines ++ stage_lines seed size)

-- ## The models and the power file

unfoldable pub model_lines : List (List ℕ)
model_lines =
    codes "nch nmos Vth=0.4 Vgs=1.32 Vgd=1.32 Vds=1.32"
    ∷ codes "pch pmos Vth=-0.4 Vgs=1.32 Vgd=1.32 Vds=1.32"
    ∷ codes "R resistor"
    ∷ []

unfoldable pub power_lines : List (List ℕ)
power_lines =
    codes "VDD power 1.2"
    ∷ codes "VSS power 0"
    ∷ codes "n0 input 0 1.2"
    ∷ []
