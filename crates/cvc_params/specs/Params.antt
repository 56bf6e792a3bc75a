-- The values of parameters. A text that is no number and names a visible parameter stands for that parameter's value, which is resolved where it
-- was given. In an instance a name is looked up first among the pairs of the instance's card, whose values are resolved in the parent, then among
-- the pairs of its cell, resolved in the instance, then among the main level's pairs, resolved there. In each list the last pair of a name counts,
-- and names are compared without regard to case. A text is followed from pair to pair until it is a number or names no visible parameter: it is
-- then that number, or a word. Where none of the pairs comes twice, that takes no more steps than there are pairs to pass.
use Rattle.std.specs.Prelude.{ℕ, zero, suc, ◌+◌, ℤ, List, [], ◌∷◌, length, Option, Some, None, Result, Ok, Err, if◌then◌else◌}
use Rattle.std.specs.List.{filter}
use Rattle.std.specs.Option.{option_map, option_map_or, option_or}
use Rattle.std.specs.Str.{str_eq_ignore_ascii_case}
use Rattle.cvc_base.specs.declared.param.Pair.{Pair}
use Rattle.cvc_base.specs.declared.param.Param.{Param}
use Rattle.cvc_base.specs.declared.param.Value.{Value}
use Rattle.cvc_base.specs.declared.param.Value.TheVariants.{Number, Word}
use Rattle.cvc_units.specs.declared.fault.NumFault.{NumFault}
use Rattle.cvc_units.specs.Number.{number_of}
use Rattle.cvc_card.specs.Words.{is_number}
use Rattle.cvc_card.specs.Parts.{last_of}
use Rattle.cvc_cdl.specs.declared.netlist.Netlist.{Netlist}
use Rattle.cvc_cdl.specs.Instances.{Instance, cell_at}

-- ## Places

-- where a text is resolved: in an instance, or on the main level
pub data Scope : Type 0 where
  Inside : Instance → Scope
  Main : Scope

-- a text and where it is resolved
pub record Use : Type 0 where
  pub text : List ℕ
  pub scope : Scope

-- the last pair of the name, to be resolved there
abbrev pub given_in : Scope → List Pair → List ℕ → Option Use
given_in scope pairs name =
    option_map (λ (p : Pair). record { text = p.value; scope = scope }) (last_of (filter (λ (p : Pair). str_eq_ignore_ascii_case name p.name) pairs))

abbrev pub on_card : Instance → List ℕ → Option Use
on_card [] name = None
on_card (x ∷ up) name = given_in (Inside up) x.pairs name

abbrev pub seen_from : Netlist → Scope → List ℕ → Option Use
seen_from n Main name = given_in Main n.params name
seen_from n (Inside p) name = option_or (on_card p name) (option_or (given_in (Inside p) (cell_at n p).pairs name) (given_in Main n.params name))

-- what a text stands for, if it names a visible parameter
abbrev pub next : Netlist → Use → Option Use
next n u = if is_number u.text then None else seen_from n u.scope u.text

-- ## Following

-- the text at the end, in fewer steps than this
unfoldable pub last_text : Netlist → ℕ → Use → Option (List ℕ)
last_text n zero u = None
last_text n (suc k) u = option_map_or (last_text n k) (next n u) (Some u.text)

-- as many pairs can be passed from an instance
abbrev pub pairs_above : Netlist → Instance → ℕ
pairs_above n [] = length (cell_at n []).pairs + length n.params
pairs_above n (x ∷ up) = length x.pairs + length (cell_at n (x ∷ up)).pairs + pairs_above n up

abbrev pub value_of_text : List ℕ → Value
value_of_text text = value_from text (number_of text)
  where
    value_from : List ℕ → Result ℤ NumFault → Value
    value_from text (Ok z) = Number z
    value_from text (Err e) = Word text

-- the value of a text in an instance; none is a loop
unfoldable pub value_in : Netlist → Instance → List ℕ → Option Value
value_in n p text = option_map value_of_text (last_text n (suc (pairs_above n p)) record { text = text; scope = Inside p })

-- all of them, or none
abbrev pub and_all : Option Param → Option (List Param) → Option (List Param)
and_all None others = None
and_all (Some p) None = None
and_all (Some p) (Some ps) = Some (p ∷ ps)

abbrev pub param_in : Netlist → Instance → Pair → Option Param
param_in n p pair = option_map (λ (v : Value). record { name = pair.name; value = v }) (value_in n p pair.value)

-- the parameters of a device with these pairs; none where one of them is a loop
unfoldable pub params_in : Netlist → Instance → List Pair → Option (List Param)
params_in n p [] = Some []
params_in n p (pair ∷ pairs) = and_all (param_in n p pair) (params_in n p pairs)
