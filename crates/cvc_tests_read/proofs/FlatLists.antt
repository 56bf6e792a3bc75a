-- Flat lists of worked files, computed.
use Rattle.std.specs.Prelude.{◌≡◌, ℕ, ◌*◌, ◌^◌, List, [], ◌∷◌, ◌++◌, Option, map, codes, Some, None, Result, Ok, Err, pos, refl}
use Rattle.cvc_base.specs.declared.cause.Cause.TheVariants.{TooDeep, TooManyInstances, TooManyDevices, TooManyNets, ParamLoop}
use Rattle.cvc_base.specs.declared.fault.Fault.{Fault}
use Rattle.cvc_base.specs.declared.ids.NetId.{NetId}
use Rattle.cvc_base.specs.declared.param.Param.{Param}
use Rattle.cvc_base.specs.declared.param.Value.TheVariants.{Number, Word}
use Rattle.cvc_units.specs.Split.{split_of, exponent_at}
use Rattle.cvc_units.specs.Number.{number_of, scale_of}
use Rattle.cvc_lex.specs.Physical.{ended, open_rest, physical, text_of, cut, shape_of, tokens_from, read}
use Rattle.cvc_lex.specs.Lines.{groups, logical, fault_with, fault_after, first_fault, faultless, lexical, lines, closed_at_end}
use Rattle.cvc_card.specs.Forms.{form_of}
use Rattle.cvc_card.specs.Items.{items_of}
use Rattle.cvc_card.specs.Parts.{parts_of}
use Rattle.cvc_card.specs.Card.{card_of, card_from, device_of, instance_of, nets_of, cell_of, globals_of}
use Rattle.cvc_cdl.specs.Levels.{level_behind, placed, items_at, pairs_at, cell_cards}
use Rattle.cvc_cdl.specs.Netlist.{mentions, each_once, cells_of, netlist_of}
use Rattle.cvc_cdl.specs.Building.{cause_of, fault_at}
use Rattle.cvc_cdl.specs.Ending.{instances, first_instance_fault, has_chain, is_endless, ending_fault}
use Rattle.cvc_cdl.specs.File.{entries_from, entries_of, file_of}
use Rattle.cvc_cdl.specs.Instances.{printed}
use Rattle.cvc_plan.specs.Nets.{Net, net_of}
use Rattle.cvc_params.specs.Params.{last_text, value_in, params_in}
use Rattle.cvc_params.specs.Places.{comes_twice, places}
use Rattle.cvc_flat.specs.Walk.{walk}
use Rattle.cvc_flat.specs.Flat.{FlatDevice, FlatList, Limits, limits, nets_once, nets_behind, devices_behind, instances_behind, opening_fault, visit_fault, walk_fault, flat_fault, list_behind, flat_of}
use Rattle.cvc_flat.specs.FindNet.{printed_net, net_named, find_net}
use Rattle.cvc_base.specs.Order.{◌>>=◌}

abbrev answer_of : {A : Type 0} → (FlatList → A) → Limits → Option (List ℕ) → List ℕ → Result A Fault
answer_of answer l top text = ◌>>=◌ (◌>>=◌ (file_of text top) (flat_of l)) (λ f. Ok (answer f))

abbrev net_names : FlatList → List (List ℕ)
net_names f = map printed_net f.nets

abbrev device_names : FlatList → List (List ℕ)
device_names f = map (λ (d : FlatDevice). printed d.within d.name) f.devices

abbrev device_models : FlatList → List (List ℕ)
device_models f = map (λ (d : FlatDevice). d.model) f.devices

abbrev device_pins : FlatList → List (List ℕ)
device_pins f = map (λ (d : FlatDevice). map (λ (n : NetId). n.0) d.pins) f.devices

abbrev device_params : FlatList → List (List Param)
device_params f = map (λ (d : FlatDevice). d.params) f.devices

abbrev found : List (List ℕ) → FlatList → List (Option ℕ)
found texts f = map (find_net f) texts

abbrev file_inverters_nets : List ℕ
file_inverters_nets = (codes "* inverters" ++ 10 ∷ []) ++ (codes "*.BIPOLAR" ++ 10 ∷ []) ++ (codes "*.RESI = 2000" ++ 10 ∷ []) ++ (codes ".PARAM" ++ 10 ∷ []) ++ (codes "" ++ 10 ∷ []) ++ (codes "*.GLOBAL vdd!" ++ 10 ∷ []) ++ (codes "+        vss!" ++ 10 ∷ []) ++ (codes "*.PIN vdd!" ++ 10 ∷ []) ++ (codes "*+    vss!" ++ 10 ∷ []) ++ (codes ".SUBCKT inv A Y" ++ 10 ∷ []) ++ (codes "*.PININFO A:I Y:O" ++ 10 ∷ []) ++ (codes "MM0 Y A vss! vss! nch W=1u L=60n m=1" ++ 10 ∷ []) ++ (codes "MM1 Y A vdd! vdd! pch W=2u L=60n m=1" ++ 10 ∷ []) ++ (codes ".ENDS" ++ 10 ∷ []) ++ (codes ".SUBCKT top IN OUT" ++ 10 ∷ []) ++ (codes "*.PININFO IN:I OUT:O" ++ 10 ∷ []) ++ (codes "XI0 IN net1 / inv" ++ 10 ∷ []) ++ (codes "XI1 net1 OUT / inv" ++ 10 ∷ []) ++ (codes ".ENDS" ++ 10 ∷ [])

inverters_nets : answer_of net_names limits None file_inverters_nets ≡ Ok (codes "vdd!" ∷ codes "vss!" ∷ codes "IN" ∷ codes "OUT" ∷ codes "net1" ∷ [])
unfolding comes_twice places flat_of list_behind flat_fault walk_fault visit_fault opening_fault devices_behind instances_behind nets_behind nets_once walk net_of params_in value_in last_text find_net net_named file_of entries_of entries_from ending_fault first_instance_fault instances is_endless has_chain netlist_of cells_of each_once mentions cause_of level_behind placed items_at pairs_at cell_cards card_of card_from device_of instance_of nets_of cell_of globals_of parts_of items_of form_of number_of split_of exponent_at scale_of closed_at_end faultless lexical lines first_fault fault_with fault_after logical groups physical ended open_rest text_of cut shape_of tokens_from read
inverters_nets = refl

inverters_devices : answer_of device_names limits None file_inverters_nets ≡ Ok (codes "XI0/MM0" ∷ codes "XI0/MM1" ∷ codes "XI1/MM0" ∷ codes "XI1/MM1" ∷ [])
unfolding comes_twice places flat_of list_behind flat_fault walk_fault visit_fault opening_fault devices_behind instances_behind nets_behind nets_once walk net_of params_in value_in last_text find_net net_named file_of entries_of entries_from ending_fault first_instance_fault instances is_endless has_chain netlist_of cells_of each_once mentions cause_of level_behind placed items_at pairs_at cell_cards card_of card_from device_of instance_of nets_of cell_of globals_of parts_of items_of form_of number_of split_of exponent_at scale_of closed_at_end faultless lexical lines first_fault fault_with fault_after logical groups physical ended open_rest text_of cut shape_of tokens_from read
inverters_devices = refl

inverters_pins : answer_of device_pins limits None file_inverters_nets ≡ Ok ((4 ∷ 2 ∷ 1 ∷ 1 ∷ []) ∷ (4 ∷ 2 ∷ 0 ∷ 0 ∷ []) ∷ (3 ∷ 4 ∷ 1 ∷ 1 ∷ []) ∷ (3 ∷ 4 ∷ 0 ∷ 0 ∷ []) ∷ [])
unfolding comes_twice places flat_of list_behind flat_fault walk_fault visit_fault opening_fault devices_behind instances_behind nets_behind nets_once walk net_of params_in value_in last_text find_net net_named file_of entries_of entries_from ending_fault first_instance_fault instances is_endless has_chain netlist_of cells_of each_once mentions cause_of level_behind placed items_at pairs_at cell_cards card_of card_from device_of instance_of nets_of cell_of globals_of parts_of items_of form_of number_of split_of exponent_at scale_of closed_at_end faultless lexical lines first_fault fault_with fault_after logical groups physical ended open_rest text_of cut shape_of tokens_from read
inverters_pins = refl

inverters_find : answer_of (found (codes "XI0/Y" ∷ codes "XI1/A" ∷ codes "XI1/vss!" ∷ codes "XI0/q" ∷ codes "XI2/A" ∷ codes "net1" ∷ codes "IN" ∷ [])) limits None file_inverters_nets ≡ Ok (Some 4 ∷ Some 4 ∷ Some 1 ∷ None ∷ None ∷ Some 4 ∷ Some 2 ∷ [])
unfolding comes_twice places flat_of list_behind flat_fault walk_fault visit_fault opening_fault devices_behind instances_behind nets_behind nets_once walk net_of params_in value_in last_text find_net net_named file_of entries_of entries_from ending_fault first_instance_fault instances is_endless has_chain netlist_of cells_of each_once mentions cause_of level_behind placed items_at pairs_at cell_cards card_of card_from device_of instance_of nets_of cell_of globals_of parts_of items_of form_of number_of split_of exponent_at scale_of closed_at_end faultless lexical lines first_fault fault_with fault_after logical groups physical ended open_rest text_of cut shape_of tokens_from read
inverters_find = refl

abbrev file_left_out_own : List ℕ
file_left_out_own = (codes ".SUBCKT pass A Y S B" ++ 10 ∷ []) ++ (codes "MN Y A S B nch L=0.2u" ++ 10 ∷ []) ++ (codes ".ENDS" ++ 10 ∷ []) ++ (codes "XI0 / pass $PINS A=en S=sig Y=out" ++ 10 ∷ [])

left_out_own : answer_of net_names limits None file_left_out_own ≡ Ok (codes "out" ∷ codes "en" ∷ codes "sig" ∷ codes "XI0/B" ∷ [])
unfolding comes_twice places flat_of list_behind flat_fault walk_fault visit_fault opening_fault devices_behind instances_behind nets_behind nets_once walk net_of params_in value_in last_text find_net net_named file_of entries_of entries_from ending_fault first_instance_fault instances is_endless has_chain netlist_of cells_of each_once mentions cause_of level_behind placed items_at pairs_at cell_cards card_of card_from device_of instance_of nets_of cell_of globals_of parts_of items_of form_of number_of split_of exponent_at scale_of closed_at_end faultless lexical lines first_fault fault_with fault_after logical groups physical ended open_rest text_of cut shape_of tokens_from read
left_out_own = refl

abbrev file_depth_ok : List ℕ
file_depth_ok = (codes ".SUBCKT c0 p" ++ 10 ∷ []) ++ (codes "R1 p VSS 1" ++ 10 ∷ []) ++ (codes ".ENDS" ++ 10 ∷ []) ++ (codes ".SUBCKT c1 p" ++ 10 ∷ []) ++ (codes "X1 p c0" ++ 10 ∷ []) ++ (codes ".ENDS" ++ 10 ∷ []) ++ (codes ".SUBCKT c2 p" ++ 10 ∷ []) ++ (codes "X1 p c1" ++ 10 ∷ []) ++ (codes ".ENDS" ++ 10 ∷ []) ++ (codes ".SUBCKT c3 p" ++ 10 ∷ []) ++ (codes "X1 p c2" ++ 10 ∷ []) ++ (codes ".ENDS" ++ 10 ∷ [])

depth_deep : answer_of net_names (record { instances = 99; names = 2; devices = 99; nets = 99 }) (Some (codes "c3")) file_depth_ok ≡ Err (fault_at 5 TooDeep)
unfolding comes_twice places flat_of list_behind flat_fault walk_fault visit_fault opening_fault devices_behind instances_behind nets_behind nets_once walk net_of params_in value_in last_text find_net net_named file_of entries_of entries_from ending_fault first_instance_fault instances is_endless has_chain netlist_of cells_of each_once mentions cause_of level_behind placed items_at pairs_at cell_cards card_of card_from device_of instance_of nets_of cell_of globals_of parts_of items_of form_of number_of split_of exponent_at scale_of closed_at_end faultless lexical lines first_fault fault_with fault_after logical groups physical ended open_rest text_of cut shape_of tokens_from read
depth_deep = refl

depth_many : answer_of net_names (record { instances = 2; names = 2; devices = 99; nets = 99 }) (Some (codes "c3")) file_depth_ok ≡ Err (fault_at 5 TooManyInstances)
unfolding comes_twice places flat_of list_behind flat_fault walk_fault visit_fault opening_fault devices_behind instances_behind nets_behind nets_once walk net_of params_in value_in last_text find_net net_named file_of entries_of entries_from ending_fault first_instance_fault instances is_endless has_chain netlist_of cells_of each_once mentions cause_of level_behind placed items_at pairs_at cell_cards card_of card_from device_of instance_of nets_of cell_of globals_of parts_of items_of form_of number_of split_of exponent_at scale_of closed_at_end faultless lexical lines first_fault fault_with fault_after logical groups physical ended open_rest text_of cut shape_of tokens_from read
depth_many = refl

abbrev file_param_loop : List ℕ
file_param_loop = (codes ".PARAM x=y y=x" ++ 10 ∷ []) ++ (codes "R1 a b 1 w=x" ++ 10 ∷ [])

param_loop : answer_of device_params limits None file_param_loop ≡ Err (fault_at 2 ParamLoop)
unfolding comes_twice places flat_of list_behind flat_fault walk_fault visit_fault opening_fault devices_behind instances_behind nets_behind nets_once walk net_of params_in value_in last_text find_net net_named file_of entries_of entries_from ending_fault first_instance_fault instances is_endless has_chain netlist_of cells_of each_once mentions cause_of level_behind placed items_at pairs_at cell_cards card_of card_from device_of instance_of nets_of cell_of globals_of parts_of items_of form_of number_of split_of exponent_at scale_of closed_at_end faultless lexical lines first_fault fault_with fault_after logical groups physical ended open_rest text_of cut shape_of tokens_from read
param_loop = refl

abbrev file_param_word : List ℕ
file_param_word = (codes ".PARAM x=y" ++ 10 ∷ []) ++ (codes "R1 a b 1 w=x" ++ 10 ∷ [])

param_word : answer_of device_params limits None file_param_word ≡ Ok ((record { name = codes "R"; value = Number (pos (10 ^ 24)) } ∷ record { name = codes "w"; value = Word (codes "y") } ∷ []) ∷ [])
unfolding comes_twice places flat_of list_behind flat_fault walk_fault visit_fault opening_fault devices_behind instances_behind nets_behind nets_once walk net_of params_in value_in last_text find_net net_named file_of entries_of entries_from ending_fault first_instance_fault instances is_endless has_chain netlist_of cells_of each_once mentions cause_of level_behind placed items_at pairs_at cell_cards card_of card_from device_of instance_of nets_of cell_of globals_of parts_of items_of form_of number_of split_of exponent_at scale_of closed_at_end faultless lexical lines first_fault fault_with fault_after logical groups physical ended open_rest text_of cut shape_of tokens_from read
param_word = refl

abbrev file_param_model : List ℕ
file_param_model = (codes ".SUBCKT c a w=2" ++ 10 ∷ []) ++ (codes "R1 a b w" ++ 10 ∷ []) ++ (codes ".ENDS" ++ 10 ∷ []) ++ (codes "X1 n c" ++ 10 ∷ [])

param_model : answer_of device_models limits None file_param_model ≡ Ok (codes "w" ∷ [])
unfolding comes_twice places flat_of list_behind flat_fault walk_fault visit_fault opening_fault devices_behind instances_behind nets_behind nets_once walk net_of params_in value_in last_text find_net net_named file_of entries_of entries_from ending_fault first_instance_fault instances is_endless has_chain netlist_of cells_of each_once mentions cause_of level_behind placed items_at pairs_at cell_cards card_of card_from device_of instance_of nets_of cell_of globals_of parts_of items_of form_of number_of split_of exponent_at scale_of closed_at_end faultless lexical lines first_fault fault_with fault_after logical groups physical ended open_rest text_of cut shape_of tokens_from read
param_model = refl

abbrev file_three_lists : List ℕ
file_three_lists = (codes ".PARAM w=3" ++ 10 ∷ []) ++ (codes ".SUBCKT c a w=1" ++ 10 ∷ []) ++ (codes "R1 a b 1 L=W" ++ 10 ∷ []) ++ (codes ".ENDS" ++ 10 ∷ []) ++ (codes "X1 n c W=w" ++ 10 ∷ [])

three_lists : answer_of device_params limits None file_three_lists ≡ Ok ((record { name = codes "R"; value = Number (pos (10 ^ 24)) } ∷ record { name = codes "L"; value = Number (pos (3 * 10 ^ 24)) } ∷ []) ∷ [])
unfolding comes_twice places flat_of list_behind flat_fault walk_fault visit_fault opening_fault devices_behind instances_behind nets_behind nets_once walk net_of params_in value_in last_text find_net net_named file_of entries_of entries_from ending_fault first_instance_fault instances is_endless has_chain netlist_of cells_of each_once mentions cause_of level_behind placed items_at pairs_at cell_cards card_of card_from device_of instance_of nets_of cell_of globals_of parts_of items_of form_of number_of split_of exponent_at scale_of closed_at_end faultless lexical lines first_fault fault_with fault_after logical groups physical ended open_rest text_of cut shape_of tokens_from read
three_lists = refl

abbrev file_own_default : List ℕ
file_own_default = (codes ".PARAM w=1" ++ 10 ∷ []) ++ (codes ".SUBCKT c a w=w" ++ 10 ∷ []) ++ (codes "R1 a b 1 L=w" ++ 10 ∷ []) ++ (codes ".ENDS" ++ 10 ∷ []) ++ (codes "X1 n c" ++ 10 ∷ [])

own_default : answer_of device_params limits None file_own_default ≡ Err (fault_at 3 ParamLoop)
unfolding comes_twice places flat_of list_behind flat_fault walk_fault visit_fault opening_fault devices_behind instances_behind nets_behind nets_once walk net_of params_in value_in last_text find_net net_named file_of entries_of entries_from ending_fault first_instance_fault instances is_endless has_chain netlist_of cells_of each_once mentions cause_of level_behind placed items_at pairs_at cell_cards card_of card_from device_of instance_of nets_of cell_of globals_of parts_of items_of form_of number_of split_of exponent_at scale_of closed_at_end faultless lexical lines first_fault fault_with fault_after logical groups physical ended open_rest text_of cut shape_of tokens_from read
own_default = refl

abbrev file_global_inside : List ℕ
file_global_inside = (codes "*.GLOBAL vdd!" ++ 10 ∷ []) ++ (codes ".SUBCKT c a" ++ 10 ∷ []) ++ (codes "R1 a vdd! 1" ++ 10 ∷ []) ++ (codes ".ENDS" ++ 10 ∷ []) ++ (codes "XI0 n c" ++ 10 ∷ [])

global_inside : answer_of (found (codes "vdd!" ∷ codes "XI0/vdd!" ∷ codes "XI0/a" ∷ codes "n" ∷ codes "XI0//a" ∷ [])) limits None file_global_inside ≡ Ok (Some 0 ∷ Some 0 ∷ Some 1 ∷ Some 1 ∷ None ∷ [])
unfolding comes_twice places flat_of list_behind flat_fault walk_fault visit_fault opening_fault devices_behind instances_behind nets_behind nets_once walk net_of params_in value_in last_text find_net net_named file_of entries_of entries_from ending_fault first_instance_fault instances is_endless has_chain netlist_of cells_of each_once mentions cause_of level_behind placed items_at pairs_at cell_cards card_of card_from device_of instance_of nets_of cell_of globals_of parts_of items_of form_of number_of split_of exponent_at scale_of closed_at_end faultless lexical lines first_fault fault_with fault_after logical groups physical ended open_rest text_of cut shape_of tokens_from read
global_inside = refl

abbrev file_slash_nets : List ℕ
file_slash_nets = (codes ".SUBCKT c a" ++ 10 ∷ []) ++ (codes "R1 a b 1" ++ 10 ∷ []) ++ (codes ".ENDS" ++ 10 ∷ []) ++ (codes "X1/X1 n c" ++ 10 ∷ []) ++ (codes ".SUBCKT e a" ++ 10 ∷ []) ++ (codes "X1 m c" ++ 10 ∷ []) ++ (codes ".ENDS" ++ 10 ∷ []) ++ (codes "X1 n e" ++ 10 ∷ [])

slash_nets : answer_of net_names limits None file_slash_nets ≡ Ok (codes "n" ∷ codes "X1/X1/b" ∷ codes "X1/m" ∷ codes "X1/X1/b" ∷ [])
unfolding comes_twice places flat_of list_behind flat_fault walk_fault visit_fault opening_fault devices_behind instances_behind nets_behind nets_once walk net_of params_in value_in last_text find_net net_named file_of entries_of entries_from ending_fault first_instance_fault instances is_endless has_chain netlist_of cells_of each_once mentions cause_of level_behind placed items_at pairs_at cell_cards card_of card_from device_of instance_of nets_of cell_of globals_of parts_of items_of form_of number_of split_of exponent_at scale_of closed_at_end faultless lexical lines first_fault fault_with fault_after logical groups physical ended open_rest text_of cut shape_of tokens_from read
slash_nets = refl

slash_find : answer_of (found (codes "X1/X1/b" ∷ codes "X1/X1/a" ∷ [])) limits None file_slash_nets ≡ Ok (Some 1 ∷ Some 2 ∷ [])
unfolding comes_twice places flat_of list_behind flat_fault walk_fault visit_fault opening_fault devices_behind instances_behind nets_behind nets_once walk net_of params_in value_in last_text find_net net_named file_of entries_of entries_from ending_fault first_instance_fault instances is_endless has_chain netlist_of cells_of each_once mentions cause_of level_behind placed items_at pairs_at cell_cards card_of card_from device_of instance_of nets_of cell_of globals_of parts_of items_of form_of number_of split_of exponent_at scale_of closed_at_end faultless lexical lines first_fault fault_with fault_after logical groups physical ended open_rest text_of cut shape_of tokens_from read
slash_find = refl

abbrev file_global_port : List ℕ
file_global_port = (codes "*.GLOBAL a" ++ 10 ∷ []) ++ (codes ".SUBCKT c a" ++ 10 ∷ []) ++ (codes "R1 a b 1" ++ 10 ∷ []) ++ (codes ".ENDS" ++ 10 ∷ []) ++ (codes "X1 n c" ++ 10 ∷ [])

global_port : answer_of net_names limits None file_global_port ≡ Ok (codes "a" ∷ codes "X1/b" ∷ [])
unfolding comes_twice places flat_of list_behind flat_fault walk_fault visit_fault opening_fault devices_behind instances_behind nets_behind nets_once walk net_of params_in value_in last_text find_net net_named file_of entries_of entries_from ending_fault first_instance_fault instances is_endless has_chain netlist_of cells_of each_once mentions cause_of level_behind placed items_at pairs_at cell_cards card_of card_from device_of instance_of nets_of cell_of globals_of parts_of items_of form_of number_of split_of exponent_at scale_of closed_at_end faultless lexical lines first_fault fault_with fault_after logical groups physical ended open_rest text_of cut shape_of tokens_from read
global_port = refl

abbrev file_nets_pins : List ℕ
file_nets_pins = (codes "R1 a b 1" ++ 10 ∷ []) ++ (codes "R2 b c w=w" ++ 10 ∷ [])

nets_pins : answer_of net_names (record { instances = 9; names = 64; devices = 9; nets = 2 }) None file_nets_pins ≡ Err (fault_at 2 TooManyNets)
unfolding comes_twice places flat_of list_behind flat_fault walk_fault visit_fault opening_fault devices_behind instances_behind nets_behind nets_once walk net_of params_in value_in last_text find_net net_named file_of entries_of entries_from ending_fault first_instance_fault instances is_endless has_chain netlist_of cells_of each_once mentions cause_of level_behind placed items_at pairs_at cell_cards card_of card_from device_of instance_of nets_of cell_of globals_of parts_of items_of form_of number_of split_of exponent_at scale_of closed_at_end faultless lexical lines first_fault fault_with fault_after logical groups physical ended open_rest text_of cut shape_of tokens_from read
nets_pins = refl

abbrev file_devices_first : List ℕ
file_devices_first = (codes "R1 a b 1" ++ 10 ∷ []) ++ (codes "R2 c d 1" ++ 10 ∷ [])

devices_first : answer_of net_names (record { instances = 9; names = 64; devices = 1; nets = 2 }) None file_devices_first ≡ Err (fault_at 2 TooManyDevices)
unfolding comes_twice places flat_of list_behind flat_fault walk_fault visit_fault opening_fault devices_behind instances_behind nets_behind nets_once walk net_of params_in value_in last_text find_net net_named file_of entries_of entries_from ending_fault first_instance_fault instances is_endless has_chain netlist_of cells_of each_once mentions cause_of level_behind placed items_at pairs_at cell_cards card_of card_from device_of instance_of nets_of cell_of globals_of parts_of items_of form_of number_of split_of exponent_at scale_of closed_at_end faultless lexical lines first_fault fault_with fault_after logical groups physical ended open_rest text_of cut shape_of tokens_from read
devices_first = refl
