-- The forms of cards, under names that other crates' proofs can cite.
use Rattle.cvc_card.specs.declared.card.Letter.{Letter}
use Rattle.cvc_card.specs.declared.form.Form.{Form}
use Rattle.cvc_card.specs.declared.form.Form.TheVariants.{Device, Inst, Subckt, Ends, Global, Params}

abbrev pub CardForm : Type 0
CardForm = Form

abbrev pub device_form : Letter → CardForm
device_form letter = Device letter

abbrev pub instance_form : CardForm
instance_form = Inst

abbrev pub cell_form : CardForm
cell_form = Subckt

abbrev pub ends_form : CardForm
ends_form = Ends

abbrev pub global_form : CardForm
global_form = Global

abbrev pub params_form : CardForm
params_form = Params

pub by_form : (P : CardForm → Type 0) → ((letter : Letter) → P (device_form letter)) → P instance_form → P cell_form → P ends_form → P global_form → P params_form → (form : CardForm) → P form
by_form P device inst cell ends global params (Device letter) = device letter
by_form P device inst cell ends global params Inst = inst
by_form P device inst cell ends global params Subckt = cell
by_form P device inst cell ends global params Ends = ends
by_form P device inst cell ends global params Global = global
by_form P device inst cell ends global params Params = params
