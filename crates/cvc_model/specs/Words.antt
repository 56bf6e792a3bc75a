-- The kinds of models by their words, without regard to case.
use Rattle.std.specs.Prelude.{ℕ, List, [], ◌∷◌, Option, find, codes}
use Rattle.std.specs.Str.{str_eq_ignore_ascii_case}
use Rattle.cvc_base.specs.declared.device.Kind.{Kind}
use Rattle.cvc_base.specs.declared.device.Kind.TheVariants.{Nmos, Pmos, Resistor, Diode, Capacitor, Inductor, Bipolar}

abbrev pub word_of_kind : Kind → List ℕ
word_of_kind Nmos = codes "nmos"
word_of_kind Pmos = codes "pmos"
word_of_kind Resistor = codes "resistor"
word_of_kind Diode = codes "diode"
word_of_kind Capacitor = codes "capacitor"
word_of_kind Inductor = codes "inductor"
word_of_kind Bipolar = codes "bipolar"

abbrev pub kinds : List Kind
kinds = Nmos ∷ Pmos ∷ Resistor ∷ Diode ∷ Capacitor ∷ Inductor ∷ Bipolar ∷ []

-- the kind that a word names
abbrev pub kind_of : List ℕ → Option Kind
kind_of text = find (λ kind. str_eq_ignore_ascii_case text (word_of_kind kind)) kinds
