-- A net that a name finds has bounds in a family of a circuit that is bound from the list.
use Rattle.std.proofs.Common.{◌≡◌, ℕ, ◌<◌, List, [], length, refl, ◌∙◌, sym, subst}
use Rattle.std.specs.Prelude.{Option, Some, None}
use Rattle.std.specs.Option.{option_or, option_and_then}
use Rattle.std.specs.Str.{bytes_eq}
use Rattle.std.proofs.lemmas.List.Quantifiers.{position-Some}
use Rattle.cvc_plan.specs.Nets.{Net, same_net, top_net}
use Rattle.cvc_flat.specs.Flat.{FlatList}
use Rattle.cvc_flat.specs.FindNet.{find_net, net_named, number_among, number_printed, pieces, printed_net}
use Rattle.cvc_law.specs.declared.interval.Interval.{Interval}
use Rattle.cvc_law.specs.Network.{Network, nets}
use Rattle.cvc_law.specs.Family.{IsFamily}

net_inside : (f : FlatList) (text : List ℕ) (n : ℕ) → find_net f text ≡ Some n → n < length f.nets
unfolding find_net
net_inside f text n e = by (number_printed f.nets text) refl e
  where
    named : (o : Option Net) → option_and_then (number_among f.nets) o ≡ Some n → n < length f.nets
    named None h = cc
    named (Some net) h = (position-Some (same_net net) f.nets n (top_net []) h).0

    by : (o : Option ℕ) → number_printed f.nets text ≡ o → option_or o (option_and_then (number_among f.nets) (net_named f [] (pieces text))) ≡ Some n → n < length f.nets
    by None at h = named (net_named f [] (pieces text)) h
    by (Some k) at h = (position-Some (λ (net : Net). bytes_eq text (printed_net net)) f.nets n (top_net []) (at ∙ h)).0

pub has_bounds : (f : FlatList) (c : Network) (family : List Interval) (text : List ℕ) (n : ℕ) → find_net f text ≡ Some n → nets c ≡ length f.nets → IsFamily c family → n < length family
has_bounds f c family text n found bound h = subst (λ m. n < m) (sym (h.every_net ∙ bound)) (net_inside f text n found)
