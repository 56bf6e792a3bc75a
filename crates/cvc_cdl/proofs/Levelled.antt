-- Items of a level by the hashes of their names.
use Rattle.std.proofs.Common.{◌≡◌, ℕ, ◌<◌, Bool, List, [], length, map, get_or, Option, sym, ap, ◌∙◌, arith}
use Rattle.std.specs.Prelude.{is_some}
use Rattle.std.specs.Str.{bytes_eq}
use Rattle.std.proofs.lemmas.List.{get_or-map, length-map}
use Rattle.std.proofs.lemmas.Simd.{map-map}
use Rattle.cvc_names.specs.Chains.{IsFound, text_hash}
use Rattle.cvc_names.specs.Names.{is_among, name_at}
use Rattle.cvc_names.proofs.Tables.{found_among}
use Rattle.cvc_cdl.specs.declared.netlist.Item.{Item}
use Rattle.cvc_cdl.specs.Building.{hash_of_item, name_of_item}
use Rattle.cvc_cdl.specs.Drafting.{item_names}

-- the name of an item that is read
pub name_read : (items : List Item) (k : ℕ) (item : Item) → k < length items → item ≡ get_or items k item → name_of_item item ≡ name_at (item_names items) k
name_read items k item below is = ap name_of_item is ∙ sym (get_or-map name_of_item items k item [] below)

-- whether a name stands among those of the items
pub item_found : (items : List Item) (hashes : List ℕ) → hashes ≡ map hash_of_item items → (name : List ℕ) (Passes : ℕ → Bool → Type 0)
    → ((k : ℕ) (b : Bool) → k < length items → Passes k b → b ≡ bytes_eq (name_at (item_names items) k) name) → (hash : ℕ) → hash ≡ text_hash name → (found : Option ℕ) → IsFound hashes hash Passes found
    → is_some found ≡ is_among (item_names items) name
item_found items hashes hashed name Passes tells hash is found h =
    found_among (item_names items) hashes (hashed ∙ sym (map-map text_hash name_of_item items)) name Passes (λ k b below. tells k b (omega (arith, below, length-map items name_of_item))) hash is found h
