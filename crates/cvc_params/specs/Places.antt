-- Loops of parameters. A text comes by places as it is followed: a place is an instance or the main level, one of its lists and a name without
-- regard to case. There is a loop where a place comes twice, which shows within as many steps as there are pairs to pass, and one more.
use Rattle.std.specs.Prelude.{ℕ, zero, suc, ◌==◌, Bool, false, ◌&&◌, ◌||◌, List, [], ◌∷◌, is_some, if◌then◌else◌}
use Rattle.std.specs.List.{list_any}
use Rattle.std.specs.Option.{option_map_or}
use Rattle.std.specs.Str.{bytes_eq, str_to_ascii_lowercase}
use Rattle.cvc_base.specs.declared.param.Pair.{Pair}
use Rattle.cvc_cdl.specs.declared.netlist.Netlist.{Netlist}
use Rattle.cvc_cdl.specs.Instances.{Instance, cell_at, names_to, same_names}
use Rattle.cvc_params.specs.Params.{Scope, Inside, Main, Use, given_in, on_card, next, pairs_above}

pub record Place : Type 0 where
  pub within : List (List ℕ)
  pub list : ℕ
  pub name : List ℕ

abbrev pub same_place : Place → Place → Bool
same_place a b = (a.list == b.list) && bytes_eq a.name b.name && same_names a.within b.within

abbrev pub place_at : List (List ℕ) → ℕ → List ℕ → Place
place_at within list name = record { within = within; list = list; name = str_to_ascii_lowercase name }

-- the place of a visible name
abbrev pub place_from : Netlist → Scope → List ℕ → Place
place_from n Main name = place_at [] 3 name
place_from n (Inside p) name =
    if is_some (on_card p name) then place_at (names_to p) 1 name
    else (if is_some (given_in (Inside p) (cell_at n p).pairs name) then place_at (names_to p) 2 name else place_at [] 3 name)

-- the places of at most so many steps
unfoldable pub places : Netlist → ℕ → Use → List Place
places n zero u = []
places n (suc k) u = option_map_or (λ v. place_from n u.scope u.text ∷ places n k v) (next n u) []

abbrev pub has_place_twice : List Place → Bool
has_place_twice [] = false
has_place_twice (p ∷ ps) = list_any (same_place p) ps || has_place_twice ps

-- a place comes twice as the text is followed
unfoldable pub comes_twice : Netlist → Instance → List ℕ → Bool
comes_twice n p text = has_place_twice (places n (suc (pairs_above n p)) record { text = text; scope = Inside p })

-- the value of one of these pairs is a loop
abbrev pub has_loop : Netlist → Instance → List Pair → Bool
has_loop n p pairs = list_any (λ (pair : Pair). comes_twice n p pair.value) pairs
