-- Nets by their printed names. The first net of the list that is printed so is found. Where there is none, the text is split at each `/`: all
-- pieces but the last are names of instances from the top on, and the last is a name there, whose net is found if it is in the list.
use Rattle.std.specs.Prelude.{ℕ, ◌==◌, Bool, List, [], ◌∷◌, Option, Some, None, find, position}
use Rattle.std.specs.List.{slice_split}
use Rattle.std.specs.Option.{option_map, option_and_then, option_or}
use Rattle.std.specs.Str.{bytes_eq}
use Rattle.cvc_cdl.specs.Instances.{printed, same_names}
use Rattle.cvc_plan.specs.Nets.{Net, Path, names_of, net_of, same_net}
use Rattle.cvc_flat.specs.Flat.{FlatList}

abbrev pub printed_net : Net → List ℕ
printed_net net = printed net.within net.name

-- the first net that is printed so
abbrev pub number_printed : List Net → List ℕ → Option ℕ
number_printed nets text = position (λ (net : Net). bytes_eq text (printed_net net)) nets

-- the number of a net, if it is in the list
abbrev pub number_among : List Net → Net → Option ℕ
number_among nets net = position (same_net net) nets

abbrev pub is_slash : ℕ → Bool
is_slash c = c == 47

abbrev pub pieces : List ℕ → List (List ℕ)
pieces text = slice_split is_slash text

-- the instance of these names, its own first
abbrev pub path_named : FlatList → List (List ℕ) → Option Path
path_named f [] = Some []
path_named f (own ∷ up) = find (λ (p : Path). same_names (own ∷ up) (names_of p)) f.instances

-- the net that pieces name behind these names
unfoldable pub net_named : FlatList → List (List ℕ) → List (List ℕ) → Option Net
net_named f names [] = None
net_named f names (name ∷ []) = option_map (λ p. net_of f.globals p name) (path_named f names)
net_named f names (name ∷ more ∷ rest) = net_named f (name ∷ names) (more ∷ rest)

unfoldable pub find_net : FlatList → List ℕ → Option ℕ
find_net f text = option_or (number_printed f.nets text) (option_and_then (number_among f.nets) (net_named f [] (pieces text)))
