-- What an instance sees: the ways to the levels, and names in lower case.
use Rattle.std.proofs.Common.{◌≡◌, ℕ, ◌+◌, ◌<◌, Bool, true, false, cond, List, [], ◌∷◌, length, map, take, get_or, refl, sym, ap, ◌∙◌, arith}
use Rattle.std.specs.Prelude.{Option, Some, None, reverse}
use Rattle.std.specs.Option.{option_map, option_or}
use Rattle.std.specs.Str.{str_to_ascii_lowercase}
use Rattle.std.proofs.lemmas.List.{map_more, reverse-append, take_all}
use Rattle.cvc_base.specs.declared.param.Pair.{Pair}
use Rattle.cvc_card.specs.Words.{is_number}
use Rattle.cvc_cdl.specs.declared.netlist.Cell.{Cell}
use Rattle.cvc_cdl.specs.declared.netlist.Netlist.{Netlist}
use Rattle.cvc_cdl.specs.Instances.{cell_at}
use Rattle.cvc_params.specs.declared.level.Level.{Level}
use Rattle.cvc_params.specs.Levels.{AreLevels, card_of, instance_of}
use Rattle.cvc_params.specs.PairIndexes.{last_low, value_of_pair}
use Rattle.cvc_params.specs.Params.{Scope, Inside, Main, Use, given_in, next, pairs_above, seen_from}
use Rattle.cvc_params.specs.Seen.{way_to}
use Rattle.cvc_params.proofs.Givens.{card_lower, given_lower}

-- ## Ways

pub way_more : (levels : List Level) (k : ℕ) (e : Level) → k < length levels → way_to levels (k + 1) ≡ (get_or levels k e).card.now ∷ way_to levels k
way_more levels k e h = ap reverse (map_more card_of levels k e h) ∙ reverse-append (map card_of (take k levels)) (card_of (get_or levels k e) ∷ [])

pub way_all : (levels : List Level) (k : ℕ) → k ≡ length levels → way_to levels k ≡ instance_of levels
way_all levels k h = ap instance_of (take_all k levels (omega arith))

-- the cell of the instance at the end
pub cell_below : (n : Netlist) (levels : List Level) (k : ℕ) (e : Level) → AreLevels n levels → k < length levels
    → cell_at n (way_to levels (k + 1)) ≡ (get_or levels k e).cell.now
cell_below n levels k e are h = ap (cell_at n) (way_more levels k e h) ∙ sym (are k e h)

pub pairs_more : (n : Netlist) (levels : List Level) (k : ℕ) (e : Level) → AreLevels n levels → k < length levels
    → pairs_above n (way_to levels (k + 1)) ≡ length (get_or levels k e).card.now.pairs + length (get_or levels k e).cell.now.pairs + pairs_above n (way_to levels k)
pairs_more n levels k e are h =
    ap (pairs_above n) (way_more levels k e h)
    ∙ ap (λ (c : Cell). length (get_or levels k e).card.now.pairs + length c.pairs + pairs_above n (way_to levels k)) (sym (are k e h))

-- ## Names in lower case

abbrev pub use_at_end : Scope → List ℕ → Use
use_at_end s t = record { text = t; scope = s }

map_twice : (s : Scope) (o : Option Pair) → option_map (use_at_end s) (option_map value_of_pair o) ≡ option_map (λ (p : Pair). use_at_end s p.value) o
map_twice s None = refl
map_twice s (Some p) = refl

pub given_is : (s : Scope) (pairs : List Pair) (low : List ℕ) (o : Option (List ℕ)) → str_to_ascii_lowercase low ≡ low → o ≡ option_map value_of_pair (last_low pairs low)
    → option_map (use_at_end s) o ≡ given_in s pairs low
given_is s pairs low o lower e =
    ap (option_map (use_at_end s)) e
    ∙ map_twice s (last_low pairs low)
    ∙ sym (ap (λ (l : List ℕ). option_map (λ (p : Pair). use_at_end s p.value) (last_low pairs l)) lower)

pub seen_lower : (n : Netlist) (s : Scope) (name : List ℕ) → seen_from n s (str_to_ascii_lowercase name) ≡ seen_from n s name
seen_lower n Main name = given_lower Main n.params name
seen_lower n (Inside p) name =
    let a = card_lower p name in
    let b = given_lower (Inside p) (cell_at n p).pairs name in
    let c = given_lower Main n.params name in
    λ i. option_or (a i) (option_or (b i) (c i))

pub next_number : (n : Netlist) (u : Use) → is_number u.text ≡ true → next n u ≡ None
next_number n u e = ap (λ (b : Bool). cond b None (seen_from n u.scope u.text)) e

pub next_name : (n : Netlist) (u : Use) (low : List ℕ) → is_number u.text ≡ false → low ≡ str_to_ascii_lowercase u.text → next n u ≡ seen_from n u.scope low
next_name n u low e lower =
    ap (λ (b : Bool). cond b None (seen_from n u.scope u.text)) e ∙ sym (seen_lower n u.scope u.text) ∙ ap (seen_from n u.scope) (sym lower)
