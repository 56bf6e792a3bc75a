-- Chains of cells by their names are chains by their places.
use Rattle.std.proofs.Common.{◌≡◌, ◌<◌, ℕ, zero, suc, Bool, false, ◌||◌, cond, List, [], ◌∷◌, length, map, get_or, Some, bytes_eq, refl, sym, ap, subst, ◌∙◌, arith}
use Rattle.std.specs.Prelude.{All, slice_get}
use Rattle.std.specs.List.{find, list_any}
use Rattle.std.specs.Cmp.Lexicographic.{nat_list_eq_equiv}
use Rattle.std.proofs.lemmas.List.{length-map}
use Rattle.std.proofs.lemmas.Slice.Eq.{bytes_eq-Decides}
use Rattle.std.proofs.lemmas.List.Elements.{All-head, All-tail}
use Rattle.cvc_card.specs.Card.{has_twice}
use Rattle.cvc_cdl.specs.declared.netlist.Cell.{Cell}
use Rattle.cvc_cdl.specs.Netlist.{name_of_cell}
use Rattle.cvc_cdl.specs.Ending.{cell_named, used, used_by, has_chain, is_endless}
use Rattle.cvc_cdl.specs.Chains.{used_at, chain_by, is_endless_by, name_at, AreUses}
use Rattle.cvc_cdl.proofs.Outside.{or_left, or_right}

fails_at : (p : List ℕ → Bool) (xs : List (List ℕ)) (i : ℕ) → i < length xs → list_any p xs ≡ false → p (get_or xs i []) ≡ false
fails_at p [] i lt none = absurd (omega arith)
fails_at p (x ∷ xs) zero lt none = or_left (p x) (list_any p xs) none
fails_at p (x ∷ xs) (suc i) lt none = fails_at p xs i (omega arith) (or_right (p x) (list_any p xs) none)

-- the cell of a name is the one at its place
named_at : (cells : List Cell) (i : ℕ) → has_twice (map name_of_cell cells) ≡ false → i < length cells → cell_named cells (name_at cells i) ≡ slice_get cells i
named_at [] i once lt = absurd (omega arith)
named_at (c ∷ cs) zero once lt = ap (λ b. cond b (Some c) (find (λ (d : Cell). bytes_eq c.name d.name) cs)) ((bytes_eq-Decides c.name c.name).1 refl)
named_at (c ∷ cs) (suc i) once lt =
    let name : List ℕ = name_at cs i in
    let others : list_any (bytes_eq c.name) (map name_of_cell cs) ≡ false = or_left (list_any (bytes_eq c.name) (map name_of_cell cs)) (has_twice (map name_of_cell cs)) once in
    let other : bytes_eq name c.name ≡ false = nat_list_eq_equiv.symm name c.name ∙ fails_at (bytes_eq c.name) (map name_of_cell cs) i (omega (arith, length-map cs name_of_cell)) others in
    ap (λ b. cond b (Some c) (find (λ (d : Cell). bytes_eq name d.name) cs)) other ∙ named_at cs i (or_right (list_any (bytes_eq c.name) (map name_of_cell cs)) (has_twice (map name_of_cell cs)) once) (omega arith)

any_agree : (n : ℕ) (p q : ℕ → Bool) → ((x : ℕ) → x < n → p x ≡ q x) → (xs : List ℕ) → All (λ x. x < n) xs → list_any p xs ≡ list_any q xs
any_agree n p q h [] below = refl
any_agree n p q h (x ∷ xs) below = ap (λ b. b || list_any p xs) (h x (All-head (λ (y : ℕ). y < n) x xs below)) ∙ ap (λ b. q x || b) (any_agree n p q h xs (All-tail (λ (y : ℕ). y < n) x xs below))

any_map : (p : List ℕ → Bool) (f : ℕ → List ℕ) (xs : List ℕ) → list_any p (map f xs) ≡ list_any (λ x. p (f x)) xs
any_map p f [] = refl
any_map p f (x ∷ xs) = ap (λ b. p (f x) || b) (any_map p f xs)

has_chain-at : (cells : List Cell) (uses : List (List ℕ)) → has_twice (map name_of_cell cells) ≡ false → AreUses cells uses → (n i : ℕ) → i < length cells → has_chain cells n (name_at cells i) ≡ chain_by uses n i
unfolding has_chain chain_by
has_chain-at cells uses once are zero i lt = refl
has_chain-at cells uses once are (suc n) i lt =
    let names : used cells (name_at cells i) ≡ map (name_at cells) (used_at uses i) = ap used_by (named_at cells i once lt) ∙ sym (are.named i) in
    let below : All (λ j. j < length cells) (used_at uses i) = subst (λ m. All (λ j. j < m) (used_at uses i)) are.sized (are.below i [] (omega (arith, are.sized))) in
    ap (list_any (has_chain cells n)) names ∙ (any_map (has_chain cells n) (name_at cells) (used_at uses i) ∙ any_agree (length cells) (λ j. has_chain cells n (name_at cells j)) (chain_by uses n) (has_chain-at cells uses once are n) (used_at uses i) below)

pub is_endless-at : (cells : List Cell) (uses : List (List ℕ)) → has_twice (map name_of_cell cells) ≡ false → AreUses cells uses → (i : ℕ) → i < length cells → is_endless cells (name_at cells i) ≡ is_endless_by uses i
unfolding is_endless
is_endless-at cells uses once are i lt = has_chain-at cells uses once are (length cells) i lt ∙ ap (λ n. chain_by uses n i) (sym are.sized)
