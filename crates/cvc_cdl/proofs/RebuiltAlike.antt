-- Numbers of lines change neither the causes at instances, nor which cells are endless, nor the top.
use Rattle.std.proofs.Common.{◌≡◌, ℕ, zero, suc, List, [], ◌∷◌, length, map, filter_map, true, Option, Some, None, option_map, bytes_eq, refl, sym, ap, ◌∙◌, inl, inr}
use Rattle.std.specs.List.{list_any}
use Rattle.std.proofs.lemmas.Bool.{cases_Bool}
use Rattle.std.proofs.lemmas.List.{length-map}
use Rattle.cvc_card.specs.declared.card.InstCard.{InstCard}
use Rattle.cvc_card.specs.Parts.{last_of}
use Rattle.cvc_cdl.specs.declared.netlist.Cell.{Cell}
use Rattle.cvc_cdl.specs.declared.netlist.Item.{Item}
use Rattle.cvc_cdl.specs.declared.netlist.Item.TheVariants.{Device, Inst}
use Rattle.cvc_cdl.specs.Netlist.{name_of_cell, top_of}
use Rattle.cvc_cdl.specs.Ending.{cell_named, cell_cause, instance_cause, used_in, used_by, used, has_chain, is_endless}
use Rattle.cvc_cdl.specs.Alike.{item_without_line, cell_without_lines}
use Rattle.cvc_cdl.proofs.RebuiltTwice.{any_same}

abbrev pub without : List Cell → List Cell
without cells = map cell_without_lines cells

-- ## Instances

named_alike : (cells : List Cell) (name : List ℕ) → cell_named (without cells) name ≡ option_map cell_without_lines (cell_named cells name)
named_alike [] name = refl
named_alike (c ∷ cs) name = elim (cases_Bool (bytes_eq name c.name)) [
  | inl here ↦ rw here refl
  | inr later ↦ rw later (named_alike cs name)
]

cause_alike : (cells : List Cell) (x : InstCard) → instance_cause (without cells) x ≡ instance_cause cells x
cause_alike cells x = ap (λ (o : Option Cell). cell_cause o x.ports) (named_alike cells x.cell) ∙ go (cell_named cells x.cell)
  where
    go : (o : Option Cell) → cell_cause (option_map cell_without_lines o) x.ports ≡ cell_cause o x.ports
    go None = refl
    go (Some c) = refl

pub same_cause : (m n : List Cell) → without m ≡ without n → (x : InstCard) → instance_cause m x ≡ instance_cause n x
same_cause m n h x = sym (cause_alike m x) ∙ ap (λ (cells : List Cell). instance_cause cells x) h ∙ cause_alike n x

-- ## Endless cells

used_in_alike : (items : List Item) → filter_map used_in (map item_without_line items) ≡ filter_map used_in items
used_in_alike [] = refl
used_in_alike (Device d ∷ items) = used_in_alike items
used_in_alike (Inst x ∷ items) = ap (λ (names : List (List ℕ)). x.cell ∷ names) (used_in_alike items)

used_alike : (cells : List Cell) (name : List ℕ) → used (without cells) name ≡ used cells name
used_alike cells name = ap used_by (named_alike cells name) ∙ go (cell_named cells name)
  where
    go : (o : Option Cell) → used_by (option_map cell_without_lines o) ≡ used_by o
    go None = refl
    go (Some c) = used_in_alike c.items

chain-zero : (cells : List Cell) (name : List ℕ) → has_chain cells zero name ≡ true
unfolding has_chain
chain-zero cells name = refl

chain-suc : (cells : List Cell) (k : ℕ) (name : List ℕ) → has_chain cells (suc k) name ≡ list_any (has_chain cells k) (used cells name)
unfolding has_chain
chain-suc cells k name = refl

chain_alike : (cells : List Cell) (k : ℕ) (name : List ℕ) → has_chain (without cells) k name ≡ has_chain cells k name
chain_alike cells zero name = chain-zero (without cells) name ∙ sym (chain-zero cells name)
chain_alike cells (suc k) name =
    chain-suc (without cells) k name
    ∙ ap (list_any (has_chain (without cells) k)) (used_alike cells name)
    ∙ any_same (has_chain (without cells) k) (has_chain cells k) (chain_alike cells k) (used cells name)
    ∙ sym (chain-suc cells k name)

endless_alike : (cells : List Cell) (name : List ℕ) → is_endless (without cells) name ≡ is_endless cells name
unfolding is_endless
endless_alike cells name = ap (λ (k : ℕ). has_chain (without cells) k name) (length-map cells cell_without_lines) ∙ chain_alike cells (length cells) name

pub same_endless : (m n : List Cell) → without m ≡ without n → (name : List ℕ) → is_endless m name ≡ is_endless n name
same_endless m n h name = sym (endless_alike m name) ∙ ap (λ (cells : List Cell). is_endless cells name) h ∙ endless_alike n name

-- ## Names and the top

pub names_alike : (cells : List Cell) → map name_of_cell (without cells) ≡ map name_of_cell cells
names_alike [] = refl
names_alike (c ∷ cs) = ap (λ (names : List (List ℕ)). c.name ∷ names) (names_alike cs)

last_alike : (cells : List Cell) → option_map name_of_cell (last_of (without cells)) ≡ option_map name_of_cell (last_of cells)
last_alike [] = refl
last_alike (c ∷ []) = refl
last_alike (c ∷ d ∷ cs) = last_alike (d ∷ cs)

top_alike : (top : Option (List ℕ)) (items : List Item) (cells : List Cell) → top_of top (map item_without_line items) (without cells) ≡ top_of top items cells
top_alike (Some name) items cells = refl
top_alike None [] cells = last_alike cells
top_alike None (item ∷ items) cells = refl

pub same_top : (top : Option (List ℕ)) (xs ys : List Item) (m n : List Cell) → map item_without_line xs ≡ map item_without_line ys → without m ≡ without n → top_of top xs m ≡ top_of top ys n
same_top top xs ys m n h k =
    sym (top_alike top xs m)
    ∙ ap (λ (items : List Item). top_of top items (without m)) h
    ∙ ap (λ (cells : List Cell). top_of top (map item_without_line ys) cells) k
    ∙ top_alike top ys n
