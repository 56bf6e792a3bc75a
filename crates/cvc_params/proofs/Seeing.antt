-- The lists that a level's numbers stand for.
use Rattle.std.proofs.Common.{◌≡◌, ℕ, ◌-◌, ◌≤◌, List, length, get_or, sym, subst, arith}
use Rattle.cvc_base.specs.declared.param.Pair.{Pair}
use Rattle.cvc_params.specs.declared.level.Level.{Level}
use Rattle.cvc_params.specs.declared.pair_index.PairIndex.{PairIndex}
use Rattle.cvc_params.specs.declared.pair_index.PairIndexes.{PairIndexes}
use Rattle.cvc_params.specs.declared.params.Lists.{Lists}
use Rattle.cvc_params.specs.declared.params.Sight.{Sight}
use Rattle.cvc_params.specs.PairIndexes.{IsIndexOf, IsListed}
use Rattle.cvc_params.specs.Seen.{HasLists}

pub card_listed : (s : Sight) (depth : ℕ) (l : Level) (i : Lists) → HasLists s → (depth ≡ 0 → ⊥) → depth ≤ length s.levels.items
    → l ≡ get_or s.levels.items (depth - 1) l → i ≡ get_or s.lists.items (depth - 1) i → IsListed s.indexes i.card l.card.now.pairs
card_listed s depth l i is some inside at list =
    subst (λ (e : Level). IsListed s.indexes i.card e.card.now.pairs) (sym at)
    (subst (λ (d : Lists). IsListed s.indexes d.card (get_or s.levels.items (depth - 1) l).card.now.pairs) (sym list) (is.cards (depth - 1) i l (omega arith)))

pub cell_listed : (s : Sight) (depth : ℕ) (l : Level) (i : Lists) → HasLists s → (depth ≡ 0 → ⊥) → depth ≤ length s.levels.items
    → l ≡ get_or s.levels.items (depth - 1) l → i ≡ get_or s.lists.items (depth - 1) i → IsListed s.indexes i.cell l.cell.now.pairs
cell_listed s depth l i is some inside at list =
    subst (λ (e : Level). IsListed s.indexes i.cell e.cell.now.pairs) (sym at)
    (subst (λ (d : Lists). IsListed s.indexes d.cell (get_or s.levels.items (depth - 1) l).cell.now.pairs) (sym list) (is.cells (depth - 1) i l (omega arith)))

pub listed_index : (s : PairIndexes) (k : ℕ) (pairs items : List Pair) (index : PairIndex) → IsListed s k pairs → index ≡ get_or s.lists.items k index → items ≡ pairs
    → IsIndexOf index items
listed_index s k pairs items index h at same =
    subst (IsIndexOf index) (sym same) (subst (λ (i : PairIndex). IsIndexOf i pairs) (sym at) (h.is index))
