-- The netlist grows by one line a stage.
use Rattle.std.proofs.Common.{◌≡◌, ℕ, zero, suc, ◌+◌, List, [], ◌∷◌, ◌++◌, map, refl, sym, ap, ◌∙◌, append_assoc, add-one, arith}
use Rattle.std.specs.List.{range_with_len}
use Rattle.std.proofs.lemmas.List.Concat.{flat_map-append}
use Rattle.cvc_gen.specs.Stages.{line, text_of, cell_lines, stage_line, netlist_text}

range-push : (a n : ℕ) → range_with_len a (suc n) ≡ range_with_len a n ++ (a + n) ∷ []
range-push a zero = ap (λ k. k ∷ []) (omega arith)
range-push a (suc n) = ap (λ ks. a ∷ ks) (range-push (a + 1) n ∙ ap (λ k. range_with_len (a + 1) n ++ k ∷ []) (omega arith))

map-push : (f : ℕ → List ℕ) (ks : List ℕ) (k : ℕ) → map f (ks ++ k ∷ []) ≡ map f ks ++ f k ∷ []
map-push f [] k = refl
map-push f (x ∷ ks) k = ap (λ ls. f x ∷ ls) (map-push f ks k)

nil_right : (xs : List ℕ) → xs ++ [] ≡ xs
nil_right [] = refl
nil_right (x ∷ xs) = ap (λ t. x ∷ t) (nil_right xs)

text_push : (lines more : List (List ℕ)) (x : List ℕ) → text_of (lines ++ (more ++ x ∷ [])) ≡ text_of (lines ++ more) ++ line x
text_push lines more x =
    ap text_of (sym (append_assoc lines more (x ∷ []))) ∙ flat_map-append line (lines ++ more) (x ∷ []) ∙ ap (λ t. text_of (lines ++ more) ++ t) (nil_right (line x))

stages_push : (f : ℕ → List ℕ) (n : ℕ) → map f (range_with_len 0 (n + 1)) ≡ map f (range_with_len 0 n) ++ f n ∷ []
stages_push f n = rw add-one (ap (map f) (range-push 0 n) ∙ map-push f (range_with_len 0 n) (0 + n) ∙ ap (λ k. map f (range_with_len 0 n) ++ f k ∷ []) (omega arith))

chain_push : (lines : List (List ℕ)) (f : ℕ → List ℕ) (n : ℕ) → text_of (lines ++ map f (range_with_len 0 (n + 1))) ≡ text_of (lines ++ map f (range_with_len 0 n)) ++ line (f n)
chain_push lines f n = ap (λ ls. text_of (lines ++ ls)) (stages_push f n) ∙ text_push lines (map f (range_with_len 0 n)) (f n)

-- one stage more
pub netlist_push : (seed n : ℕ) → netlist_text seed (n + 1) ≡ netlist_text seed n ++ line (stage_line seed n)
netlist_push seed n = chain_push cell_lines (stage_line seed) n
