-- A table of names that grows keeps the numbers of the names that it has.
use Rattle.std.proofs.Common.{◌≡◌, ℕ, ◌<◌, ◌≤◌, Bool, true, false, List, [], ◌∷◌, ◌++◌, length, map, get_or, refl, sym, ap, subst, ◌∙◌, append_assoc, length-append, arith}
use Rattle.std.specs.Prelude.{All, if◌then◌else◌}
use Rattle.std.proofs.lemmas.List.{append-nil, get_or_append_left, map-append}
use Rattle.std.proofs.lemmas.List.Elements.{All-append}
use Rattle.cvc_base.specs.declared.param.Pair.{Pair}
use Rattle.cvc_cdl.specs.Building.{is_among}
use Rattle.cvc_plan.specs.declared.rows.Connection.{Connection}
use Rattle.cvc_names.specs.Names.{with_name}
use Rattle.cvc_plan.specs.Names.{Grows}
use Rattle.cvc_plan.specs.Parts.{AreConnections, pair_of, text}
use Rattle.cvc_plan.proofs.Lists.{all_head, all_one, all_tail}

pub grows_none : (names : List (List ℕ)) → Grows names names
grows_none names = record { more = []; is = sym (append-nil names) }

pub grows_name : (names more : List (List ℕ)) (name : List ℕ) → more ≡ with_name names name → Grows names more
grows_name names more name e = by (is_among names name) e
  where
    by : (b : Bool) → more ≡ (if b then names else names ++ name ∷ []) → Grows names more
    by true is = record { more = []; is = is ∙ sym (append-nil names) }
    by false is = record { more = name ∷ []; is = is }

pub grows_twice : (a b c : List (List ℕ)) → Grows a b → Grows b c → Grows a c
grows_twice a b c g h = record { more = g.more ++ h.more; is = h.is ∙ ap (λ (l : List (List ℕ)). l ++ h.more) g.is ∙ append_assoc a g.more h.more }

pub grows_length : (a b : List (List ℕ)) → Grows a b → length a ≤ length b
grows_length a b g = omega (arith, ap length g.is, length-append a g.more)

pub grows_text : (a b : List (List ℕ)) (k : ℕ) → Grows a b → k < length a → text b k ≡ text a k
grows_text a b k g h = ap (λ (l : List (List ℕ)). get_or l k []) g.is ∙ get_or_append_left a g.more [] k h

pub grows_pair : (a b : List (List ℕ)) (c : Connection) → Grows a b → (c.port < length a) × (c.net < length a) → pair_of b c ≡ pair_of a c
grows_pair a b c g h = let p = grows_text a b c.port g h.0 in let v = grows_text a b c.net g h.1 in λ i. record { name = p i; value = v i }

pub map_alike : {A B : Type 0} (f g : A → B) (xs : List A) → All (λ x. f x ≡ g x) xs → map f xs ≡ map g xs
map_alike f g [] h = refl
map_alike f g (x ∷ xs) h = λ i. all_head (λ y. f y ≡ g y) x xs h i ∷ map_alike f g xs (all_tail (λ y. f y ≡ g y) x xs h) i

pub grows_pairs : (a b : List (List ℕ)) (cs : List Connection) → Grows a b → AreConnections a cs → map (pair_of b) cs ≡ map (pair_of a) cs
grows_pairs a b cs g h = map_alike (pair_of b) (pair_of a) cs (λ k d i. grows_pair a b (get_or cs k d) g (h k d i))

pub grows_connections : (a b : List (List ℕ)) (cs : List Connection) → Grows a b → AreConnections a cs → AreConnections b cs
grows_connections a b cs g h = λ k d i. let w = h k d i in let more = grows_length a b g in (omega (arith, w.0, more), omega (arith, w.1, more))

-- one more connection
pub connection_more : (a b : List (List ℕ)) (cs more : List Connection) (c : Connection) → Grows a b → AreConnections a cs → (c.port < length b) × (c.net < length b) → more ≡ cs ++ c ∷ [] → AreConnections b more
connection_more a b cs more c g h w e =
    subst (AreConnections b) (sym e) (All-append (λ (d : Connection). (d.port < length b) × (d.net < length b)) cs (c ∷ []) (grows_connections a b cs g h) (all_one (λ (d : Connection). (d.port < length b) × (d.net < length b)) c w))

pub pairs_more : (a b : List (List ℕ)) (cs more : List Connection) (c : Connection) (pairs : List Pair) → Grows a b → AreConnections a cs → more ≡ cs ++ c ∷ [] → map (pair_of a) cs ≡ pairs → map (pair_of b) more ≡ pairs ++ pair_of b c ∷ []
pairs_more a b cs more c pairs g h e is =
    ap (map (pair_of b)) e ∙ map-append (pair_of b) cs (c ∷ []) ∙ ap (λ (l : List Pair). l ++ pair_of b c ∷ []) (grows_pairs a b cs g h ∙ is)

pub grows_texts : (a b : List (List ℕ)) (ks : List ℕ) → Grows a b → All (λ k. k < length a) ks → map (text b) ks ≡ map (text a) ks
grows_texts a b ks g h = map_alike (text b) (text a) ks (λ k d i. grows_text a b (get_or ks k d) g (h k d i))

pub grows_numbers : (a b : List (List ℕ)) (ks : List ℕ) → Grows a b → All (λ k. k < length a) ks → All (λ k. k < length b) ks
grows_numbers a b ks g h = λ k d i. let w = h k d i in let more = grows_length a b g in omega (arith, w, more)
