-- Look-ups of cells and ports by their names.
use Rattle.std.proofs.Common.{◌≡◌, ℕ, zero, suc, ◌+◌, ◌<◌, ◌≤◌, ◌||◌, ◌&&◌, not, Bool, true, false, cond, List, [], ◌∷◌, ◌++◌, length, take, get_or, Option, Some, None, is_some, if◌then◌else◌, refl, sym, ap, subst, ◌∙◌, arith}
use Rattle.std.specs.Prelude.{nat_lt, position}
use Rattle.std.specs.Bool.{OnTrue, OnFalse}
use Rattle.std.specs.Option.{option_map, IfSome}
use Rattle.std.specs.List.{AllZip, list_all, position_or_len}
use Rattle.std.specs.Str.{bytes_eq}
use Rattle.std.specs.Cmp.Lexicographic.{bytes_decides}
use Rattle.std.proofs.Math.Seq.{take-length}
use Rattle.std.proofs.lemmas.Bool.Decides.{nat_tests}
use Rattle.std.proofs.lemmas.List.{take_more}
use Rattle.std.proofs.lemmas.List.Folds.{list_all_at, list_all_more, list_any-append}
use Rattle.cvc_base.specs.declared.param.Pair.{Pair}
use Rattle.cvc_names.proofs.Repeats.{was_taken}
use Rattle.cvc_cdl.specs.declared.netlist.Cell.{Cell}
use Rattle.cvc_cdl.specs.Building.{is_among}
use Rattle.cvc_cdl.specs.Ending.{connects_ports}
use Rattle.cvc_cdl.specs.Lookup.{FindsEachPort, FindsPorts, place_of}

-- ## Places

-- the place in a table of names
pub place_is : (ns : List (List ℕ)) (name : List ℕ) → position (bytes_eq name) ns ≡ place_of ns name
unfolding place_of
place_is [] name = refl
place_is (n ∷ ns) name = by (bytes_eq name n) ∙ ap (λ o. if bytes_eq name n then Some 0 else option_map suc o) (place_is ns name)
  where
    step : (a b : ℕ) (t : Bool) → nat_lt a b ≡ t → cond (nat_lt (1 + a) (suc b)) (Some (1 + a)) None ≡ option_map suc (cond t (Some a) None)
    step a b true e = let h : nat_lt (1 + a) (suc b) ≡ true = grind (arith, nat_tests) in ap (λ v. cond v (Some (1 + a)) None) h ∙ ap (λ n. Some n) (omega arith)
    step a b false e = let h : nat_lt (1 + a) (suc b) ≡ false = grind (arith, nat_tests) in ap (λ v. cond v (Some (1 + a)) None) h

    by : (t : Bool) → cond (nat_lt (cond (not t) (1 + position_or_len (bytes_eq name) ns) 0) (suc (length ns))) (Some (cond (not t) (1 + position_or_len (bytes_eq name) ns) 0)) None
        ≡ (if t then Some 0 else option_map suc (position (bytes_eq name) ns))
    by true = let h : nat_lt 0 (suc (length ns)) ≡ true = grind (arith, nat_tests) in ap (λ v. cond v (Some 0) None) h
    by false = step (position_or_len (bytes_eq name) ns) (length ns) (nat_lt (position_or_len (bytes_eq name) ns) (length ns)) refl

pub place_of-below : (ns : List (List ℕ)) (name : List ℕ) → IfSome (place_of ns name) (λ i. i < length ns)
unfolding place_of
place_of-below [] name = tt
place_of-below (n ∷ ns) name = by (bytes_eq name n) (place_of ns name) (place_of-below ns name)
  where
    by : (b : Bool) (o : Option ℕ) → IfSome o (λ i. i < length ns) → IfSome (if b then Some 0 else option_map suc o) (λ i. i < suc (length ns))
    by true o h = let z : 0 < suc (length ns) = omega arith in z
    by false None h = tt
    by false (Some i) h = let z : suc i < suc (length ns) = omega arith in z

-- a name that stands has a place
pub no_place : (ns : List (List ℕ)) (name : List ℕ) → is_some (place_of ns name) ≡ is_among ns name
unfolding place_of
no_place [] name = refl
no_place (n ∷ ns) name = by (bytes_eq name n) (place_of ns name) (no_place ns name)
  where
    by : (b : Bool) (o : Option ℕ) → is_some o ≡ is_among ns name → is_some (if b then Some 0 else option_map suc o) ≡ (b || is_among ns name)
    by true o h = refl
    by false None h = h
    by false (Some i) h = h

-- ## Ports

pub port_added : (ports names next : List (List ℕ)) (name : List ℕ) (free : Bool) → FindsPorts ports names → free ≡ not (is_among names name) → OnTrue free (next ≡ names ++ name ∷ []) → OnFalse free (next ≡ names)
    → FindsPorts (ports ++ name ∷ []) next
port_added ports names next name true finds is added same = record {
  at = λ q.
      ap (λ ns. is_among ns q) added
      ∙ list_any-append (bytes_eq q) names (name ∷ [])
      ∙ ap (λ b. b || (bytes_eq q name || false)) (finds.at q)
      ∙ sym (list_any-append (bytes_eq q) ports (name ∷ []));
}
port_added ports names next name false finds is added same = record {
  at = λ q.
      ap (λ ns. is_among ns q) same
      ∙ finds.at q
      ∙ by (is_among ports q) (bytes_eq q name) (λ e. sym (finds.at q) ∙ ap (is_among names) ((bytes_decides q name).0 e) ∙ was_taken false (is_among names name) is refl)
      ∙ sym (list_any-append (bytes_eq q) ports (name ∷ []));
}
  where
    by : (a b : Bool) → (b ≡ true → a ≡ true) → a ≡ (a || (b || false))
    by true b h = refl
    by false true h = h refl
    by false false h = refl

pub ports_none : (names : List (List ℕ)) → names ≡ [] → FindsPorts [] names
ports_none names e = record { at = λ q. ap (λ ns. is_among ns q) e }

pub ports_more : (ports : List (List ℕ)) (i : ℕ) (names next : List (List ℕ)) (port name : List ℕ) (free : Bool) → i < length ports → port ≡ get_or ports i port → name ≡ port → FindsPorts (take i ports) names
    → free ≡ not (is_among names name) → OnTrue free (next ≡ names ++ name ∷ []) → OnFalse free (next ≡ names) → FindsPorts (take (i + 1) ports) next
ports_more ports i names next port name free lt at same finds is added kept =
    subst (λ ps. FindsPorts ps next) (ap (λ p. take i ports ++ p ∷ []) (same ∙ at) ∙ sym (take_more ports i port lt)) (port_added (take i ports) names next name free finds is added kept)

pub ports_whole : (ports : List (List ℕ)) (i : ℕ) (names : List (List ℕ)) → i ≤ length ports → length ports ≤ i → FindsPorts (take i ports) names → FindsPorts ports names
ports_whole ports i names le ge finds = let e : i ≡ length ports = omega arith in subst (λ ps. FindsPorts ps names) (ap (λ n. take n ports) e ∙ take-length ports) finds

-- ## Connections

module _ (ports : List (List ℕ)) (pairs : List Pair) (i : ℕ) where
  abbrev names_port : Pair → Bool
  names_port p = is_among ports p.name

  module _ (names : List (List ℕ)) (finds : FindsPorts ports names) (lt : i < length pairs) (p : Pair) (at : p ≡ get_or pairs i p) (name : List ℕ) (same : name ≡ p.name) (there : Bool) (is : there ≡ is_among names name) where
    tested : names_port (get_or pairs i p) ≡ there
    tested = ap names_port (sym at) ∙ ap (is_among ports) (sym same) ∙ sym (finds.at name) ∙ sym is

    pub connection_more : list_all names_port (take i pairs) ≡ true → there ≡ true → list_all names_port (take (i + 1) pairs) ≡ true
    connection_more so yes' = list_all_more names_port pairs i p lt ∙ (λ j. so j && (tested ∙ yes') j)

    pub connection_wrong : there ≡ false → false ≡ connects_ports ports pairs
    connection_wrong no' = sym (list_all_at names_port pairs i p lt (tested ∙ no'))

  pub connections_all : i ≤ length pairs → length pairs ≤ i → list_all names_port (take i pairs) ≡ true → true ≡ connects_ports ports pairs
  connections_all le ge so = let e : i ≡ length pairs = omega arith in sym (ap (list_all names_port) (sym (take-length pairs) ∙ ap (λ n. take n pairs) (sym e)) ∙ so)

-- ## The ports of each cell

abbrev pub AreTheirPorts : List Cell → List (List (List ℕ)) → Type 0
AreTheirPorts cells names = AllZip (λ (c : Cell) (n : List (List ℕ)). FindsPorts c.ports n) cells names

sized : (cells : List Cell) (names : List (List (List ℕ))) → AreTheirPorts cells names → length names ≡ length cells
sized [] [] h = refl
sized [] (n ∷ ns) h = absurd h
sized (c ∷ cs) [] h = absurd h
sized (c ∷ cs) (n ∷ ns) h = ap suc (sized cs ns h.1)

theirs_at : (cells : List Cell) (names : List (List (List ℕ))) → AreTheirPorts cells names → (k : ℕ) (c : Cell) (n : List (List ℕ)) → k < length cells → FindsPorts (get_or cells k c).ports (get_or names k n)
theirs_at [] names h k c n lt = absurd (omega arith)
theirs_at (d ∷ cs) [] h k c n lt = absurd h
theirs_at (d ∷ cs) (m ∷ ns) h zero c n lt = h.0
theirs_at (d ∷ cs) (m ∷ ns) h (suc k) c n lt = theirs_at cs ns h.1 k c n (omega arith)

theirs_push : (cells : List Cell) (names : List (List (List ℕ))) (c : Cell) (n : List (List ℕ)) → AreTheirPorts cells names → FindsPorts c.ports n → AreTheirPorts (cells ++ c ∷ []) (names ++ n ∷ [])
theirs_push [] [] c n h f = (f, tt)
theirs_push [] (m ∷ ns) c n h f = absurd h
theirs_push (d ∷ cs) [] c n h f = absurd h
theirs_push (d ∷ cs) (m ∷ ns) c n h f = (h.0, theirs_push cs ns c n h.1 f)

pub each_port : (cells : List Cell) (i : ℕ) (names : List (List (List ℕ))) → i ≤ length cells → length cells ≤ i → AreTheirPorts (take i cells) names → FindsEachPort cells names
each_port cells i names le ge h =
    let e : i ≡ length cells = omega arith in
    let all : AreTheirPorts cells names = subst (λ cs. AreTheirPorts cs names) (ap (λ n. take n cells) e ∙ take-length cells) h in
    record { sized = sized cells names all; at = λ k c n lt. theirs_at cells names all k c n lt }

pub ports_push : (cells : List Cell) (i : ℕ) (names : List (List (List ℕ))) (c : Cell) (ports : List (List ℕ)) (n : List (List ℕ)) → i < length cells → c ≡ get_or cells i c → ports ≡ c.ports → FindsPorts ports n
    → AreTheirPorts (take i cells) names → AreTheirPorts (take (i + 1) cells) (names ++ n ∷ [])
ports_push cells i names c ports n lt at same finds h =
    subst (λ cs. AreTheirPorts cs (names ++ n ∷ [])) (ap (λ d. take i cells ++ d ∷ []) at ∙ sym (take_more cells i c lt))
    (theirs_push (take i cells) names c n h (subst (λ ps. FindsPorts ps n) same finds))
