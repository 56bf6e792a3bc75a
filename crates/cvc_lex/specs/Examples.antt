use Rattle.std.specs.Prelude.{◌≡◌, ℕ, List, [], ◌∷◌, ◌++◌, map, Some, None, codes, refl, replicate}
use Rattle.cvc_base.specs.declared.cause.Cause.TheVariants.{BadByte, LongToken, StrayPlus}
use Rattle.cvc_base.specs.declared.fault.FileKind.TheVariants.{Netlist, Models}
use Rattle.cvc_base.specs.declared.line.Line.{Line}
use Rattle.cvc_lex.specs.Physical.{ended, open_rest, physical, text_of, cut, shape_of, tokens_from, read}
use Rattle.cvc_base.specs.Faults.{fault_on}
use Rattle.cvc_lex.specs.Lines.{groups, logical, fault_with, fault_after, first_fault, faultless, lexical, lines, closed_at_end, closed_so_far}

texts : Line → List (List ℕ)
texts l = map (λ t. t.text) l.tokens

abbrev columns : Line → List ℕ
columns l = map (λ t. t.column) l.tokens

stray : lexical Netlist (codes "+ a") ≡ Some (fault_on Netlist 1 StrayPlus)
unfolding lexical first_fault fault_after fault_with logical groups physical ended open_rest text_of cut shape_of tokens_from read
stray = refl

row16 : List ℕ
row16 = (codes "M1 out en" ++ 10 ∷ []) ++ (codes "* note" ++ 10 ∷ []) ++ (10 ∷ []) ++ codes "+ src vss nhv $ tail"

cont : map (λ l. l.last) (lines Netlist row16) ≡ 4 ∷ []
unfolding lines logical groups physical ended open_rest text_of cut shape_of tokens_from read row16
cont = refl

cols : map columns (lines Netlist row16) ≡ (1 ∷ 4 ∷ 8 ∷ 3 ∷ 7 ∷ 11 ∷ []) ∷ []
unfolding lines logical groups physical ended open_rest text_of cut shape_of tokens_from read row16
cols = refl

toks : map texts (lines Netlist (codes "w=$ x $ y")) ≡ (codes "w" ∷ codes "=" ∷ codes "$" ∷ codes "x" ∷ []) ∷ []
unfolding lines logical groups physical ended open_rest text_of cut shape_of tokens_from read texts
toks = refl

toks2 : map texts (lines Models (codes "a=b c#d e")) ≡ (codes "a=b" ∷ codes "c" ∷ []) ∷ []
unfolding lines logical groups physical ended open_rest text_of cut shape_of tokens_from read texts
toks2 = refl

badcr : lexical Netlist (codes "R1 a" ++ 13 ∷ 13 ∷ 10 ∷ []) ≡ Some (fault_on Netlist 1 BadByte)
unfolding lexical first_fault fault_after fault_with logical groups physical ended open_rest text_of cut shape_of tokens_from read
badcr = refl

goodcr : lexical Netlist (codes "R1 a" ++ 13 ∷ []) ≡ None
unfolding lexical first_fault fault_after fault_with logical groups physical ended open_rest text_of cut shape_of tokens_from read
goodcr = refl

longtok : lexical Netlist (replicate 1025 65) ≡ Some (fault_on Netlist 1 LongToken)
unfolding lexical first_fault fault_after fault_with logical groups physical ended open_rest text_of cut shape_of tokens_from read
longtok = refl

oktok : lexical Netlist (replicate 1024 65) ≡ None
unfolding lexical first_fault fault_after fault_with logical groups physical ended open_rest text_of cut shape_of tokens_from read
oktok = refl

plusdollar : map texts (lines Netlist (codes "a" ++ 10 ∷ codes "+$ x")) ≡ (codes "a" ∷ codes "$" ∷ codes "x" ∷ []) ∷ []
unfolding lines logical groups physical ended open_rest text_of cut shape_of tokens_from read texts
plusdollar = refl

twoplus : map texts (lines Netlist (codes "a" ++ 10 ∷ codes " ++ w=3")) ≡ (codes "a" ∷ codes "+" ∷ codes "w" ∷ codes "=" ∷ codes "3" ∷ []) ∷ []
unfolding lines logical groups physical ended open_rest text_of cut shape_of tokens_from read texts
twoplus = refl

closes1 : map texts (closed_so_far Netlist (codes "a" ++ 10 ∷ codes "*.x" ++ 10 ∷ codes "b")) ≡ (codes "a" ∷ []) ∷ []
unfolding closed_so_far faultless first_fault fault_after fault_with logical groups physical ended open_rest text_of cut shape_of tokens_from read texts
closes1 = refl

closes2 : map texts (closed_at_end Netlist (codes "a" ++ 10 ∷ codes "*.x" ++ 10 ∷ codes "b" ++ 10 ∷ codes "*" ++ 1 ∷ [])) ≡ (codes "a" ∷ []) ∷ (codes "*.x" ∷ []) ∷ []
unfolding closed_at_end lexical lines faultless first_fault fault_after fault_with logical groups physical ended open_rest text_of cut shape_of tokens_from read texts
closes2 = refl
