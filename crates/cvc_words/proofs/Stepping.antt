-- One more word of the options.
use Rattle.std.proofs.Common.{◌≡◌, ℕ, ◌+◌, ◌<◌, ◌≤◌, List, length, get_or, drop, Result, Ok, Err, refl, sym, ap, ◌∙◌}
use Rattle.std.proofs.lemmas.List.{drop_more, drop_all}
use Rattle.cvc_words.specs.declared.fault.WordFault.{WordFault}
use Rattle.cvc_words.specs.declared.options.Takes.{Takes}
use Rattle.cvc_words.specs.Options.{Options, with_word, with_words}
use Rattle.cvc_base.specs.Order.{◌>>=◌}

step : (takes : Takes) (o : Options) (words : List (List ℕ)) (i : ℕ) (word : List ℕ) → i < length words → word ≡ get_or words i word
    → with_words takes o (drop i words) ≡ ◌>>=◌ (with_word takes o word) (λ next. with_words takes next (drop (i + 1) words))
unfolding with_words
step takes o words i word lt is =
    rw (drop_more words i word lt, ← is) refl

-- a word that is refused is the fault of all
pub refused : (takes : Takes) (o : Options) (words : List (List ℕ)) (i : ℕ) (word : List ℕ) (fault : WordFault) (all : Result Options WordFault) → i < length words → word ≡ get_or words i word
    → Err fault ≡ with_word takes o word → with_words takes o (drop i words) ≡ all → Err fault ≡ all
refused takes o words i word fault all lt is e so_far =
    let s = step takes o words i word lt is in
    ap (λ r. ◌>>=◌ r (λ next. with_words takes next (drop (i + 1) words))) e ∙ sym s ∙ so_far

-- after a word that is taken the later words go on
pub taken : (takes : Takes) (o more : Options) (words : List (List ℕ)) (i : ℕ) (word : List ℕ) (all : Result Options WordFault) → i < length words → word ≡ get_or words i word
    → Ok more ≡ with_word takes o word → with_words takes o (drop i words) ≡ all → with_words takes more (drop (i + 1) words) ≡ all
taken takes o more words i word all lt is e so_far =
    let s = step takes o words i word lt is in
    ap (λ r. ◌>>=◌ r (λ next. with_words takes next (drop (i + 1) words))) e ∙ sym s ∙ so_far

pub ended : (takes : Takes) (o : Options) (words : List (List ℕ)) (i : ℕ) (all : Result Options WordFault) → length words ≤ i → with_words takes o (drop i words) ≡ all → Ok o ≡ all
unfolding with_words
ended takes o words i all le so_far = rw (drop_all i words le) at so_far
