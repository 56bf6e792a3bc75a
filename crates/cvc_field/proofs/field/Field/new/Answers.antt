use Rattle.std.proofs.Common.{◌≤◌, [], List, ℕ, length, sym, ap, ◌∙◌, subst}
use Rattle.atomic_table.specs.Table.{opening}
use Rattle.cvc_law.specs.Network.{Network}
use Rattle.cvc_field.specs.Views.{first_view}
use Rattle.cvc_field.specs.Field.{IsSoundField}
use Rattle.cvc_field.proofs.Opens.{opens, length-start_words}
use Rattle.cvc_field.proofs.field.Field.new.Goals as goal

pub of_words-requires : goal.of_words-requires
of_words-requires c = let circuit = c.args.circuit.now in let e = c.as_slice.ensures.value ∙ c.in_ok-words.ensures.items in
    subst (λ (z : Network × List ℕ). IsSoundField z.0 c.args.hands (opening z.1 [] (first_view z.0 c.args.hands))) (λ k. (sym c.of.ensures k, sym e k)) (opens circuit c.args.hands c.in_ok-words.ensures.circuit c.floor-floor.ensures.in_million c.requires.some c.requires.few)

pub invariant_of-field : goal.invariant_of-field
invariant_of-field c = let e = c.as_slice.ensures.value ∙ c.in_ok-words.ensures.items in let t = c.in_ok-table.ensures in let key = t.5 in record {
  about = ap (λ k. k.circuit.value) key ∙ c.of.ensures;
  sized = t.0 ∙ (ap length e ∙ length-start_words c.args.circuit.now);
  no_slots = t.1;
  few_hands = subst (λ (n : ℕ). n ≤ 64) (sym (ap (λ k. k.hands) key)) c.requires.few;
}
