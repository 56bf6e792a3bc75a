use Rattle.cvc_law.proofs.ReachWords.{low_word_min, high_word_max, bound_in_word, reach_in_word}
use Rattle.cvc_law.proofs.WordOrder.{word_known, low_order, high_order, declared_word}
use Rattle.cvc_law.proofs.laws.words_are_in_the_order_of_bounds.Goals as goal

pub returns : goal.returns
returns c = record {
  bound = λ network side x range lt h. bound_in_word network range side x lt h;
  reach = λ network side x range lt h. reach_in_word network range side x lt h;
  few = word_known;
  least = λ network x y range h g. low_word_min network range x y h g;
  greatest = λ network x y range h g. high_word_max network range x y h g;
  falls = λ network x y range h g. low_order network range x y h g;
  rises = λ network x y range h g. high_order network range x y h g;
  declared = declared_word;
}
