use Rattle.std.proofs.Common.{◌≡◌, drop}
use Rattle.cvc_words.specs.Options.{with_words}
use Rattle.cvc_words.specs.Views.{IsLimited, options_view}
use Rattle.cvc_words.proofs.options.read_options.Given as goal

abbrev pub invariant-loop-word : goal.invariant-loop-word
invariant-loop-word l = record {
  so_far : with_words l.takes (options_view l.options) (drop l.word-index l.words) ≡ with_words l.takes (options_view l.initial.options) l.words;
  limited : IsLimited l.options;
}
