use Rattle.std.proofs.Common.{◌∙◌, ap, sym, find, option_map}
use Rattle.std.specs.Str.{str_eq_ignore_ascii_case}
use Rattle.cvc_model.specs.Drafting.{word_of_key}
use Rattle.cvc_model.proofs.Keys.{find-map}
use Rattle.cvc_model.proofs.key.key_of.Goals as goal

pub returns : goal.returns
returns c =
    ap (option_map word_of_key) c.key_among.ensures
    ∙ sym (find-map word_of_key (str_eq_ignore_ascii_case c.args.text.now) c.keys_of.result.now)
    ∙ ap (find (str_eq_ignore_ascii_case c.args.text.now)) c.keys_of.ensures
