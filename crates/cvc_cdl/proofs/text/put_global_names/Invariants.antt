use Rattle.std.proofs.Common.{◌≡◌, ◌++◌, take}
use Rattle.std.specs.List.{flat_map}
use Rattle.cvc_cdl.specs.Text.{global_word}
use Rattle.cvc_cdl.proofs.text.put_global_names.Given as goal

abbrev pub invariant-loop-global : goal.invariant-loop-global
invariant-loop-global l = l.out.items ≡ l.initial.out.items ++ flat_map global_word (take l.global-index l.globals)
