use Rattle.std.proofs.Common.{◌≡◌, ◌++◌, take}
use Rattle.cvc_cdl.specs.Text.{items_text}
use Rattle.cvc_cdl.proofs.text.put_items.Given as goal

abbrev pub invariant-loop-item : goal.invariant-loop-item
invariant-loop-item l = l.out.items ≡ l.initial.out.items ++ items_text (take l.item-index l.items)
