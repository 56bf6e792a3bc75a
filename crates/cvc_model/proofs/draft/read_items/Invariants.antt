use Rattle.std.proofs.Common.{◌≡◌, drop, map}
use Rattle.cvc_model.specs.Rows.{Content, no_content, with_texts}
use Rattle.cvc_rows.specs.Tokens.{text_of}
use Rattle.cvc_model.specs.Drafting.{IsDraft}
use Rattle.cvc_model.proofs.draft.read_items.Given as goal

-- the items that are left give the same from what the draft stands for
abbrev pub invariant-loop-item : goal.invariant-loop-item
invariant-loop-item l = record {
  content : Content;
  kept : IsDraft l.draft content;
  rest : with_texts l.kind no_content (map text_of l.items) ≡ with_texts l.kind content (map text_of (drop l.item-index l.items));
}
