use Rattle.std.proofs.Common.{◌≡◌, Bool, ◌-◌, cond, length, take, sym, ap, ◌∙◌}
use Rattle.std.specs.List.{list_any}
use Rattle.cvc_lex.specs.Bytes.{is_bad, is_netlist}
use Rattle.cvc_lex.proofs.Comments.{is_short}
use Rattle.cvc_lex.proofs.physical.short_comment.Goals.{then-is_netlist, else-is_netlist, then-has_bad_byte, else-has_bad_byte}
use Rattle.cvc_lex.proofs.physical.short_comment.Goals as goal

pub returns : goal.returns
returns c =
    let mark : c.if-is_netlist.mark ≡ cond (is_netlist c.args.file) 42 35 = elim c.if-is_netlist.branch [
      | then-is_netlist w ↦ w.mark-is ∙ ap (λ (b : Bool). cond b 42 35) (sym (sym c.is_netlist.ensures ∙ w.if-is_netlist.true))
      | else-is_netlist w ↦ w.mark-is ∙ ap (λ (b : Bool). cond b 42 35) (sym (sym c.is_netlist.ensures ∙ w.if-is_netlist.false))
    ] in
    let witness : c.if-has_bad_byte.witness ≡ cond (list_any is_bad (take (length c.args.line.now - 2) c.args.line.now)) 0 32 = elim c.if-has_bad_byte.branch [
      | then-has_bad_byte w ↦ w.witness-is ∙ ap (λ (b : Bool). cond b 0 32) (sym (sym c.has_bad_byte.ensures ∙ w.if-has_bad_byte.true))
      | else-has_bad_byte w ↦ w.witness-is ∙ ap (λ (b : Bool). cond b 0 32) (sym (sym c.has_bad_byte.ensures ∙ w.if-has_bad_byte.false))
    ] in
    is_short c.args.file c.args.line.now c.if-is_netlist.mark c.if-has_bad_byte.witness c.in-len2-up.len_at_least c.if-front-lt3.false (sym c.begins_comment.ensures ∙ c.if-not-begins_comment.false) mark witness
