use Rattle.std.proofs.Common.{◌∙◌, Ok, ap, sym, rules}
use Rattle.cvc_modes.specs.Modes.{row_with}
use Rattle.cvc_modes.proofs.Lines.{too_few, too_many, two}
use Rattle.cvc_modes.proofs.reading.read_row.Goals as goal
use Rattle.cvc_modes.proofs.reading.read_row.Goals.{in_default-via-then-as_slice-lt2, in_default-via-else-as_slice-lt2+else-this-lt3}

pub returns-in_default : goal.returns-in_default
returns-in_default c =
    elim c.in_default.branch [
      | in_default-via-then-as_slice-lt2 w ↦ too_few c.args.line.now _ c.as_slice.ensures (search rules)
      | in_default-via-else-as_slice-lt2+else-this-lt3 w ↦ too_many c.args.line.now _ c.as_slice.ensures (search rules)
    ]

pub returns : goal.returns
returns c =
    two c.args.line.now _ c.as_slice.ensures c.name-item.result c.file-item.result c.in-len2.len_at_least c.in-len2.len_below c.name-item.is c.file-item.is
    ∙ (λ i. Ok (row_with c.args.line.now.first (sym (c.in_ok-of.ensures ∙ c.bytes.ensures) i) (sym (c.in_ok-of-2.ensures ∙ c.bytes-2.ensures) i)))
