-- A text of which the sink took a part from its front on, and failed.
use Rattle.std.proofs.Common.{◌≡◌, ℕ, inr, List, length, take, Option, refl, sym, ap, ◌∙◌}
use Rattle.std.proofs.Math.Seq.{take-append_seam}
use Rattle.std.specs.Io.KnownBytes.{append_known}
use Rattle.cvc_io.specs.Bytes.{WritesPart}
use Rattle.cvc_io.specs.Causes.{Rose}
use Rattle.cvc_run.specs.Outside.{Ending, Ends, taken}
use Rattle.cvc_run.specs.declared.status.Status.TheVariants.{WriteFault}

pub front_told : (e : Ending) (before after : Option (List ℕ)) (k l : ℕ) → WritesPart before after e.text → Rose k l → Ends e (taken before after k l) WriteFault
front_told e before after k l h rose =
    let front : take (length h.part) e.text ≡ h.part = ap (take (length h.part)) h.whole ∙ take-append_seam h.part h.rest in
    inr (refl, rose, (length h.part, h.written ∙ ap (append_known before) (sym front)))
