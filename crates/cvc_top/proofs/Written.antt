-- What a text that was put is, where nothing waits before and after.
use Rattle.std.proofs.Common.{◌≡◌, ℕ, List, [], ◌++◌, Option, refl, sym, ap, ◌∙◌}
use Rattle.std.specs.Prelude.{Result, Ok, Err}
use Rattle.std.specs.Io.KnownBytes.{append_known}
use Rattle.std.proofs.lemmas.List.{append-nil}
use Rattle.cvc_io.specs.Bytes.{WritesText}
use Rattle.cvc_text.specs.Putting.{Puts, stand}
use Rattle.cvc_text.proofs.Putting.{put_failed}

pub written_of : {E : Type 0} (r : Result (Unit {0}) E) (before after : Option (List ℕ)) (early late : ℕ) (text : List ℕ) → Puts r (stand before [] early) (stand after [] late) text → WritesText before after r text
written_of (Ok u) before after early late text put =
    let all : text ≡ put.taken = put.whole ∙ ap (λ (l : List ℕ). put.taken ++ l) (sym put.waiting) ∙ append-nil put.taken in
    put.written ∙ ap (append_known before) (sym all)
written_of (Err e) before after early late text put = put_failed e (stand before [] early) (stand after [] late) text refl put
