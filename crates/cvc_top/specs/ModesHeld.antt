-- What the values of a run of modes stand for, and what they tell.
use Rattle.std.specs.Prelude.{◌≡◌, ◌<◌, ◌^◌, length, All}
use Rattle.cvc_modes.specs.Checked.{IsOfFlat}
use Rattle.cvc_run.specs.Outside.{Ending}
use Rattle.cvc_run.specs.Said.{parts}
use Rattle.cvc_top.specs.Modes.{ListedParts, modes_ending, named_ending}
use Rattle.cvc_top.specs.declared.modes.Listed.{Listed}
use Rattle.cvc_top.specs.declared.modes.ModesTold.{ModesTold}
use Rattle.cvc_top.specs.declared.modes.NamedRefusal.{NamedRefusal}

abbrev pub listed_view : Listed → ListedParts
listed_view l = record { parts = parts l.design.flat.list l.design.models; rows = l.list }

abbrev pub told_modes : ModesTold → Ending
told_modes t = modes_ending t.flat.now.list t.list.now t.results.now

pub record CanTellModes (t : ModesTold) : Type 0 where
  pub few : length t.results.now < 2 ^ 32
  pub as_many : length t.results.now ≡ length t.list.now
  pub of_flat : All (IsOfFlat t.flat.now.list) t.results.now

abbrev pub told_refusal : NamedRefusal → Ending
told_refusal r = named_ending r.mode.now r.refused
