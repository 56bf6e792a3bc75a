use Rattle.cvc_core.specs.declared.event.Event.TheVariants.{Load, Lower, Raise, Add, SetQueued, Take, DropRunning, Subtract, ReadCount, Look, Split, Join}
use Rattle.cvc_core.proofs.EachStep.{event_keeps}
use Rattle.cvc_core.proofs.laws.every_event_keeps_a_state_sound.Goals as goal

pub returns : goal.returns
returns c = record {
  load = λ k i c s. event_keeps c s (Load k i);
  lower = λ k slot c s. event_keeps c s (Lower k slot);
  raise = λ k slot c s. event_keeps c s (Raise k slot);
  add = λ k c s. event_keeps c s (Add k);
  set_queued = λ k c s. event_keeps c s (SetQueued k);
  take = λ k d c s. event_keeps c s (Take k d);
  drop_running = λ k c s. event_keeps c s (DropRunning k);
  subtract = λ k c s. event_keeps c s (Subtract k);
  read_count = λ k c s. event_keeps c s (ReadCount k);
  look = λ k d c s. event_keeps c s (Look k d);
  split = λ k l c s. event_keeps c s (Split k l);
  join = λ k l c s. event_keeps c s (Join k l);
}
