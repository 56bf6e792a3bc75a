-- The outside before and after a run: the faults of the shelf by name, what the sink took, and the sink's faults. And what a run may answer: its
-- outcome with the whole text, a fault of the outside that came in this run, or want of memory.
use Rattle.std.specs.Prelude.{◌≡◌, ℕ, List, take, Option, ◌⊎◌}
use Rattle.std.specs.Io.KnownBytes.{append_known}
use Rattle.cvc_io.specs.Causes.{Rose}
use Rattle.cvc_run.specs.declared.status.Status.{Status}
use Rattle.cvc_run.specs.declared.status.Status.TheVariants.{ReadFault, WriteFault, NoMemory}

-- the sink before and after: what it took, where that is told, and its count of faults
pub record Taken : Type 0 where
  pub before : Option (List ℕ)
  pub after : Option (List ℕ)
  pub faults_before : ℕ
  pub faults_after : ℕ

abbrev pub taken : Option (List ℕ) → Option (List ℕ) → ℕ → ℕ → Taken
taken before after faults_before faults_after = record { before = before; after = after; faults_before = faults_before; faults_after = faults_after }

abbrev pub Wrote : Taken → List ℕ → Type 0
Wrote t text = t.after ≡ append_known t.before text

abbrev pub WroteNothing : Taken → Type 0
WroteNothing t = t.after ≡ t.before

abbrev pub WroteFront : Taken → List ℕ → Type 0
WroteFront t text = (n : ℕ) × Wrote t (take n text)

abbrev pub SinkFailed : Taken → Type 0
SinkFailed t = Rose t.faults_before t.faults_after

-- how a run ends: with a status and a text
pub record Ending : Type 0 where
  pub status : Status
  pub text : List ℕ

abbrev pub ending : Status → List ℕ → Ending
ending status text = record { status = status; text = text }

-- it was told: with its status and its whole text, or a fault of the sink and a front of the text
abbrev pub Ends : Ending → Taken → Status → Type 0
Ends e t result = ((result ≡ e.status) × Wrote t e.text) ⊎ ((result ≡ WriteFault) × SinkFailed t × WroteFront t e.text)

-- an outcome: which endings a run has
abbrev pub Outcome : Type 1
Outcome = Ending → Type 0

abbrev pub EndsAs : Outcome → Taken → Status → Type 0
EndsAs outcome t status = (text : List ℕ) × outcome (ending status text) × Wrote t text

abbrev pub StopsIn : Outcome → Taken → Type 0
StopsIn outcome t = (e : Ending) × outcome e × WroteFront t e.text

-- what a run of this outcome may answer, where `failed` says that a due file has failed in it
abbrev pub MayAnswer : Outcome → Type 0 → Taken → Status → Type 0
MayAnswer outcome failed t ReadFault = failed × WroteNothing t
MayAnswer outcome failed t WriteFault = SinkFailed t × StopsIn outcome t
MayAnswer outcome failed t NoMemory = WroteNothing t
MayAnswer outcome failed t status = EndsAs outcome t status
