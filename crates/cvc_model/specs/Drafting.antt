-- What the reader keeps of a row while it reads its items, and what each part of that stands for in the definition of rows. Only the reader's own
-- calls speak of it.
use Rattle.std.specs.Prelude.{◌≡◌, ◌≢◌, ◌≤ℤ◌, ℕ, List, Result, Ok, Err, ℤ, pos, codes}
use Rattle.cvc_base.specs.declared.cause.Cause.{Cause}
use Rattle.cvc_base.specs.declared.stop.Stop.{Stop}
use Rattle.cvc_base.specs.declared.stop.Stop.TheVariants.{At, NoMemory}
use Rattle.cvc_model.specs.declared.key.Key.{Key}
use Rattle.cvc_model.specs.declared.key.Key.TheVariants.{Vth, Vj, Vgs, Vgd, Vds, Vbs, Vbd, Vbg, Vf}
use Rattle.cvc_model.specs.declared.voltages.Voltages.{Voltages}
use Rattle.cvc_model.specs.declared.draft.Draft.{Draft}
use Rattle.cvc_model.specs.declared.item.Sign.{Sign}
use Rattle.cvc_model.specs.declared.item.Sign.TheVariants.{Equals, Less, AtLeast}
use Rattle.cvc_model.specs.declared.item.Item.{Item as Sides}
use Rattle.cvc_model.specs.Items.{Item, Sets, IsLess, IsAtLeast}
use Rattle.cvc_model.specs.Settings.{Setting, voltages_for, voltage_for}
use Rattle.cvc_model.specs.Rows.{Content}

-- ## Items

abbrev pub item_with : Sign → List ℕ → List ℕ → Item
item_with Equals left right = Sets left right
item_with Less left right = IsLess left right
item_with AtLeast left right = IsAtLeast left right

abbrev pub item_of : Sides → Item
item_of sides = item_with sides.sign sides.left.now sides.right.now

-- ## Settings

abbrev pub word_of_key : Key → List ℕ
word_of_key Vth = codes "vth"
word_of_key Vj = codes "vj"
word_of_key Vgs = codes "vgs"
word_of_key Vgd = codes "vgd"
word_of_key Vds = codes "vds"
word_of_key Vbs = codes "vbs"
word_of_key Vbd = codes "vbd"
word_of_key Vbg = codes "vbg"
word_of_key Vf = codes "vf"

abbrev pub setting_of : Key → ℤ × ℤ → Setting
setting_of key voltages = record { key = word_of_key key; voltages = voltages }

-- a key has such voltages: only a threshold may be negative
abbrev pub MayHave : Key → ℤ × ℤ → Type 0
MayHave key voltages = key ≢ Vth → pos 0 ≤ℤ voltages.0

-- the voltages that are kept are those that the settings say
pub record AreVoltages (kept : Voltages) (settings : List Setting) : Type 0 where
  pub vth : kept.vth ≡ voltages_for (codes "vth") settings
  pub vj : kept.vj ≡ voltage_for (codes "vj") settings
  pub vgs : kept.vgs ≡ voltage_for (codes "vgs") settings
  pub vgd : kept.vgd ≡ voltage_for (codes "vgd") settings
  pub vds : kept.vds ≡ voltage_for (codes "vds") settings
  pub vbs : kept.vbs ≡ voltage_for (codes "vbs") settings
  pub vbd : kept.vbd ≡ voltage_for (codes "vbd") settings
  pub vbg : kept.vbg ≡ voltage_for (codes "vbg") settings
  pub vf : kept.vf ≡ voltage_for (codes "vf") settings

-- a draft says what its items do
pub record IsDraft (draft : Draft) (content : Content) : Type 0 where
  pub voltages : AreVoltages draft.voltages content.settings
  pub tests : draft.tests ≡ content.tests

-- ## What the calls answer

-- the answer is that of the definition: a value that stands for its own, or its cause; want of memory says nothing
abbrev pub KeepsSettings : Result Voltages Cause → Result (List Setting) Cause → Type 0
KeepsSettings (Ok kept) (Ok settings) = AreVoltages kept settings
KeepsSettings (Ok kept) (Err cause) = ⊥
KeepsSettings (Err cause) answer = answer ≡ Err cause

abbrev pub KeepsDraft : Result Draft Stop → Result Content Cause → Type 0
KeepsDraft (Ok draft) (Ok content) = IsDraft draft content
KeepsDraft (Ok draft) (Err cause) = ⊥
KeepsDraft (Err (At cause)) answer = answer ≡ Err cause
KeepsDraft (Err NoMemory) answer = Unit {0}

-- the same of a call that changes a draft
abbrev pub draft_in : Draft → Result (Unit {0}) Stop → Result Draft Stop
draft_in new (Ok done) = Ok new
draft_in new (Err stop) = Err stop

abbrev pub KeepsContent : Draft → Result (Unit {0}) Stop → Result Content Cause → Type 0
KeepsContent new result answer = KeepsDraft (draft_in new result) answer
