-- What is known of names: for names that were asked in an instance or on the main level, in lower case, their last texts. A last text stays what it is
-- for all that see the same way, so one that is known in an instance serves each instance below it.
use Rattle.std.specs.Prelude.{◌≡◌, ℕ, ◌<◌, suc, List, length, Option, Some, IfSome, slice_index_or}
use Rattle.std.specs.Option.{option_map}
use Rattle.std.specs.Str.{str_to_ascii_lowercase}
use Rattle.indexmap.specs.IndexMap.{get_by}
use Rattle.cvc_cdl.specs.declared.netlist.Netlist.{Netlist}
use Rattle.cvc_params.specs.declared.known.Known.{Known}
use Rattle.cvc_params.specs.declared.level.Level.{Level}
use Rattle.cvc_params.specs.declared.lookups.Step.{Step}
use Rattle.cvc_params.specs.declared.lookups.Step.TheVariants as steps
use Rattle.cvc_params.specs.declared.params.Sight.{Sight}
use Rattle.cvc_params.specs.declared.params.Spot.{Spot}
use Rattle.cvc_params.specs.PairIndexes.{is_key}
use Rattle.cvc_params.specs.Params.{Scope, Inside, Main, Use, last_text, next, seen_from}
use Rattle.cvc_params.specs.Seen.{HasLists, IsOnWay, scope_in, use_in, way_to}

-- the last text of a name in lower case, if it is known
abbrev pub end_of : Known → List ℕ → Option (List ℕ)
end_of known low = option_map (λ t. t.now) (get_by (is_key low) known.ends)

-- a text has this last text
pub record Ends (n : Netlist) (u : Use) (t : List ℕ) : Type 0 where
  pub steps : ℕ
  pub ends : last_text n steps u ≡ Some t

-- what a name stands for has this last text
pub record IsAnswer (n : Netlist) (s : Scope) (low : List ℕ) (t : List ℕ) : Type 0 where
  pub to : Use
  pub seen : seen_from n s low ≡ Some to
  pub ends : Ends n to t

abbrev pub AreAnswers : Netlist → Scope → Known → Type 0
AreAnswers n s known = (low : List ℕ) → IfSome (end_of known low) (IsAnswer n s low)

-- the name, where it was asked, has this last text
pub record IsAnsweredBy (n : Netlist) (levels : List Level) (t : List ℕ) (asked : Spot) : Type 0 where
  pub inside : IsOnWay levels asked.site
  pub answer : IsAnswer n (scope_in levels asked.site) (str_to_ascii_lowercase asked.text.now) t

-- a text stands for another, by its name in lower case
pub record LeadsTo (n : Netlist) (levels : List Level) (spot other : Spot) : Type 0 where
  pub step : next n (use_in levels spot) ≡ Some (use_in levels other)
  pub name : seen_from n (scope_in levels spot.site) (str_to_ascii_lowercase spot.text.now) ≡ Some (use_in levels other)
  pub inside : IsOnWay levels other.site

abbrev pub IsStep : Netlist → List Level → Spot → Step → Type 0
IsStep n levels spot (steps.End t) = Ends n (use_in levels spot) t.now
IsStep n levels spot (steps.On seen) = LeadsTo n levels spot seen

-- the lists are those of the levels, and all that is known of names is right
pub record IsSight (s : Sight) : Type 0 where
  pub lists : HasLists s
  pub main : AreAnswers s.netlist.now Main s.main_known
  pub count : length s.known.items ≡ suc (length s.levels.items)
  pub known : (k : ℕ) (d : Known) → k < length s.known.items → AreAnswers s.netlist.now (Inside (way_to s.levels.items k)) (slice_index_or s.known.items k d)

-- they differ at most in what is known
pub record SeesTheSame (old new : Sight) : Type 0 where
  pub netlist : new.netlist.now ≡ old.netlist.now
  pub indexes : new.indexes ≡ old.indexes
  pub top : new.top.now ≡ old.top.now
  pub levels : new.levels.items ≡ old.levels.items
  pub lists : new.lists.items ≡ old.lists.items
