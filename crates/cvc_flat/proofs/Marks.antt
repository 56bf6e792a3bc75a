-- What is left of a walk, by its marks.
use Rattle.std.proofs.Common.{◌≡◌, ℕ, suc, ◌+◌, ◌-◌, ◌<◌, ◌≤◌, false, List, [], ◌∷◌, ◌++◌, length, map, cond, drop, get_or, refl, sym, ap, subst, ◌∙◌, arith}
use Rattle.std.specs.Prelude.{All, Option, Some, None, find, Bool, true}
use Rattle.std.specs.Option.{unwrap_or}
use Rattle.std.specs.Str.{bytes_eq}
use Rattle.std.proofs.lemmas.List.{append_assoc, drop_all, drop_more}
use Rattle.cvc_card.specs.declared.card.DeviceCard.{DeviceCard}
use Rattle.cvc_card.specs.declared.card.InstCard.{InstCard}
use Rattle.cvc_cdl.specs.declared.netlist.Cell.{Cell}
use Rattle.cvc_cdl.specs.declared.netlist.Item.{Item}
use Rattle.cvc_cdl.specs.declared.netlist.Item.TheVariants as items
use Rattle.cvc_cdl.specs.declared.netlist.Netlist.{Netlist}
use Rattle.cvc_cdl.specs.WellFormed.{IsFormedLevel, IsWellFormed}
use Rattle.cvc_cdl.specs.Instances.{Instance, cell_at, no_cell, top_cell}
use Rattle.cvc_params.specs.declared.level.Level.{Level}
use Rattle.cvc_params.specs.Levels.{card_of}
use Rattle.cvc_params.proofs.Each.{Each}
use Rattle.cvc_plan.specs.declared.cards.Plan.{Plan}
use Rattle.cvc_plan.proofs.Lists.{all_head, all_tail}
use Rattle.cvc_flat.specs.declared.rows.InstanceRow.{InstanceRow}
use Rattle.cvc_flat.specs.declared.steps.Made.{Made}
use Rattle.cvc_flat.specs.declared.walk.Mark.{Mark}
use Rattle.cvc_flat.specs.Flat.{instances_behind, limits, visit_fault, visits_of, walk_fault}
use Rattle.cvc_flat.specs.Left.{Frame, frame_at, left}
use Rattle.cvc_flat.specs.Making.{AreMarks, IsMark, Shows, frame_of, frames_of, tables_of}
use Rattle.cvc_flat.specs.Tables.{path_of}
use Rattle.cvc_flat.specs.Walk.{Visit}
use Rattle.cvc_flat.proofs.Apart.{AllApart, Different, instances_append, walk_apart}
use Rattle.cvc_flat.proofs.Entered.{way_stays}
use Rattle.cvc_flat.proofs.Stack.{fault_next, left_device, left_done, left_instance, left_start}

-- ## Marks

mark_stays : (n : Netlist) (p : Plan) (rows : List InstanceRow) (r : InstanceRow) (ls : List Level) (m : Mark) → length (rows ++ r ∷ []) ≡ length rows + 1 → IsMark n p rows ls m → IsMark n p (rows ++ r ∷ []) ls m
mark_stays n p rows r ls m long h = record {
  inside = omega (arith, h.inside, long);
  path = ap (path_of p.cards.names p.cards.parts.items) (way_stays rows r m.instance h.inside) ∙ h.path;
  cell = h.cell;
  known = h.known;
  plan = h.plan;
}

pub marks_stay : (n : Netlist) (p : Plan) (rows : List InstanceRow) (r : InstanceRow) (ls : List Level) (m : Mark) (above : List Mark) → length (rows ++ r ∷ []) ≡ length rows + 1
    → AreMarks n p rows ls m above → AreMarks n p (rows ++ r ∷ []) ls m above
marks_stay n p rows r [] m [] long h = mark_stays n p rows r [] m long h
marks_stay n p rows r [] m (a ∷ above) long h = absurd h
marks_stay n p rows r (l ∷ ls) m [] long h = absurd h
marks_stay n p rows r (l ∷ ls) m (a ∷ above) long h = (mark_stays n p rows r (l ∷ ls) m long h.0, marks_stay n p rows r ls a above long h.1)

-- the mark itself
pub mark_here : (n : Netlist) (p : Plan) (rows : List InstanceRow) (ls : List Level) (m : Mark) (above : List Mark) → AreMarks n p rows ls m above → IsMark n p rows ls m
mark_here n p rows [] m [] h = h
mark_here n p rows [] m (a ∷ above) h = absurd h
mark_here n p rows (l ∷ ls) m [] h = absurd h
mark_here n p rows (l ∷ ls) m (a ∷ above) h = h.0

abbrev pub stepped : Mark → Mark
stepped m = record { instance = m.instance; cell = m.cell; plan = m.plan; first = m.first; next = m.next + 1 }

mark_steps : (n : Netlist) (p : Plan) (rows : List InstanceRow) (ls : List Level) (m : Mark) → IsMark n p rows ls m → IsMark n p rows ls (stepped m)
mark_steps n p rows ls m h = record { inside = h.inside; path = h.path; cell = h.cell; known = h.known; plan = h.plan }

pub marks_step : (n : Netlist) (p : Plan) (rows : List InstanceRow) (ls : List Level) (m : Mark) (above : List Mark) → AreMarks n p rows ls m above → AreMarks n p rows ls (stepped m) above
marks_step n p rows [] m [] h = mark_steps n p rows [] m h
marks_step n p rows [] m (a ∷ above) h = absurd h
marks_step n p rows (l ∷ ls) m [] h = absurd h
marks_step n p rows (l ∷ ls) m (a ∷ above) h = (mark_steps n p rows (l ∷ ls) m h.0, h.1)

pub marks_long : (n : Netlist) (p : Plan) (rows : List InstanceRow) (ls : List Level) (m : Mark) (above : List Mark) → AreMarks n p rows ls m above → length above ≡ length ls
marks_long n p rows [] m [] h = refl
marks_long n p rows [] m (a ∷ above) h = absurd h
marks_long n p rows (l ∷ ls) m [] h = absurd h
marks_long n p rows (l ∷ ls) m (a ∷ above) h = ap suc (marks_long n p rows ls a above h.1)

-- ## Frames

frames_behind : Netlist → List Level → List Mark → List Frame
frames_behind n ls [] = []
frames_behind n [] (a ∷ above) = []
frames_behind n (l ∷ ls) (a ∷ above) = frames_of n ls a above

frames_are : (n : Netlist) (ls : List Level) (m : Mark) (above : List Mark) → frames_of n ls m above ≡ frame_of n ls m ∷ frames_behind n ls above
unfolding frames_behind
frames_are n ls m [] = refl
frames_are n [] m (a ∷ above) = refl
frames_are n (l ∷ ls) m (a ∷ above) = refl

abbrev frame_with : Netlist → List Level → List Item → Frame
frame_with n ls coming = record { within = map card_of ls; coming = coming; levels = 64 - length ls }

module _ (n : Netlist) (ls : List Level) (m : Mark) (above : List Mark) (item : Item) (inside : m.next < length (cell_at n (map card_of ls)).items) (is : get_or (cell_at n (map card_of ls)).items m.next item ≡ item) where
  opens : frames_of n ls m above ≡ frame_with n ls (item ∷ drop (m.next + 1) (cell_at n (map card_of ls)).items) ∷ frames_behind n ls above
  opens =
      frames_are n ls m above
      ∙ ap (λ coming. frame_with n ls coming ∷ frames_behind n ls above) (drop_more (cell_at n (map card_of ls)).items m.next item inside ∙ ap (λ x. x ∷ drop (m.next + 1) (cell_at n (map card_of ls)).items) is)

  -- an item is visited
  pub visit_first : (rest : List Visit) × (left n (frames_of n ls m above) ≡ record { within = map card_of ls; item = item } ∷ rest)
  unfolding left
  visit_first = (_, ap (left n) opens)

pub visit_device : (n : Netlist) (ls : List Level) (m : Mark) (above : List Mark) (d : DeviceCard) → m.next < length (cell_at n (map card_of ls)).items → get_or (cell_at n (map card_of ls)).items m.next (items.Device d) ≡ items.Device d
    → left n (frames_of n ls m above) ≡ record { within = map card_of ls; item = items.Device d } ∷ left n (frames_of n ls (stepped m) above)
visit_device n ls m above d inside is =
    ap (left n) (opens n ls m above (items.Device d) inside is)
    ∙ left_device n (map card_of ls) d (drop (m.next + 1) (cell_at n (map card_of ls)).items) (64 - length ls) (frames_behind n ls above)
    ∙ ap (λ fs. record { within = map card_of ls; item = items.Device d } ∷ left n fs) (sym (frames_are n ls (stepped m) above))

pub visit_instance : (n : Netlist) (ls : List Level) (m : Mark) (above : List Mark) (x : InstCard) (l : Level) (e : Mark) → m.next < length (cell_at n (map card_of ls)).items → get_or (cell_at n (map card_of ls)).items m.next (items.Inst x) ≡ items.Inst x
    → l.card.now ≡ x → e.next ≡ 0 → length ls < 64
    → left n (frames_of n ls m above) ≡ record { within = map card_of ls; item = items.Inst x } ∷ left n (frames_of n (l ∷ ls) e (stepped m ∷ above))
visit_instance n ls m above x l e inside is card first short =
    let coming : List Item = drop (m.next + 1) (cell_at n (map card_of ls)).items in
    let levels : 64 - length ls ≡ suc (64 - suc (length ls)) = omega arith in
    let below : frames_of n (l ∷ ls) e (stepped m ∷ above) ≡ frame_at n (64 - suc (length ls)) (x ∷ map card_of ls) ∷ record { within = map card_of ls; coming = coming; levels = suc (64 - suc (length ls)) } ∷ frames_behind n ls above =
    (λ i. record { within = card i ∷ map card_of ls; coming = drop (first i) (cell_at n (card i ∷ map card_of ls)).items; levels = 64 - suc (length ls) } ∷ frames_are n ls (stepped m) above i)
    ∙ (λ i. frame_at n (64 - suc (length ls)) (x ∷ map card_of ls) ∷ record { within = map card_of ls; coming = coming; levels = levels i } ∷ frames_behind n ls above) in
    ap (left n) (opens n ls m above (items.Inst x) inside is)
    ∙ ap (λ k. left n (record { within = map card_of ls; coming = items.Inst x ∷ coming; levels = k } ∷ frames_behind n ls above)) levels
    ∙ left_instance n (map card_of ls) x coming (64 - suc (length ls)) (frames_behind n ls above)
    ∙ ap (λ fs. record { within = map card_of ls; item = items.Inst x } ∷ left n fs) (sym below)

closed : (n : Netlist) (ls : List Level) (m : Mark) (above : List Mark) → length (cell_at n (map card_of ls)).items ≤ m.next → left n (frames_of n ls m above) ≡ left n (frames_behind n ls above)
closed n ls m above h =
    ap (left n) (frames_are n ls m above)
    ∙ ap (λ coming. left n (frame_with n ls coming ∷ frames_behind n ls above)) (drop_all m.next (cell_at n (map card_of ls)).items h)
    ∙ left_done n (map card_of ls) (64 - length ls) (frames_behind n ls above)

pub close_one : (n : Netlist) (l : Level) (ls : List Level) (m a : Mark) (above : List Mark) → length (cell_at n (map card_of (l ∷ ls))).items ≤ m.next → left n (frames_of n (l ∷ ls) m (a ∷ above)) ≡ left n (frames_of n ls a above)
unfolding frames_behind
close_one n l ls m a above h = closed n (l ∷ ls) m (a ∷ above) h

pub close_last : (n : Netlist) (ls : List Level) (m : Mark) → length (cell_at n (map card_of ls)).items ≤ m.next → left n (frames_of n ls m []) ≡ []
unfolding frames_behind left
close_last n ls m h = closed n ls m [] h

-- the whole walk is left at its start
pub begins : (n : Netlist) (m : Mark) → m.next ≡ 0 → left n (frames_of n [] m []) ≡ visits_of limits n
begins n m e = ap (λ k. left n (record { within = []; coming = drop k (cell_at n []).items; levels = 64 } ∷ [])) e ∙ left_start n 64 []

-- ## The walk so far

-- the tables show the visits that are done; with what is left they are all
pub record IsWalked (n : Netlist) (p : Plan) (rows : List InstanceRow) (made : Made) (ls : List Level) (m : Mark) (above : List Mark) : Type 0 where
  pub done : List Visit
  pub shows : Shows n (tables_of n p rows made) done
  pub whole : done ++ left n (frames_of n ls m above) ≡ visits_of limits n
  pub fault : walk_fault limits n [] (visits_of limits n) ≡ walk_fault limits n done (left n (frames_of n ls m above))

-- one visit more without a fault
pub walked_more : (n : Netlist) (done next : List Visit) (all now : List Visit) (v : Visit) → now ≡ v ∷ next → done ++ now ≡ all → (done ++ v ∷ []) ++ next ≡ all
walked_more n done next all now v e whole = append_assoc done (v ∷ []) next ∙ ap (λ l. done ++ l) (sym e) ∙ whole

pub fault_more : (n : Netlist) (done next : List Visit) (all now : List Visit) (v : Visit) → now ≡ v ∷ next → visit_fault limits n done v ≡ None → walk_fault limits n [] all ≡ walk_fault limits n done now
    → walk_fault limits n [] all ≡ walk_fault limits n (done ++ v ∷ []) next
fault_more n done next all now v e none is = is ∙ ap (walk_fault limits n done) e ∙ fault_next limits n done v next none

-- ## Well formed levels

found_all : {A : Type 0} (P : A → Type 0) (p : A → Bool) (xs : List A) (d : A) → All P xs → P d → P (unwrap_or (find p xs) d)
found_all P p [] d h e = e
found_all P p (x ∷ xs) d h e = by (p x) (found_all P p xs d (all_tail P x xs h) e)
  where
    by : (b : Bool) → P (unwrap_or (find p xs) d) → P (unwrap_or (cond b (Some x) (find p xs)) d)
    by true later = all_head P x xs h
    by false later = later

no_level : (cells : List Cell) → IsFormedLevel cells no_cell
no_level cells = record { ports = refl; names = refl; items = λ k d b. absurd (omega arith) }

pub level_formed : (n : Netlist) → IsWellFormed n → (p : Instance) → IsFormedLevel n.cells (cell_at n p)
level_formed n w [] = by n.top
  where
    by : (top : Option (List ℕ)) → IsFormedLevel n.cells (top_cell n top)
    by None = w.main
    by (Some name) = found_all (IsFormedLevel n.cells) (λ (c : Cell). bytes_eq name c.name) n.cells no_cell w.levels (no_level n.cells)
level_formed n w (x ∷ up) = found_all (IsFormedLevel n.cells) (λ (c : Cell). bytes_eq x.cell c.name) n.cells no_cell w.levels (no_level n.cells)

each_front : (P : Instance → Type 0) (ps qs : List Instance) → Each P (ps ++ qs) → Each P ps
each_front P [] qs h = tt
each_front P (p ∷ ps) qs h = (h.0, each_front P ps qs h.1)

apart_front : (ps qs : List Instance) → AllApart (ps ++ qs) → AllApart ps
apart_front [] qs h = tt
apart_front (p ∷ ps) qs h = (each_front (Different p) ps qs h.0, apart_front ps qs h.1)

-- instances behind the visits that are done are apart
pub done_apart : (n : Netlist) (done next : List Visit) → IsWellFormed n → done ++ next ≡ visits_of limits n → AllApart (instances_behind done)
done_apart n done next w whole =
    apart_front (instances_behind done) (instances_behind next)
    (subst AllApart (ap instances_behind (sym whole) ∙ instances_append done next) (walk_apart n 65 [] (λ q. (level_formed n w q).names)))
