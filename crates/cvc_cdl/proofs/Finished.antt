-- The end of a draft.
use Rattle.std.proofs.Common.{◌≡◌, ℕ, List, [], ◌∷◌, ◌++◌, Option, Some, None, refl, sym, ap, ◌∙◌}
use Rattle.std.specs.Option.{option_map}
use Rattle.std.proofs.lemmas.List.{append-nil}
use Rattle.cvc_base.specs.declared.cause.Cause.TheVariants.{OpenSubckt}
use Rattle.cvc_base.specs.declared.fault.Fault.{Fault}
use Rattle.cvc_card.specs.Parts.{last_of}
use Rattle.cvc_cdl.specs.declared.draft.Draft.{Draft as HeldDraft}
use Rattle.cvc_cdl.specs.declared.draft.OpenCell.{OpenCell}
use Rattle.cvc_cdl.specs.declared.netlist.Cell.{Cell}
use Rattle.cvc_cdl.specs.declared.netlist.Item.{Item}
use Rattle.cvc_cdl.specs.Building.{fault_at, or_else}
use Rattle.cvc_cdl.specs.Drafting.{cell_held, cells_held, draft_held, name_held}
use Rattle.cvc_cdl.specs.Finishing.{cells_fault_in, draft_fault, file_instances, open_in}

pub last_of-push : {X : Type 0} (xs : List X) (x : X) → last_of (xs ++ x ∷ []) ≡ Some x
last_of-push [] x = refl
last_of-push (y ∷ []) x = refl
last_of-push (y ∷ z ∷ xs) x = last_of-push (z ∷ xs) x

module _ (d : HeldDraft) (top : Option (List ℕ)) where
  ends_with : Option OpenCell → Option Fault
  ends_with o = or_else (open_in (option_map name_held o) (cells_held d.ended o)) (cells_fault_in (cells_held d.ended o) (file_instances d.main (cells_held d.ended o) d.places.items) top)

  pub open_fails : (o : OpenCell) → d.current ≡ Some o → (fault : Fault) → fault ≡ fault_at o.card.line OpenSubckt → draft_fault (draft_held d) top ≡ Some fault
  unfolding draft_fault ends_with
  open_fails o is fault same =
      ap ends_with is
      ∙ ap (λ l. or_else (option_map (λ (c : Cell). fault_at c.line OpenSubckt) l) (cells_fault_in (cells_held d.ended (Some o)) (file_instances d.main (cells_held d.ended (Some o)) d.places.items) top)) (last_of-push d.ended (cell_held o))
      ∙ ap Some (sym same)

  pub checked : d.current ≡ None → (cells : List Cell) (items : List Item) (places : List ℕ) → cells ≡ d.ended → items ≡ d.main → places ≡ d.places.items → (fault : Option Fault)
      → fault ≡ cells_fault_in cells (file_instances items cells places) top → draft_fault (draft_held d) top ≡ fault
  unfolding draft_fault ends_with
  checked is cells items places c i p fault same =
      ap ends_with is
      ∙ ap (λ cs. cells_fault_in cs (file_instances d.main cs d.places.items) top) (append-nil d.ended ∙ sym c)
      ∙ (λ j. cells_fault_in cells (file_instances (sym i j) cells (sym p j)) top)
      ∙ sym same
