-- Parts by their numbers.
use Rattle.std.proofs.Common.{◌≡◌, ℕ, ◌<◌, List, length, get_or, sym, ap, ◌∙◌}
use Rattle.std.proofs.lemmas.List.{get_or-map}
use Rattle.cvc_plan.specs.declared.rows.InstancePart.{InstancePart}
use Rattle.cvc_plan.specs.Parts.{link_at, link_of, no_link}

pub link_is : (names : List (List ℕ)) (parts : List InstancePart) (k : ℕ) (part : InstancePart) → k < length parts → part ≡ get_or parts k part → link_at names parts k ≡ link_of names part
link_is names parts k part h e = get_or-map (link_of names) parts k part no_link h ∙ ap (link_of names) (sym e)
