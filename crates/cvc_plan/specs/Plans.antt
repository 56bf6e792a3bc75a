-- What is kept of a device's card, with the number of its model: its names by their numbers.
use Rattle.std.specs.Prelude.{◌≡◌, ℕ, ◌<◌, List, length}
use Rattle.cvc_card.specs.declared.card.DeviceCard.{DeviceCard}
use Rattle.cvc_plan.specs.declared.rows.DevicePart.{DevicePart}
use Rattle.cvc_plan.specs.Parts.{text}

pub record IsPlanOf (names : List (List ℕ)) (card : DeviceCard) (part : DevicePart) (number : ℕ) : Type 0 where
  pub letter : part.letter ≡ card.letter
  pub line : part.line ≡ card.line
  pub own : part.name < length names
  pub name : text names part.name ≡ card.name
  pub known : number < length names
  pub model : text names number ≡ card.model
