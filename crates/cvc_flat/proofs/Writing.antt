-- Writing a text piece by piece.
use Rattle.std.proofs.Common.{◌≡◌, ℕ, ◌+◌, ◌-◌, ◌<◌, List, [], ◌∷◌, ◌++◌, length, map, get_or, take, drop, Option, Some, None, refl, sym, ap, ◌∙◌, append_assoc, arith}
use Rattle.std.specs.Prelude.{codes, Result, Ok, Err}
use Rattle.std.specs.Io.KnownBytes.{append_known}
use Rattle.std.proofs.lemmas.List.{append-nil, length-drop, map-append, take_all, take-append-drop}
use Rattle.std.proofs.Math.Seq.{take-add}
use Rattle.cvc_io.specs.declared.error.WriteFailed.{WriteFailed}
use Rattle.cvc_cdl.specs.Instances.{printed}
use Rattle.cvc_plan.specs.declared.rows.InstancePart.{InstancePart}
use Rattle.cvc_plan.specs.Nets.{name_of_link}
use Rattle.cvc_plan.specs.Parts.{link_at, text}
use Rattle.cvc_plan.proofs.Parts.{link_is}
use Rattle.cvc_io.specs.Bytes.{WritesPart, WritesText}
use Rattle.cvc_flat.specs.Tables.{names_on}

pub twice_known : (before : Option (List ℕ)) (x y : List ℕ) → append_known (append_known before x) y ≡ append_known before (x ++ y)
twice_known None x y = refl
twice_known (Some l) x y = ap Some (append_assoc l x y)

pub known_nil : (o : Option (List ℕ)) → o ≡ append_known o []
known_nil None = refl
known_nil (Some l) = ap Some (sym (append-nil l))

-- one more piece of the text was taken
pub written_more : (text : List ℕ) (done count : ℕ) (before so_far after : Option (List ℕ)) → so_far ≡ append_known before (take done text) → after ≡ append_known so_far (take count (take (length text - done) (drop done text))) → after ≡ append_known before (take (done + count) text)
written_more text done count before so_far after e new =
    let whole : take (length text - done) (drop done text) ≡ drop done text = take_all (length text - done) (drop done text) (omega (arith, length-drop done text)) in
    new ∙ ap (λ (l : List ℕ). append_known so_far (take count l)) whole ∙ ap (λ (o : Option (List ℕ)). append_known o (take count (drop done text))) e ∙ twice_known before (take done text) (take count (drop done text)) ∙ ap (append_known before) (sym (take-add done count text))

-- a part is written where what is taken is the front of the text
pub part_front : (text : List ℕ) (done : ℕ) (before after : Option (List ℕ)) → after ≡ append_known before (take done text) → WritesPart before after text
part_front text done before after e = record { part = take done text; rest = drop done text; whole = sym (take-append-drop done text); written = e }

-- a part of a piece that lies behind what is written
pub part_behind : (done piece more text : List ℕ) (before so_far after : Option (List ℕ)) → so_far ≡ append_known before done → done ++ (piece ++ more) ≡ text → WritesPart so_far after piece → WritesPart before after text
part_behind done piece more text before so_far after e whole p = record {
  part = done ++ p.part;
  rest = p.rest ++ more;
  whole = sym whole ∙ ap (λ (x : List ℕ). done ++ (x ++ more)) p.whole ∙ ap (λ (x : List ℕ). done ++ x) (append_assoc p.part p.rest more) ∙ sym (append_assoc done p.part (p.rest ++ more));
  written = p.written ∙ ap (λ (o : Option (List ℕ)). append_known o p.part) e ∙ twice_known before done p.part;
}

-- and one of a piece in front
pub front_part : (piece more : List ℕ) (before after : Option (List ℕ)) → WritesPart before after piece → WritesPart before after (piece ++ more)
front_part piece more before after p = part_behind [] piece more (piece ++ more) before before after (known_nil before) refl p

-- the outermost name is printed first
pub printed_last : (names : List (List ℕ)) (outer name : List ℕ) → printed (names ++ outer ∷ []) name ≡ outer ++ (codes "/" ++ printed names name)
printed_last [] outer name = append_assoc outer (codes "/") name
printed_last (own ∷ up) outer name = printed_last up outer (own ++ codes "/" ++ name)

-- the last piece of a text
pub writes_last : (r : Result (Unit {0}) WriteFailed) (done piece text : List ℕ) (before so_far after : Option (List ℕ)) → so_far ≡ append_known before done → done ++ piece ≡ text
    → WritesText so_far after r piece → WritesText before after r text
writes_last (Ok u) done piece text before so_far after e whole w = w ∙ ap (λ (o : Option (List ℕ)). append_known o piece) e ∙ twice_known before done piece ∙ ap (append_known before) whole
writes_last (Err f) done piece text before so_far after e whole w = part_behind done piece [] text before so_far after e (ap (λ (x : List ℕ). done ++ x) (append-nil piece) ∙ whole) w

-- what is left to print once the outermost name was taken
pub path_last : (names : List (List ℕ)) (parts : List InstancePart) (way : List ℕ) (card : ℕ) (part : InstancePart) (name : List ℕ) → card < length parts → part ≡ get_or parts card part
    → printed (names_on names parts (way ++ card ∷ [])) name ≡ text names part.name ++ (codes "/" ++ printed (names_on names parts way) name)
path_last names parts way card part name inside is =
    ap (λ ns. printed ns name) (ap (map name_of_link) (map-append (link_at names parts) way (card ∷ [])) ∙ map-append name_of_link (map (link_at names parts) way) (link_at names parts card ∷ []))
    ∙ printed_last (names_on names parts way) (name_of_link (link_at names parts card)) name
    ∙ ap (λ (l : List ℕ). l ++ (codes "/" ++ printed (names_on names parts way) name)) (ap name_of_link (link_is names parts card part inside is))

-- the same, where the outermost name is this text
pub next_step : (names : List (List ℕ)) (parts : List InstancePart) (way up : List ℕ) (card : ℕ) (part : InstancePart) (name outer : List ℕ) → way ≡ up ++ card ∷ [] → card < length parts
    → part ≡ get_or parts card part → outer ≡ text names part.name → printed (names_on names parts way) name ≡ (outer ++ codes "/") ++ printed (names_on names parts up) name
next_step names parts way up card part name outer last inside is own =
    ap (λ w. printed (names_on names parts w) name) last ∙ path_last names parts up card part name inside is
    ∙ ap (λ (l : List ℕ). l ++ (codes "/" ++ printed (names_on names parts up) name)) (sym own)
    ∙ sym (append_assoc outer (codes "/") (printed (names_on names parts up) name))
