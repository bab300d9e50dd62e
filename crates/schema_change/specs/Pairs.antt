-- Which of two members comes next, in two holders whose names rise.
use Rattle.std.specs.Prelude.{ℕ, ◌<◌, cond, List, ◌≡◌, Option, Some, None}
use Rattle.text.specs.Order.{precedes, same_bytes}
use Rattle.text.specs.Parts.{part_of}
use Rattle.sheet.specs.Places.{Unread}
use Rattle.schema_change.specs.Places.{Within, Enters}
use Rattle.schema_change.specs.declared.place.Place.{Place}
use Rattle.schema_change.specs.declared.place.FieldEntry.{FieldEntry}
use Rattle.schema_change.specs.declared.pairing.Members.{Members}
use Rattle.schema_change.specs.declared.pairing.Pairing.{Pairing}
use Rattle.schema_change.specs.declared.pairing.Pairing.TheVariants.{Neither, Missing, Added, Both}

-- what is there, where so many members are left
abbrev pub NextIs : List ℕ → Place → ℕ → Option FieldEntry → Type 0
NextIs s p left (Some x) = (0 < left) × Enters s p x
NextIs s p left None = 0 < left → Unread s p.at

pub record MembersFrom (s : List ℕ) (p : Place) (left : ℕ) (r : Members) : Type 0 where
  pub place : r.place ≡ p
  pub count : r.left ≡ left
  pub within : Within s p
  pub next : NextIs s p left r.next

unfoldable pub pair_of : (first : List ℕ) → FieldEntry → (second : List ℕ) → FieldEntry → Pairing
pair_of first x second y =
    let name = part_of first x.head.name in
    let name' = part_of second y.head.name in
    cond (precedes name' name) (Added y) (cond (same_bytes name name') (Both x y) (Missing x))

unfoldable pub pairing_of : (first : List ℕ) → Option FieldEntry → (second : List ℕ) → Option FieldEntry → Pairing
pairing_of first None second None = Neither
pairing_of first None second (Some y) = Added y
pairing_of first (Some x) second None = Missing x
pairing_of first (Some x) second (Some y) = pair_of first x second y
