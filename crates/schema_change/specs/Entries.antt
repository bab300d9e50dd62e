-- What the entries of two fields say.
use Rattle.std.specs.Prelude.{Bool, not, cond, List, ◌++◌, ℕ, eqb}
use Rattle.text.specs.Parts.{optional_of}
use Rattle.widening.specs.Decision.{kind_differs, items_differ, tag_differs, mark_closes, Difference, breach_if, same_tag, closes}
use Rattle.schema_change.specs.declared.place.FieldEntry.{FieldEntry}

unfoldable pub same_mark : Bool → Bool → Bool
same_mark b b' = cond b b' (not b')

unfoldable pub entry_differences : (first : List ℕ) → FieldEntry → (second : List ℕ) → FieldEntry → List Difference
entry_differences first x second y =
    breach_if (not (eqb x.head.kind y.head.kind)) kind_differs x.number y.number
    ++ (breach_if (closes x.head.opened y.head.opened) mark_closes x.number y.number
    ++ (breach_if (not (same_mark x.head.items y.head.items)) items_differ x.number y.number
    ++ breach_if (not (same_tag (optional_of first x.head.tag) (optional_of second y.head.tag))) tag_differs x.number y.number))
