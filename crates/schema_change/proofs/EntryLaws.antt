-- What two entries say is what they say in the trees.
use Rattle.std.specs.Prelude.{Option, Some, None}
use Prim.Native.Nat.{ℕ}
use mathlib.Core.Bool.{Bool, true, false, not}
use mathlib.Core.List.{List, ◌++◌}
use mathlib.Core.Path.{◌≡◌, refl, sym}
use lib.Dec.{eqb}
use Rattle.text.specs.Order.{same_bytes}
use Rattle.text.specs.Parts.{part_of, optional_of}
use Rattle.text.specs.declared.part.Part.{Part}
use Rattle.definition.specs.Tree.{Items, absent, element, Members, field}
use Rattle.definition.specs.Write.{has_items}
use Rattle.widening.specs.Decision.{kind_differs, items_differ, tag_differs, mark_closes, Difference, breach_if, same_tag, same_items_mark, closes, own_differences}
use Rattle.schema_change.specs.declared.answer.Change.{Change}
use Rattle.schema_change.specs.declared.place.FieldEntry.{FieldEntry}
use Rattle.schema_change.specs.Answers.{Goes, is_open_yet}
use Rattle.schema_change.specs.Entries.{same_mark, entry_differences}
use Rattle.schema_change.proofs.Joins.{goes-both, Breachless, open-found, open-before, open-behind, open-breachless}

-- tags

module _ (first second : List ℕ) {x y : Option Part} where
  pub tags-both : {p q : Part} {r : Bool} {a b : List ℕ} → x ≡ Some p → y ≡ Some q → a ≡ part_of first p → b ≡ part_of second q → r ≡ same_bytes a b
      → r ≡ same_tag (optional_of first x) (optional_of second y)
  unfolding same_tag optional_of
  tags-both h g e f s = rw (h, g, ← e, ← f) s

  pub tags-first : {p : Part} → x ≡ Some p → y ≡ None → false ≡ same_tag (optional_of first x) (optional_of second y)
  unfolding same_tag optional_of
  tags-first h g = rw (h, g)

  pub tags-second : {q : Part} → x ≡ None → y ≡ Some q → false ≡ same_tag (optional_of first x) (optional_of second y)
  unfolding same_tag optional_of
  tags-second h g = rw (h, g)

  pub tags-neither : x ≡ None → y ≡ None → true ≡ same_tag (optional_of first x) (optional_of second y)
  unfolding same_tag optional_of
  tags-neither h g = rw (h, g)

-- the four tests one after the other
pub entries-go : (first second : List ℕ) (x y : FieldEntry) {found a b c r : Change} {shut same tags : Bool}
    → Goes found (breach_if (not (eqb x.head.kind y.head.kind)) kind_differs x.number y.number) a
    → shut ≡ closes x.head.opened y.head.opened
    → Goes a (breach_if shut mark_closes x.number y.number) b
    → same ≡ same_mark x.head.items y.head.items
    → Goes b (breach_if (not same) items_differ x.number y.number) c
    → tags ≡ same_tag (optional_of first x.head.tag) (optional_of second y.head.tag)
    → Goes c (breach_if (not tags) tag_differs x.number y.number) r
    → Goes found (entry_differences first x second y) r
unfolding entry_differences
entries-go first second x y p h q k s l t = rw (← h, ← k, ← l) (goes-both p (goes-both q (goes-both s t)))

-- where they say no breach, both have an element or neither

same-marks : (b b' : Bool) → not (same_mark b b') ≡ false → b ≡ b'
unfolding same_mark
same-marks false false e = refl
same-marks false true e = sym e
same-marks true false e = e
same-marks true true e = refl

third-breachless : (d₁ d₂ d₃ d₄ : List Difference) → Breachless (d₁ ++ (d₂ ++ (d₃ ++ d₄))) → Breachless d₃
third-breachless d₁ d₂ d₃ d₄ h = open-before d₃ d₄ (open-behind d₂ (d₃ ++ d₄) (open-behind d₁ (d₂ ++ (d₃ ++ d₄)) h))

pub entries-marked : (first second : List ℕ) (x y : FieldEntry) {found r : Change} → Goes found (entry_differences first x second y) r → is_open_yet r ≡ true → x.head.items ≡ y.head.items
unfolding entry_differences
entries-marked first second x y g o =
    let same = same_mark x.head.items y.head.items in
    same-marks x.head.items y.head.items
    (open-breachless (not same) items_differ x.number y.number
    (third-breachless (breach_if (not (eqb x.head.kind y.head.kind)) kind_differs x.number y.number)
    (breach_if (closes x.head.opened y.head.opened) mark_closes x.number y.number)
    (breach_if (not same) items_differ x.number y.number)
    (breach_if (not (same_tag (optional_of first x.head.tag) (optional_of second y.head.tag))) tag_differs x.number y.number)
    (open-found g o)))

-- the trees

marks-agree : (i i' : Items) → same_mark (has_items i) (has_items i') ≡ same_items_mark i i'
unfolding same_mark has_items same_items_mark
marks-agree absent absent = refl
marks-agree absent (element f') = refl
marks-agree (element f) absent = refl
marks-agree (element f) (element f') = refl

pub entries-own : (first second : List ℕ) (x y : FieldEntry) (i i' : Items) (m m' : Members) → has_items i ≡ x.head.items → has_items i' ≡ y.head.items
    → entry_differences first x second y
    ≡ own_differences (field x.number x.head.kind x.head.opened (optional_of first x.head.tag) i m)
    (field y.number y.head.kind y.head.opened (optional_of second y.head.tag) i' m')
unfolding entry_differences own_differences
entries-own first second x y i i' m m' e e' = rw (← e, ← e', marks-agree i i')
