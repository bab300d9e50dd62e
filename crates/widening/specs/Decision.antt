-- Whether the second of two schemas is a widening of the first (docs/FORMAT.md, "Widening"), decided: all that differs between them is listed, in
-- the order of the first sheet, and the first breach in that list is the reason why it is not one. DecisionLaws says that this is the relation of Widening.
use Rattle.std.specs.Prelude.{ℕ, Bool, true, false, not, cond, ◌&&◌, List, [], ◌∷◌, ◌++◌, eqb}
use Rattle.std.proofs.Math.Option.{Option, none, some}
use Rattle.text.specs.Order.{precedes, same_bytes}
use Rattle.definition.specs.Tree.{Text, Field, field, Items, absent, element, Members, no_members, member, Holder, Schema}
use Rattle.reference.specs.Walk.{entry_of}
use Rattle.widening.specs.Widening.{Level, marks, anything}

-- why a schema is not a widening
pub data Reason : Type 0 where
  field_missing kind_differs items_differ tag_differs mark_closes field_added arguments_go : Reason

-- Open marks that go from 0 to 1 are not a difference.
pub data Difference : Type 0 where
  -- one more field, or arguments that appear, where a widening may have them
  growth : Difference
  -- what no widening has, with its entry in each sheet, 0 where there is none
  breach : Reason → (first second : ℕ) → Difference

unfoldable pub breach_if : Bool → Reason → (first second : ℕ) → List Difference
breach_if b why e e' = cond b (breach why e e' ∷ []) []

unfoldable pub same_tag : Option Text → Option Text → Bool
same_tag none none = true
same_tag none (some t') = false
same_tag (some t) none = false
same_tag (some t) (some t') = same_bytes t t'

unfoldable pub same_items_mark : Items → Items → Bool
same_items_mark absent absent = true
same_items_mark absent (element f') = false
same_items_mark (element f) absent = false
same_items_mark (element f) (element f') = true

-- an open mark that goes from 1 to 0
unfoldable pub closes : Bool → Bool → Bool
closes o o' = o && not o'

-- what the entries of two fields say themselves, mark by mark as an entry has them
unfoldable pub own_differences : Field → Field → List Difference
own_differences (field e kind o tag items ms) (field e' kind' o' tag' items' members') =
    breach_if (not (eqb kind kind')) kind_differs e e'
    ++ (breach_if (closes o o') mark_closes e e'
    ++ (breach_if (not (same_items_mark items items')) items_differ e e'
    ++ breach_if (not (same_tag tag tag')) tag_differs e e'))

-- a field that the first schema lacks, under a holder with that open mark there
unfoldable pub added : Bool → Field → Difference
added o f' = cond o (breach field_added 0 (entry_of f')) growth

unfoldable pub all_added : Bool → Members → List Difference
all_added o no_members = []
all_added o (member name f' others') = added o f' ∷ all_added o others'

unfoldable pub missing : Field → Difference
missing f = breach field_missing (entry_of f) 0

-- A field of the first schema is sought among those of the second. Names rise, so those that precede its name are added ones, and the next one is
-- the field, or it is missing. The two functions say what differs after it: once it is found, with what follows it, and once it is missing, with what is left.
unfoldable pub sought : Bool → Text → Field → (Field → Members → List Difference) → (Members → List Difference) → Members → List Difference
sought o name f found lost no_members = missing f ∷ lost no_members
sought o name f found lost (member name' f' others') =
    let further = sought o name f found lost others' in
    let here = found f' others' in
    let behind = lost (member name' f' others') in
    cond (precedes name' name) (added o f' ∷ further) (cond (same_bytes name name') here (missing f ∷ behind))

-- First what a field's entry says, then its element, then its properties in the order of their names.
unfoldable mutual
  pub field_differences : Field → Field → List Difference
  field_differences (field e kind o tag items ms) (field e' kind' o' tag' items' members') =
      own_differences (field e kind o tag items ms) (field e' kind' o' tag' items' members')
      ++ (items_differences items items' ++ members_differences o ms members')

  -- that only one of the two is there shows in the items marks
  pub items_differences : Items → Items → List Difference
  items_differences absent items' = []
  items_differences (element f) absent = []
  items_differences (element f) (element f') = field_differences f f'

  -- the members of a holder with that open mark in the first schema
  pub members_differences : Bool → Members → Members → List Difference
  members_differences o no_members members' = all_added o members'
  members_differences o (member name f others) members' =
      sought o name f
      (λ f' others'. field_differences f f' ++ members_differences o others others')
      (λ left. members_differences o others left)
      members'

-- First what the sheet's head says, entry 1: the record's mark, then of the arguments. Then the record's fields, then those of the arguments.

unfoldable pub arguments_marks : Option Holder → Option Holder → List Difference
arguments_marks none none = []
arguments_marks none (some h') = growth ∷ []
arguments_marks (some h) none = breach arguments_go 1 0 ∷ []
arguments_marks (some h) (some h') = breach_if (closes h.is_open h'.is_open) mark_closes 1 1

unfoldable pub arguments_differences : Option Holder → Option Holder → List Difference
arguments_differences none x' = []
arguments_differences (some h) none = []
arguments_differences (some h) (some h') = members_differences h.is_open h.members h'.members

unfoldable pub differences : Schema → Schema → List Difference
differences s s' =
    breach_if (closes s.fields.is_open s'.fields.is_open) mark_closes 1 1
    ++ (arguments_marks s.arguments s'.arguments
    ++ (members_differences s.fields.is_open s.fields.members s'.fields.members
    ++ arguments_differences s.arguments s'.arguments))

-- a widening in which no more than that differs, or none, with the reason and its entry in each sheet
pub data Decision : Type 0 where
  widening : Level → Decision
  refuted : Reason → (first second : ℕ) → Decision

unfoldable pub with_growth : Decision → Decision
with_growth (widening l) = widening anything
with_growth (refuted why e e') = refuted why e e'

unfoldable pub decided : List Difference → Decision
decided [] = widening marks
decided (growth ∷ others) = with_growth (decided others)
decided (breach why e e' ∷ others) = refuted why e e'

unfoldable pub widens : Schema → Schema → Decision
widens first second = decided (differences first second)
