-- Open marks gone from 0 to 1 (docs/FORMAT.md, "The fewest marks to open").
use Rattle.std.specs.Prelude.{ℕ, Bool, false, not, ◌&&◌, ◌||◌, List, [], ◌∷◌, eqb}
use Rattle.std.proofs.Math.Option.{Option, none, some}
use Rattle.definition.specs.Tree.{Field, field, Items, absent, element, Members, no_members, member, Holder, Schema}

unfoldable pub is_in : List ℕ → ℕ → Bool
is_in [] e = false
is_in (x ∷ xs) e = eqb x e || is_in xs e

-- the schema with the marks of those entries open as well
unfoldable mutual
  pub opened_field : (ℕ → Bool) → Field → Field
  opened_field may (field e kind is_open tag items ms) =
      field e kind (is_open || may e) tag (opened_items may items) (opened_members may ms)

  pub opened_items : (ℕ → Bool) → Items → Items
  opened_items may absent = absent
  opened_items may (element f) = element (opened_field may f)

  pub opened_members : (ℕ → Bool) → Members → Members
  opened_members may no_members = no_members
  opened_members may (member name f others) = member name (opened_field may f) (opened_members may others)

unfoldable pub opened_holder : (ℕ → Bool) → (at : ℕ) → Holder → Holder
opened_holder may at h = record { is_open = h.is_open || may at; members = opened_members may h.members }

unfoldable pub opened_arguments : (ℕ → Bool) → Option Holder → Option Holder
opened_arguments may none = none
opened_arguments may (some h) = some (opened_holder may 0 h)

-- 1 is the record's entry, and 0 stands for the arguments
unfoldable pub opened : (ℕ → Bool) → Schema → Schema
opened may t = record { fields = opened_holder may 1 t.fields; arguments = opened_arguments may t.arguments }

-- whether the entry has an open mark, and it is 0
unfoldable mutual
  pub closed_in_field : Field → ℕ → Bool
  closed_in_field (field n kind is_open tag items ms) e =
      (not is_open && eqb n e) || (closed_in_items items e || closed_in_members ms e)

  pub closed_in_items : Items → ℕ → Bool
  closed_in_items absent e = false
  closed_in_items (element f) e = closed_in_field f e

  pub closed_in_members : Members → ℕ → Bool
  closed_in_members no_members e = false
  closed_in_members (member name f others) e = closed_in_field f e || closed_in_members others e

unfoldable pub closed_in_holder : (at : ℕ) → Holder → ℕ → Bool
closed_in_holder at h e = (not h.is_open && eqb at e) || closed_in_members h.members e

unfoldable pub closed_in_arguments : Option Holder → ℕ → Bool
closed_in_arguments none e = false
closed_in_arguments (some h) e = closed_in_holder 0 h e

-- 1 and 0 as above
unfoldable pub is_closed : Schema → ℕ → Bool
is_closed t e = closed_in_holder 1 t.fields e || closed_in_arguments t.arguments e
