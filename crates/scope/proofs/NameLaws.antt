-- The nine names, and the rows of the table.
use Rattle.std.specs.Prelude.{Option, Some, None}
use Prim.Native.Nat.{ℕ, ◌+◌, ◌<◌, ◌≤◌}
use native.Mathlib.Numerals.{add-one}
use mathlib.Core.Bool.{Bool, true, false, not}
use mathlib.Core.List.{List, [], ◌∷◌}
use mathlib.Core.Option.{none, some}
use mathlib.Core.Path.{◌≡◌, refl, sym, ◌∙◌}
use lib.ListN.{length, drop, get_or, drop_of_length-le}
use lib.Seq.{drop-cons}
use borrow.Author.Tests.{eq-eqb, ne_eqb}
use Rattle.text.specs.Ascii.{ascii}
use Rattle.text.specs.Order.{same_bytes}
use Rattle.text.specs.OrderLaws.{same_bytes-equal}
use Rattle.reference.specs.Setting as Setting
use Rattle.reference.specs.Setting.{spelling, named, name_of, one_of, stock}
use Rattle.reference.specs.Table as Table
use Rattle.reference.specs.Table.{stock_row}
use Rattle.scope.specs.Names.{name_is, row_by, may_read_by, NamedIs, other_names, OtherIs}
use Rattle.scope.specs.declared.name.Row.{Row}
use Rattle.scope.specs.declared.name.Name.{Name}
use Rattle.scope.specs.declared.name.Name.TheVariants.{Id, Entity, Version, Fields, State, ToState, FromState, Args, OldFields}

-- Spellings, one after the other

pub skip : (n : Setting.Name) (ns : List Setting.Name) (t : List ℕ) (b : Bool) → b ≡ same_bytes (spelling n) t → b ≡ false → named (n ∷ ns) t ≡ named ns t
unfolding named
skip n ns t b p q = rw (sym p ∙ q)

pub hit : (n : Setting.Name) (ns : List Setting.Name) (t : List ℕ) (b : Bool) → b ≡ same_bytes (spelling n) t → b ≡ true → named (n ∷ ns) t ≡ some n
unfolding named
hit n ns t b p q = rw (sym p ∙ q)

pub no_more : (t : List ℕ) → named [] t ≡ none
unfolding named
no_more t = refl

-- `fields` before all others

pub named-fields : (t : List ℕ) (b : Bool) → b ≡ same_bytes (spelling Setting.fields) t → b ≡ true → name_of t ≡ some Setting.fields
unfolding name_of named spelling ascii same_bytes
named-fields t b p q = rw (sym (same_bytes-equal (spelling Setting.fields) t (sym p ∙ q)))

without-fields : (t : List ℕ) (b : Bool) → b ≡ same_bytes (spelling Setting.fields) t → b ≡ false → name_of t ≡ named other_names t
unfolding name_of named
without-fields t b p q = rw (sym p ∙ q)

pub named_other : (t : List ℕ) (b : Bool) → b ≡ same_bytes (spelling Setting.fields) t → b ≡ false → (r : Option Name) → OtherIs t r → NamedIs t r
named_other t b p q (Some n) o = without-fields t b p q ∙ o
named_other t b p q None o = without-fields t b p q ∙ o

-- One of some kinds

abbrev pub SoFar : ℕ → List ℕ → ℕ → Type 0
SoFar kind kinds i = one_of kind kinds ≡ one_of kind (drop i kinds)

pub one_found : (kind : ℕ) (kinds : List ℕ) (i : ℕ) → SoFar kind kinds i → i < length kinds → kind ≡ get_or kinds i 0 → true ≡ one_of kind kinds
unfolding one_of
one_found kind kinds i h less e = sym (h ∙ rw (drop-cons kinds i 0, eq-eqb kind (get_or kinds i 0) e))

pub one-passed : (kind : ℕ) (kinds : List ℕ) (i : ℕ) → SoFar kind kinds i → i < length kinds → (kind ≡ get_or kinds i 0 → ⊥) → SoFar kind kinds (i + 1)
unfolding one_of
one-passed kind kinds i h less other = h ∙ rw (add-one, drop-cons kinds i 0, ne_eqb kind (get_or kinds i 0) other)

pub one_none : (kind : ℕ) (kinds : List ℕ) (i : ℕ) → SoFar kind kinds i → length kinds ≤ i → false ≡ one_of kind kinds
unfolding one_of
one_none kind kinds i h end = sym (h ∙ rw (drop_of_length-le kinds end))

-- A row of the table

module _ (kind : ℕ) {f s t d a o : Bool}
    (fields-so : f ≡ one_of kind (6 ∷ 7 ∷ []))
    (state-so : s ≡ one_of kind (2 ∷ 5 ∷ 6 ∷ []))
    (target-so : t ≡ one_of kind (1 ∷ 5 ∷ 6 ∷ []))
    (source-so : d ≡ one_of kind (2 ∷ 4 ∷ 5 ∷ []))
    (args-so : a ≡ one_of kind (2 ∷ 4 ∷ 5 ∷ 6 ∷ 7 ∷ 8 ∷ []))
    (old-so : o ≡ one_of kind (2 ∷ 4 ∷ []))
  where
    abbrev stock-marks : Row
    stock-marks = record { id = true; entity = true; version = true; fields = not f; state = not s; target = not t; source = d; args = a; old = o }

    pub stock-row-is : row_by stock-marks ≡ stock_row kind
    unfolding row_by stock_row stock
    stock-row-is = λ i.
        record {
          id = true;
          entity = true;
          version = true;
          fields = not (fields-so i);
          state = not (state-so i);
          to_state = not (target-so i);
          from_state = source-so i;
          args = args-so i;
          old_fields = old-so i;
        }

module _ (row : Row) (name : Name) where
  pub read-id : name ≡ Id → row.id ≡ may_read_by row (name_is name)
  unfolding Table.may_read_by row_by name_is
  read-id e = rw e

  pub read-entity : name ≡ Entity → row.entity ≡ may_read_by row (name_is name)
  unfolding Table.may_read_by row_by name_is
  read-entity e = rw e

  pub read-version : name ≡ Version → row.version ≡ may_read_by row (name_is name)
  unfolding Table.may_read_by row_by name_is
  read-version e = rw e

  pub read-fields : name ≡ Fields → row.fields ≡ may_read_by row (name_is name)
  unfolding Table.may_read_by row_by name_is
  read-fields e = rw e

  pub read-state : name ≡ State → row.state ≡ may_read_by row (name_is name)
  unfolding Table.may_read_by row_by name_is
  read-state e = rw e

  pub read-to-state : name ≡ ToState → row.target ≡ may_read_by row (name_is name)
  unfolding Table.may_read_by row_by name_is
  read-to-state e = rw e

  pub read-from-state : name ≡ FromState → row.source ≡ may_read_by row (name_is name)
  unfolding Table.may_read_by row_by name_is
  read-from-state e = rw e

  pub read-args : name ≡ Args → row.args ≡ may_read_by row (name_is name)
  unfolding Table.may_read_by row_by name_is
  read-args e = rw e

  pub read-old-fields : name ≡ OldFields → row.old ≡ may_read_by row (name_is name)
  unfolding Table.may_read_by row_by name_is
  read-old-fields e = rw e
