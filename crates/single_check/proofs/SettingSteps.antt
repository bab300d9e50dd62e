-- What is refused before a sheet is read, test by test, and what a check is set to.
use Prim.Native.Nat.{ℕ, ◌≤◌, ◌<◌}
use mathlib.Core.Bool.{Bool, true, false, not, ◌&&◌}
use mathlib.Core.List.{List, [], ◌∷◌}
use mathlib.Core.Option.{none, some}
use mathlib.Core.Path.{◌≡◌, refl, sym, ap, ◌∙◌}
use lib.Dec.{leb, eqb}
use lib.ListN.{length}
use borrow.Author.Tests.{le-leb, lt-leb}
use Rattle.text.specs.Utf8.{between, is_utf8}
use Rattle.reference.specs.Setting as Reference
use Rattle.reference.specs.Setting.{one_of, kernel}
use Rattle.reference.specs.Table.{table_in, setting_under, or_stock, is_sound_table}
use Rattle.scope.specs.Names.{may_read_by}
use Rattle.scope.specs.declared.name.Row.{Row}
use Rattle.validation.specs.Check.{is_none}
use Rattle.validation.specs.Result.{max_label_bytes, path_bytes, scratch_words, of_table, of_settings, first_refusal}
use Rattle.validation.proofs.RefusalLaws.{number-due, number-later, none_left}
use Rattle.name_table.specs.Tables.{HasRow}
use Rattle.single_check.specs.Settings.{EarlyIs, setting_by, setting_in}

pub and-le : {a b : ℕ} {q r : Bool} → a ≤ b → r ≡ q → r ≡ (leb a b && q)
and-le {a} {b} h e = rw (le-leb a b h) e

pub and_lt : {a b : ℕ} (q : Bool) → b < a → leb a b ≡ (leb a b && q)
and_lt {a} {b} q h = rw (lt-leb a b h)

pub turned : {x y b : Bool} → x ≡ y → not x ≡ b → not y ≡ b
turned e f = ap not (sym e) ∙ f

module _ (kind semantics : ℕ) (label : List ℕ) (path scratch : ℕ) {x : Bool} (settings : x ≡ (between 1 8 kind && between 1 4 semantics)) where
  pub refusal-1 : not x ≡ true → EarlyIs kind semantics label path scratch 1
  unfolding of_settings
  refusal-1 f = record { first = λ takes rule. number-due _ _ (turned settings f) }

  module _ (f : not x ≡ false) {y : Bool} (labelled : y ≡ (leb (length label) max_label_bytes && is_utf8 label)) where
    pub refusal-2 : not y ≡ true → EarlyIs kind semantics label path scratch 2
    unfolding of_settings
    refusal-2 g =
        record { first = λ takes rule. number-later _ _ (turned settings f) (number-due _ _ (turned labelled g)) }

    module _ (g : not y ≡ false) {z : Bool} (room : z ≡ (leb path_bytes path && leb scratch_words scratch)) where
      pub refusal-3 : z ≡ false → EarlyIs kind semantics label path scratch 3
      unfolding of_settings
      refusal-3 h =
          record {
            first = λ takes rule.
                number-later _ _ (turned settings f)
                (number-later _ _ (turned labelled g) (number-due _ _ (turned room (ap not h))));
          }

      pub refusal-none : z ≡ true → EarlyIs kind semantics label path scratch 0
      unfolding of_settings
      refusal-none h =
          record {
            first = λ takes rule.
                number-later _ _ (turned settings f)
                (number-later _ _ (turned labelled g) (number-later _ _ (turned room (ap not h)) none_left));
          }

pub setting-is : (kind semantics : ℕ) (row : Row) {is_rule : Bool}
    → is_rule ≡ one_of kind (1 ∷ 2 ∷ 5 ∷ 6 ∷ [])
    → setting_by (record { row = row; rule_kind = is_rule; service = not (eqb semantics 1) }) ≡ setting_in row kind semantics
setting-is kind semantics row is_rule = λ i.
    record { may_read = may_read_by row; reader = kernel; is_rule_kind = is_rule i; is_service = not (eqb semantics 1) }

-- What a table that was read sets a check to.
module _ (kind semantics : ℕ) (table : List ℕ) where
  pub table-bad : table_in table ≡ none → first_refusal (of_table table) ≡ some 37
  unfolding first_refusal is_none
  table-bad e = rw e

  module _ {row : Row} {sound : Bool} (has : HasRow (table_in table) kind row sound) where
    pub table-unsound : sound ≡ false → first_refusal (of_table table) ≡ some 38
    unfolding first_refusal is_none is_sound_table
    table-unsound e = rw (has.reads, ← has.is_sound, e)

    pub table-sets : (s : Reference.Setting) → sound ≡ true → s ≡ setting_in row kind semantics
        → (first_refusal (of_table table) ≡ none) × (s ≡ setting_under (or_stock (table_in table)) kind semantics)
    unfolding first_refusal is_none is_sound_table or_stock setting_under
    table-sets s e set_so =
        (rw (has.reads, ← has.is_sound, e), set_so ∙ rw (has.reads, ← has.row) refl)
