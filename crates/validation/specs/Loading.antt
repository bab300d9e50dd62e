-- Loading a name table into a lent buffer, which later calls are lent (docs/FORMAT.md, "The name table").
use Rattle.std.specs.Prelude.{ℕ, not, cond, ◌||◌, List, [], ◌∷◌, length, leb, eqb}
use Rattle.std.proofs.lemmas.List.Edits.{sets}
use Rattle.reference.specs.Table.{table_bytes, decode_table, is_sound_table}
use Rattle.validation.specs.Check.{is_none}
use Rattle.validation.specs.Result.{Refusal, first_refusal, number_in}

-- 37 for a table that is malformed or a buffer without room for it, then 38 for a mark that breaks one of the two conditions
unfoldable pub load_refusals : (table : List ℕ) (size : ℕ) → List Refusal
load_refusals table size =
    record { number = 37; is_due = is_none (decode_table table) || not (leb table_bytes size) }
    ∷ record { number = 38; is_due = not (is_sound_table (decode_table table)) }
    ∷ []

-- the number that is returned; 0 where the table is loaded
unfoldable pub load_number : (table : List ℕ) (size : ℕ) → ℕ
load_number table size = number_in (first_refusal (load_refusals table size))

-- the buffer after the call: the table lies at its start, and all other bytes keep their values, as all do under a refusal
unfoldable pub load_after : (table before : List ℕ) → List ℕ
load_after table before = cond (eqb (load_number table (length before)) 0) (sets before 0 table) before
