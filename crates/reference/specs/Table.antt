-- The name table (docs/FORMAT.md, "The name table"): which of the eight kinds may read which of the nine names. A table is written as eight
-- entries, one for each kind, each with nine marks in the order of the names.
use Rattle.std.specs.Prelude.{ℕ, zero, suc, ◌+◌, Bool, true, false, not, ◌&&◌, ◌||◌, List, [], ◌∷◌, map, take, get_or}
use Rattle.std.proofs.Math.Option.{Option, none, some}
use Rattle.text.specs.Reader.{Reader, ◌>>=◌, ◌>>◌, pure}
use Rattle.text.specs.ByteReaders.{letter, line_end}
use Rattle.sheet.specs.Entries.{item, mark}
use Rattle.reference.specs.Setting.{Name, id, entity, version, fields, state, to_state, from_state, args, old_fields, stock, Setting, setting_with}

-- the marks of one kind
pub record Row : Type 0 where
  pub id : Bool
  pub entity : Bool
  pub version : Bool
  pub fields : Bool
  pub state : Bool
  pub to_state : Bool
  pub from_state : Bool
  pub args : Bool
  pub old_fields : Bool

unfoldable pub may_read_by : Row → Name → Bool
may_read_by r id = r.id
may_read_by r entity = r.entity
may_read_by r version = r.version
may_read_by r fields = r.fields
may_read_by r state = r.state
may_read_by r to_state = r.to_state
may_read_by r from_state = r.from_state
may_read_by r args = r.args
may_read_by r old_fields = r.old_fields

-- nine marks, in the order of the names
unfoldable pub row_marks : Reader (List ℕ) Row
row_marks = do
  id' ← mark
  entity' ← mark
  version' ← mark
  fields' ← mark
  state' ← mark
  to_state' ← mark
  from_state' ← mark
  args' ← mark
  old_fields' ← mark
  pure (record { id = id'; entity = entity'; version = version'; fields = fields'; state = state'; to_state = to_state'; from_state = from_state'; args = args'; old_fields = old_fields' })

-- N,kind and nine marks
unfoldable pub table_entry : (kind : ℕ) → Reader (List ℕ) Row
table_entry kind = do
  letter "N"
  item kind kind
  row ← row_marks
  line_end
  pure row

-- the entries of so many kinds, from `kind` on
unfoldable pub rows : (count kind : ℕ) → Reader (List ℕ) (List Row)
rows zero kind = pure []
rows (suc n) kind = do
  row ← table_entry kind
  others ← rows n (kind + 1)
  pure (row ∷ others)

-- nothing follows the last
unfoldable pub alone : Option (List Row × List ℕ) → Option (List Row)
alone none = none
alone (some (table, [])) = some table
alone (some (table, b ∷ s)) = none

unfoldable pub decode_table : List ℕ → Option (List Row)
decode_table s = alone (rows 8 1 s)

-- `$id`, `$entity` and `$version` are read by every kind, and `$old_fields` only where `$fields` is
unfoldable pub is_sound : Row → Bool
is_sound r = r.id && (r.entity && (r.version && (not r.old_fields || r.fields)))

unfoldable pub are_sound : List Row → Bool
are_sound [] = true
are_sound (r ∷ rs) = is_sound r && are_sound rs

-- The table of a call that is lent none: what document 01 says of each kind.
unfoldable pub stock_row : (kind : ℕ) → Row
stock_row kind =
    record {
      id = stock kind id;
      entity = stock kind entity;
      version = stock kind version;
      fields = stock kind fields;
      state = stock kind state;
      to_state = stock kind to_state;
      from_state = stock kind from_state;
      args = stock kind args;
      old_fields = stock kind old_fields;
    }

unfoldable pub stock_table : List Row
stock_table = map stock_row (1 ∷ 2 ∷ 3 ∷ 4 ∷ 5 ∷ 6 ∷ 7 ∷ 8 ∷ [])

abbrev pub table_bytes : ℕ
table_bytes = 176

-- what a call is lent for a table: none, which is the stock table, or bytes of which the first 176 are looked at
unfoldable pub table_in : List ℕ → Option (List Row)
table_in [] = some stock_table
table_in (b ∷ s) = decode_table (take table_bytes (b ∷ s))

-- the row of a kind; a number that is not a kind has the stock row
unfoldable pub row_of : List Row → (kind : ℕ) → Row
row_of table kind = get_or (stock_row 0 ∷ table) kind (stock_row kind)

-- the setting of a call under a table
unfoldable pub setting_under : List Row → (kind semantics : ℕ) → Setting
setting_under table kind semantics = setting_with (may_read_by (row_of table kind)) kind semantics

-- where there is no table, nothing is checked: any row will do
unfoldable pub or_stock : Option (List Row) → List Row
or_stock none = stock_table
or_stock (some table) = table

-- both conditions hold of every row
unfoldable pub is_sound_table : Option (List Row) → Bool
is_sound_table none = false
is_sound_table (some table) = are_sound table
