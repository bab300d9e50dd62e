-- The limits of the sheets (docs/FORMAT.md, "Sheets"). The text limit is with the entries that hold texts.
use Rattle.std.specs.Prelude.{ℕ}

abbrev pub max_sheet_bytes : ℕ
max_sheet_bytes = 30000

abbrev pub max_schema_entries : ℕ
max_schema_entries = 1024

abbrev pub max_rule_entries : ℕ
max_rule_entries = 2048

-- how deep fields, conditions and values nest, the outermost counting 1
abbrev pub max_field_nesting : ℕ
max_field_nesting = 64

abbrev pub max_condition_nesting : ℕ
max_condition_nesting = 256

abbrev pub max_value_nesting : ℕ
max_value_nesting = 64

-- a word of an index is where an entry starts, times this, and the number of an entry, which is below it
abbrev pub word_entries : ℕ
word_entries = 4096
