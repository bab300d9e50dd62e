-- The file that the program `rulecheck` reads (docs/FORMAT.md, "The program `rulecheck`").
use Rattle.std.specs.Prelude.{ℕ, cond, List, [], ◌∷◌, length, leb}
use Rattle.std.proofs.Math.Option.{Option, none, some, map}
use Rattle.text.specs.Reader.{Reader, ◌>>=◌, ◌>>◌, pure}
use Rattle.text.specs.Numeral.{decimal}
use Rattle.text.specs.ByteReaders.{comma, line_end, bytes}

-- a file has at most this many bytes
abbrev pub max_file : ℕ
max_file = 65536

pub record Parts : Type 0 where
  pub kind : ℕ
  pub semantics : ℕ
  pub label : List ℕ
  pub schema : List ℕ
  pub rule : List ℕ

-- a numeral of any length, and the comma after it
unfoldable pub field : Reader (List ℕ) ℕ
field = do
  n ← decimal
  comma
  pure n

-- nothing lies ahead
unfoldable pub end : Reader (List ℕ) (Unit {0})
end [] = some (tt, [])
end (b ∷ s) = none

-- the texts after the numbers: the label, which ends the first line, and both sheets
unfoldable pub texts : (kind semantics label_bytes schema_bytes rule_bytes : ℕ) → Reader (List ℕ) Parts
texts kind semantics label_bytes schema_bytes rule_bytes = do
  label ← bytes label_bytes
  line_end
  schema ← bytes schema_bytes
  rule ← bytes rule_bytes
  end
  pure (record { kind = kind; semantics = semantics; label = label; schema = schema; rule = rule })

unfoldable pub whole_file : Reader (List ℕ) Parts
whole_file = do
  kind ← field
  semantics ← field
  label_bytes ← field
  schema_bytes ← field
  rule_bytes ← field
  texts kind semantics label_bytes schema_bytes rule_bytes

-- the parts of a file, or none where it is too long or of another form
unfoldable pub taken_apart : List ℕ → Option Parts
taken_apart file = cond (leb (length file) max_file) (map (λ (r : Parts × List ℕ). r.0) (whole_file file)) none
