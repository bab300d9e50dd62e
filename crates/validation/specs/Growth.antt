-- One rule or template checked against a schema and against a widening of it.
use Rattle.std.specs.Prelude.{ℕ, List, ◌≡◌, length}
use Rattle.std.proofs.Math.Option.{some}
use Rattle.std.proofs.lemmas.List.Edits.{sets}
use Rattle.definition.specs.Tree.{Schema}
use Rattle.definition.specs.Decode.{decode_schema}
use Rattle.widening.specs.Widening.{Level, WiderSchema}
use Rattle.validation.specs.Result.{Takes, Lent, Call, Run, Defect}

-- the same rule or template under the same settings, against another schema, with another table and other buffers
unfoldable pub against : Call → (table schema : List ℕ) → Lent → Call
against c table schema lent = record { asked = c.asked; table = table; schema = schema; lent = lent }

-- the same, asked of a function that takes these rule sheets
unfoldable pub against_by : Takes → Call → (table schema : List ℕ) → Lent → Call
against_by takes c table schema lent =
    record {
      asked =
          record {
            takes = takes;
            kind = c.asked.kind;
            semantics = c.asked.semantics;
            label = c.asked.label;
            rule = c.asked.rule;
          };
      table = table;
      schema = schema;
      lent = lent;
    }

-- the schema of the second sheet is a widening of the first one's
pub record Widens (l : Level) (sheet sheet' : List ℕ) : Type 0 where
  pub first : Schema
  pub second : Schema
  pub decodes_first : decode_schema sheet ≡ some first
  pub decodes_second : decode_schema sheet' ≡ some second
  pub is_wider : WiderSchema l first second

-- the run wrote that path to the start of its buffer, kept all other bytes, and says how long the path is; that every path has room
-- in a buffer that is not refused is a law of crate `defect_path`
pub record Writes (path : List ℕ) (r : Run) : Type 0 where
  pub bytes : r.path ≡ sets r.path_before 0 path
  pub size : r.result.path_length ≡ length path

-- what two callers see of the same defect
pub record SameFinding (r r' : Run) : Type 0 where
  pub number : r'.result.number ≡ r.result.number
  pub family : r'.result.family ≡ r.result.family
  pub path : (p : List ℕ) × Writes p r × Writes p r'
  pub place : r'.result.place ≡ r.result.place
  pub over_place : r'.result.over_place ≡ r.result.over_place

-- the same number, family, path, place and over place
pub record SameDefect (d d' : Defect) : Type 0 where
  pub number : d'.number ≡ d.number
  pub family : d'.family ≡ d.family
  pub path : d'.path ≡ d.path
  pub place : d'.place ≡ d.place
  pub over_place : d'.over_place ≡ d.over_place
