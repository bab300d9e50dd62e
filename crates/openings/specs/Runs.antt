-- A call of the code as a run of the definitions, and what its parts leave.
use Rattle.std.specs.Prelude.{ℕ, List, [], ◌∷◌, ◌≡◌, length, replicate}
use Rattle.std.proofs.Math.Option.{Option, none, some}
use Rattle.definition.specs.Tree as Tree
use Rattle.definition.specs.Tree.{Rule}
use Rattle.definition.specs.Decode.{decode_schema, decode_rule}
use Rattle.reference.specs.Setting.{Setting}
use Rattle.schema.specs.declared.read.Schema.{Schema}
use Rattle.validation.specs.Openings.{max_marks, fewest_marks}
use Rattle.call.specs.Call.{Reply, refused_by, told, Leaves, free_if_told, Run}
use Rattle.validation.specs.Result.{path_bytes}
use Rattle.single_check.specs.Sheets.{FrontOnly}
use Rattle.openings.specs.Call.{OpenCall, open_numbers, list_left}
use Rattle.openings.specs.Rounds.{Stands}

-- what the sheets decide, where nothing was refused before
unfoldable pub searched : Setting → Option Tree.Schema → Option Rule → Reply (Option (List ℕ))
searched setting none r = refused_by 4
searched setting (some t) none = refused_by 5
searched setting (some t) (some r) = told (fewest_marks setting t r)

-- the numbers and the list of an answer
pub record Answers (a : Reply (Option (List ℕ))) (list_before list r : List ℕ) : Type 0 where
  pub result : r ≡ open_numbers a
  pub written : Leaves (list_left a) list_before list

-- of the sheets whose indexes are in the scratch; no mark has been opened yet
pub record MarksListed (setting : Setting) (s : Schema) (rule sheet list_before list before after r : List ℕ) : Type 0 where
  pub front : FrontOnly before after
  pub answers : (t : Tree.Schema) (x : Rule)
      → Stands rule t x s sheet (replicate max_marks 0) before []
      → Answers (told (fewest_marks setting t x)) list_before list r

-- of two sheets
pub record SheetsOpened (setting : Setting) (schema rule path_before path list_before list before after r : List ℕ) : Type 0 where
  pub front : FrontOnly before after
  pub answers : Answers (searched setting (decode_schema schema) (decode_rule rule)) list_before list r
  pub kept : Leaves (free_if_told path_bytes (searched setting (decode_schema schema) (decode_rule rule))) path_before path

abbrev pub open_run_of : (kind semantics : ℕ) (table schema rule path_before list_before scratch_before r path list scratch : List ℕ) → Run OpenCall
open_run_of kind semantics table schema rule path_before list_before scratch_before r path list scratch =
    record {
      call =
          record {
            kind = kind;
            semantics = semantics;
            table = table;
            schema = schema;
            rule = rule;
            widths = record { path = length path_before; scratch = length scratch_before };
            list = length list_before;
          };
      result = r;
      buffers =
          record { before = path_before; after = path }
          ∷ record { before = list_before; after = list }
          ∷ record { before = scratch_before; after = scratch }
          ∷ [];
    }

-- the call of a run
abbrev pub open_call_of : (kind semantics : ℕ) (table schema rule path list scratch : List ℕ) → OpenCall
open_call_of kind semantics table schema rule path list scratch = (open_run_of kind semantics table schema rule path list scratch [] [] [] []).call
