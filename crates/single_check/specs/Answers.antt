-- The answer about two sheets, by their indexes: the numbers and the path of what the check list says.
use Rattle.std.specs.Prelude.{ℕ, ◌<◌, ◌≤◌, List, ◌≡◌, length}
use Rattle.definition.specs.Limits.{max_sheet_bytes}
use Rattle.definition.specs.Tree as Tree
use Rattle.definition.specs.Tree.{Rule}
use Rattle.definition.specs.Within.{RuleWithin}
use Rattle.reference.specs.Setting.{Setting}
use Rattle.schema.specs.Read.{SchemaAt}
use Rattle.schema.specs.declared.read.Schema.{Schema}
use Rattle.rule.specs.Index.{RuleAt}
use Rattle.validation.specs.Result.{Answer, checked, numbers_of, path_after, max_label_bytes, path_bytes}
use Rattle.single_check.specs.Outcomes.{numbers_by}
use Rattle.single_check.specs.declared.outcome.Outcome.{Outcome}

pub record Narrow (n r : ℕ) : Type 0 where
  pub same : n < 4294967296 → r ≡ n

pub record Tells (a : Answer) (before after : List ℕ) (r : Outcome) : Type 0 where
  pub result : numbers_by r ≡ numbers_of a
  pub path : after ≡ path_after a before

-- for every schema and rule that the indexes stand for
pub record Answered (setting : Setting) (label schema sheet : List ℕ) (s : Schema) (words before after : List ℕ) (r : Outcome) : Type 0 where
  pub tells : (t : Tree.Schema) (x : Rule)
      → SchemaAt schema words s t
      → RuleAt sheet words x
      → RuleWithin x
      → length sheet ≤ max_sheet_bytes
      → length label ≤ max_label_bytes
      → path_bytes ≤ length before
      → Tells (checked setting label t x) before after r
