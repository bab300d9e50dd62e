-- One rule sheet under a schema that has been read: its answer, and what is left of the scratch.
use Rattle.std.specs.Prelude.{ℕ, ◌≤◌, Bool, true, not, cond, List, ◌≡◌, length, get_or, Option as Optional, Some, None}
use Rattle.std.proofs.Math.Option.{Option, none, some}
use Rattle.definition.specs.Limits.{max_rule_entries}
use Rattle.definition.specs.Tree.{Rule}
use Rattle.definition.specs.Decode.{decode_schema, decode_rule}
use Rattle.reference.specs.Setting.{Setting}
use Rattle.schema.specs.Read.{SchemaIs}
use Rattle.rule.specs.Index.{RuleAt}
use Rattle.rule.specs.Read.{Kept}
use Rattle.validation.specs.Result as Result
use Rattle.validation.specs.Result.{Answer, max_label_bytes, path_bytes, scratch_words, is_taken, judged}
use Rattle.single_check.specs.Answers.{Tells}
use Rattle.single_check.specs.declared.sheets.Takes.{Takes}
use Rattle.single_check.specs.declared.sheets.Takes.TheVariants.{Any, Rules, Templates}
use Rattle.single_check.specs.declared.outcome.Outcome.{Outcome}
use Rattle.schema.specs.declared.read.Schema.{Schema}

unfoldable pub takes_of : Takes → Result.Takes
takes_of Any = Result.any
takes_of Rules = Result.rules
takes_of Templates = Result.templates

-- whether a rule or a template is let in
unfoldable pub is_let_in : Takes → (is_template : Bool) → Bool
is_let_in Any b = true
is_let_in Rules b = not b
is_let_in Templates b = b

-- a rule or template that is not taken counts as none
unfoldable pub taken_of : Result.Takes → Option Rule → Option Rule
taken_of takes none = none
taken_of takes (some x) = cond (is_taken takes (some x)) (some x) none

-- what the sheets and the check list say, where nothing was refused before
unfoldable pub sheet_answer : Result.Takes → Setting → (label schema sheet : List ℕ) → Answer
sheet_answer takes setting label schema sheet = judged setting label (decode_schema schema) (taken_of takes (decode_rule sheet))

-- no word past the first 4,096 has changed
pub record FrontOnly (before after : List ℕ) : Type 0 where
  pub size : length after ≡ length before
  pub kept : (i : ℕ) → scratch_words ≤ i → get_or after i 0 ≡ get_or before i 0

-- where the schema was read, the rule's index is in the words
abbrev pub RuleStands : Optional Schema → (sheet words : List ℕ) → Type 0
RuleStands None sheet words = Unit {0}
RuleStands (Some s) sheet words = (x : Rule) → decode_rule sheet ≡ some x → RuleAt sheet words x

-- A check of one sheet. What reading the schema answered and left in the scratch is taken as it is, and stays for the next sheet.
pub record SheetChecked (takes : Takes) (setting : Setting) (label schema : List ℕ) (read : Optional Schema) (sheet path_before path before after : List ℕ) (r : Outcome) : Type 0 where
  -- only the rule's own words have changed
  pub kept : Kept before after 0 max_rule_entries
  pub stands : RuleStands read sheet after
  pub tells : SchemaIs schema before read
      → length label ≤ max_label_bytes
      → path_bytes ≤ length path_before
      → Tells (sheet_answer (takes_of takes) setting label schema sheet) path_before path r
