-- What reading a whole rule sheet answers: what the decoder answers on the same bytes, and the index of its tree.
use Rattle.std.specs.Prelude.{ℕ, ◌≤◌, Bool, true, false, List, ◌≡◌, Option, Some, None}
use Rattle.std.proofs.Math.Option.{none, some}
use Rattle.sheet.specs.declared.rule_heads.RuleHead.{RuleHead}
use Rattle.sheet.specs.declared.rule_heads.RuleHead.TheVariants as rule-head
use Rattle.definition.specs.Limits.{max_rule_entries, max_condition_nesting, max_value_nesting}
use Rattle.definition.specs.Tree.{Rule, rule, template}
use Rattle.definition.specs.Decode.{decode_rule}
use Rattle.definition.specs.Within.{rule_entries}
use Rattle.rule.specs.declared.cursor.Cursor.{Cursor}
use Rattle.rule.specs.declared.RuleSheet.{RuleSheet}
use Rattle.rule.specs.Index.{RuleAt}
use Rattle.rule.specs.Read.{Kept, ConditionAnswer, ValueAnswer}

unfoldable pub is_template : Rule → Bool
is_template (rule name message assert) = false
is_template (template v) = true

abbrev pub is_template_head : RuleHead → Bool
is_template_head (rule-head.Rule name message) = false
is_template_head rule-head.Template = true

-- after the first entry
abbrev pub TreeAnswer : (s before after : List ℕ) (is_template : Bool) (c : Cursor) → Option Cursor → Type 0
TreeAnswer s before after true c r = ValueAnswer s before after max_value_nesting c r
TreeAnswer s before after false c r = ConditionAnswer s before after max_condition_nesting c r

pub record RuleIndexed (s before after : List ℕ) (r : RuleSheet) : Type 0 where
  pub tree : Rule
  pub reads : decode_rule s ≡ some tree
  pub indexed : RuleAt s after tree
  pub kind : r.is_template ≡ is_template tree
  pub size : r.entries ≡ rule_entries tree
  pub within : r.entries ≤ max_rule_entries
  pub kept : Kept before after 0 max_rule_entries

abbrev pub RuleAnswer : (s before after : List ℕ) → Option RuleSheet → Type 0
RuleAnswer s before after (Some r) = RuleIndexed s before after r
RuleAnswer s before after None = (decode_rule s ≡ none) × Kept before after 0 max_rule_entries
