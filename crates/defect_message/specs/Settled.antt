-- What is said of a check that no schema answers, laid into a buffer.
use Rattle.std.specs.Prelude.{ℕ, ◌+◌, ◌-◌, ◌≤◌, List, ◌++◌, true, ◌≡◌, drop}
use Rattle.std.proofs.Math.Option.{some, IsSome}
use Rattle.text.specs.Numeral.{decimal_of}
use Rattle.sheet.specs.Entries.{ConditionHead, quantifier_head, condition_head}
use Rattle.buffer.specs.Laid.{Laid}
use Rattle.definition.specs.Tree.{Text, Value, Condition, Rule, rule, template}
use Rattle.definition.specs.Within.{condition_entries}
use Rattle.json_rule.specs.AsJson.{json_of}
use Rattle.rule.specs.Index.{start_of, end_of, ValueAt, ConditionAt, RuleAt}
use Rattle.validation.specs.Check.{depth}
use Rattle.rule.specs.Kinds.{operator_in}
use Rattle.message.specs.Words.{in_quotes}
use Rattle.message.specs.Message.{value_at, depth_in, unescaped_at, instant_sentence, names_value, value_sentence, Head, head_of, names_head, head_sentence, settled_sentence}

-- the numbers of the checks that no schema answers
pub record IsSettled (n : ℕ) : Type 0 where
  pub low : 11 ≤ n
  pub high : n ≤ 21
  pub other : n ≡ 18 → ⊥

pub record QuantifierAt (sheet words : List ℕ) (i : ℕ) : Type 0 where
  pub op : ℕ
  pub bind : Text
  pub rest : List ℕ
  pub reads : condition_head (drop (start_of words i) sheet) ≡ some (quantifier_head op bind, rest)

-- a value, and words after it
pub record ValueLaid (rule words : List ℕ) (i : ℕ) (behind : Text) (before after : List ℕ) (o next : ℕ) : Type 0 where
  pub lays : (v : Value) → ValueAt rule words i v → Laid before after o (json_of v ++ behind) next

pub record UnescapedLaid (rule words : List ℕ) (i : ℕ) (before after : List ℕ) (o next : ℕ) : Type 0 where
  pub lays : (v : Value) → ValueAt rule words i v → Laid before after o (in_quotes (unescaped_at (some v))) next

pub record InstantLaid (rule words : List ℕ) (detail i : ℕ) (before after : List ℕ) (o next : ℕ) : Type 0 where
  pub lays : (v : Value) → ValueAt rule words i v → Laid before after o (instant_sentence detail (some v)) next

-- 14, 19 and 20
pub record ValuedLaid (rule words : List ℕ) (number detail i : ℕ) (before after : List ℕ) (o next : ℕ) : Type 0 where
  pub lays : (v : Value) → ValueAt rule words i v → Laid before after o (value_sentence number detail (some v)) next

pub record BindLaid (rule words : List ℕ) (i : ℕ) (before after : List ℕ) (o next : ℕ) : Type 0 where
  pub lays : (op : ℕ) (bind : Text) (rest : List ℕ) → condition_head (drop (start_of words i) rule) ≡ some (quantifier_head op bind, rest) → Laid before after o bind next

-- 15, 16 and 21
pub record HeadedLaid (rule words : List ℕ) (number i : ℕ) (before after : List ℕ) (o next : ℕ) : Type 0 where
  pub lays : (x : ConditionHead) (rest : List ℕ) (h : Head) → condition_head (drop (start_of words i) rule) ≡ some (x, rest) → operator_in x ≡ h.op
      → ((number ≡ 15 → ⊥) → (number ≡ 16 → ⊥) → (op : ℕ) × (x ≡ quantifier_head op h.bind))
      → Laid before after o (head_sentence number h) next

pub record DepthLaid (rule words : List ℕ) (before after : List ℕ) (o next : ℕ) : Type 0 where
  pub lays : (c : Condition) → ConditionAt rule words 1 c → end_of words 0 ≡ 1 + condition_entries c → depth c ≤ 256 → Laid before after o (decimal_of (depth c)) next

abbrev pub IsRule : Rule → Type 0
IsRule (rule name message assert) = Unit {0}
IsRule (template v) = ⊥

pub record SettledLaid (rule words : List ℕ) (number detail place : ℕ) (before after : List ℕ) (o next : ℕ) : Type 0 where
  pub lays : (r : Rule)
      → RuleAt rule words r
      → depth_in r ≤ 256
      → IsSettled number
      → (names_value number ≡ true → IsSome (value_at place r))
      → (names_head number ≡ true → IsSome (head_of r place))
      → (number ≡ 21 → QuantifierAt rule words (place - 1))
      → (number ≡ 13 → IsRule r)
      → Laid before after o (settled_sentence r number detail place) next
