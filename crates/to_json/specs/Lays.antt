-- What laying a rule's JSON leaves in a buffer: whatever stands in the index there, its text is laid.
use Rattle.std.specs.Prelude.{ℕ, ◌+◌, ◌<◌, List, [], ◌++◌, ◌≡◌}
use Rattle.std.proofs.Math.Option.{Option}
use Rattle.definition.specs.Tree.{Text, Value, Condition, one, two, comparison, quantifier, Conditions, rule}
use Rattle.definition.specs.Within.{value_entries, condition_entries}
use Rattle.rule.specs.Index.{ValueAt, ConditionAt, RuleAt}
use Rattle.rule.specs.Nodes.{AreConditions}
use Rattle.buffer.specs.Laid.{Laid}
use Rattle.json_text.specs.Escaped.{plain, written}
use Rattle.json_rule.specs.AsJson.{condition_as_json}
use Rattle.to_json.specs.Parts.{front_of, joined, name_text, message_text}

module _ (rule words : List ℕ) (i : ℕ) (before after : List ℕ) (at next : ℕ) where
  -- a value after the entry of word `i`, and what is in front of it and behind it
  pub record LaysOne (op : ℕ) : Type 0 where
    pub lays : (v : Value) → ValueAt rule words (i + 1) v → Laid before after at (front_of (one 0 op v)) next

  -- two values
  pub record LaysTwo (op : ℕ) : Type 0 where
    pub lays : (left right : Value) → ValueAt rule words (i + 1) left → ValueAt rule words (i + 1 + value_entries left) right
        → Laid before after at (front_of (two 0 op left right)) next

  pub record LaysCompared (which : ℕ) : Type 0 where
    pub lays : (left right : Value) → ValueAt rule words (i + 1) left → ValueAt rule words (i + 1 + value_entries left) right
        → Laid before after at (front_of (comparison 0 which left right)) next

  pub record LaysScope (op : ℕ) (name : Text) : Type 0 where
    pub lays : (over : Value) (body : Condition) → ValueAt rule words (i + 1) over → Laid before after at (front_of (quantifier 0 op name over body)) next

  -- what is in front of the conditions that the condition of word `i` holds
  pub record LaysFront : Type 0 where
    pub lays : (c : Condition) → ConditionAt rule words i c → Laid before after at (front_of c) next

-- the conditions from word `i` up to word `end`
pub record LaysConditions (rule words : List ℕ) (i end : ℕ) (before after : List ℕ) (at next : ℕ) : Type 0 where
  pub lays : (cs : Conditions) → AreConditions rule words i end cs → Laid before after at (joined [] cs) next

-- the whole rule, which has so many entries
pub record LaysRule (sheet words : List ℕ) (entries : ℕ) (before after : List ℕ) (next : ℕ) : Type 0 where
  pub lays : (name message : Option Text) (assert : Condition) → RuleAt sheet words (rule name message assert) → entries ≡ 1 + condition_entries assert
      → Laid before after 0 (name_text name ++ (written plain (condition_as_json assert) ++ message_text message)) next

-- a length as a number of four bytes
pub record Narrow (n r : ℕ) : Type 0 where
  pub same : n < 4294967296 → r ≡ n
