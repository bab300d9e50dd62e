-- Conditions and values as they are in an index: a subtree from its first word up to the word after its last.
use Rattle.std.specs.Prelude.{ℕ, ◌+◌, ◌≤◌, ◌<◌, List, ◌⊎◌, ◌≡◌, drop}
use Rattle.std.proofs.Math.Option.{some}
use Rattle.sheet.specs.Entries.{ValueHead, value_head, key_head}
use Rattle.sheet.specs.Operators.{literal_operator, not_operator, truthy_operator}
use Rattle.definition.specs.Tree.{Text, Value, Values, Condition, literal, many, negation, one, two, comparison, quantifier, Conditions, no_conditions, condition}
use Rattle.definition.specs.Within.{condition_entries, conditions_entries, value_entries, values_entries}
use Rattle.rule.specs.Index.{start_of, end_of, ValueAt, ValuesAt, ConditionAt, ConditionsAt}

pub record IsValue (rule words : List ℕ) (i end : ℕ) (v : Value) : Type 0 where
  pub stands : ValueAt rule words i v
  pub ends : end ≡ i + value_entries v

pub record AreValues (rule words : List ℕ) (i end : ℕ) (vs : Values) : Type 0 where
  pub stand : ValuesAt rule words i vs
  pub ends : end ≡ i + values_entries vs

-- the entry of word `i` is a value's or a key's
abbrev pub EntryIn : (rule words : List ℕ) (i : ℕ) → Type 0
EntryIn rule words i =
    ((h : ValueHead) × (rest : List ℕ) × (value_head (drop (start_of words i) rule) ≡ some (h, rest)))
    ⊎ ((key : Text) × (rest : List ℕ) × (key_head (drop (start_of words i) rule) ≡ some (key, rest)))

-- the same of the `n` words from `i` on
pub record EntriesIn (rule words : List ℕ) (i n : ℕ) : Type 0 where
  pub each : (k : ℕ) → i ≤ k → k < i + n → EntryIn rule words k

pub record IsCondition (rule words : List ℕ) (i end : ℕ) (c : Condition) : Type 0 where
  pub stands : ConditionAt rule words i c
  pub ends : end ≡ i + condition_entries c

pub record AreConditions (rule words : List ℕ) (i end : ℕ) (cs : Conditions) : Type 0 where
  pub stand : ConditionsAt rule words i cs
  pub ends : end ≡ i + conditions_entries cs

-- the word after the subtree of word `i`, and `end` where the index has no such word up to there
pub record Behind (words : List ℕ) (i end r : ℕ) : Type 0 where
  pub most : r ≤ end
  pub least : i ≤ end → i ≤ r
  pub past : i < end → i < r
  pub exact : i < end_of words i → end_of words i ≤ end → r ≡ end_of words i

-- the conditions that a condition holds
unfoldable pub children_of : Condition → Conditions
children_of (literal e truth) = no_conditions
children_of (many e op children) = children
children_of (negation e child) = condition child no_conditions
children_of (one e op v) = no_conditions
children_of (two e op left right) = no_conditions
children_of (comparison e which left right) = no_conditions
children_of (quantifier e op bind over body) = condition body no_conditions

-- the first word of the children of a condition with operator `op`, which end where it ends
pub record ChildrenFrom (words : List ℕ) (op i end r : ℕ) : Type 0 where
  pub past : i < r
  pub most : r ≤ end
  -- a literal holds none
  pub literal : op ≤ literal_operator → r ≡ end
  -- `all`, `any` and `not` hold conditions alone
  pub inner : literal_operator < op → op ≤ not_operator → r ≡ i + 1
  -- those after them up to `truthy` hold values
  pub values : not_operator < op → op ≤ truthy_operator → r ≡ end
  -- a quantifier holds a value, and its body after that
  pub body : truthy_operator < op → Behind words (i + 1) end r
