-- What the readers of subtrees answer: what the decoder answers on the same bytes, and where it gives a tree, the tree's index.
use Rattle.std.specs.Prelude.{ℕ, ◌+◌, ◌*◌, ◌≤◌, ◌<◌, List, ◌≡◌, length, get_or, drop, Option, Some, None}
use Rattle.std.proofs.Math.Option.{none, some}
use Rattle.text.specs.Reader.{Reader, ◌>>=◌, pure}
use Rattle.text.specs.Parts.{part_of}
use Rattle.sheet.specs.Entries.{key_head}
use Rattle.sheet.specs.declared.rule_heads.ValueHead.{ValueHead}
use Rattle.sheet.specs.declared.rule_heads.ValueHead.TheVariants as value-head
use Rattle.sheet.specs.declared.rule_heads.ConditionHead.{ConditionHead}
use Rattle.sheet.specs.declared.rule_heads.ConditionHead.TheVariants as condition-head
use Rattle.definition.specs.Limits.{max_sheet_bytes, max_rule_entries}
use Rattle.definition.specs.Tree.{Text, Value, Values, Pairs}
use Rattle.definition.specs.Decode.{Ahead, entry, value_in, values_of, object_of, condition_in, conditions_of}
use Rattle.definition.specs.Within.{condition_entries, conditions_entries, pairs_entries, value_entries, values_entries}
use Rattle.rule.specs.declared.cursor.Cursor.{Cursor}
use Rattle.rule.specs.declared.condition.Operands.{Operands}
use Rattle.rule.specs.declared.value.Held.{Held}
use Rattle.rule.specs.declared.value.Held.TheVariants as held
use Rattle.rule.specs.Index.{EntryAt, ValueAt, ValuesAt, PairsAt, ConditionAt, ConditionsAt}
use Rattle.text.specs.declared.part.Part.{Part}

-- what lies ahead of the decoder where the code is: the entry of word i has the number i + 1
abbrev pub ahead_of : List ℕ → Cursor → Ahead
ahead_of s c = record { next = c.word + 1; left = c.left; rest = drop c.at s }

-- one key of an object with its value
unfoldable pub pair_in : Reader Ahead Value → Reader Ahead (Text × Value)
pair_in p = do
  k ← entry key_head
  v ← p
  pure (k.1, v)

-- its index: the key's word ends after the value
abbrev pub PairAt : (s words : List ℕ) (i : ℕ) → Text × Value → Type 0
PairAt s words i kv = EntryAt key_head s words i (1 + value_entries kv.1) (i + 1) kv.0 × ValueAt s words (i + 1) kv.1

unfoldable pub size_of_pair : Text × Value → ℕ
size_of_pair kv = 1 + value_entries kv.1

abbrev pub held_by : ValueHead → Held
held_by (value-head.Constant type) = held.Values 0
held_by (value-head.Number digits) = held.Values 0
held_by (value-head.Text t) = held.Values 0
held_by (value-head.Array n) = held.Values n
held_by (value-head.Object n) = held.Pairs n

abbrev pub held_count : Held → ℕ
held_count (held.Values n) = n
held_count (held.Pairs n) = n

-- the entries that are announced: a key is one of its own
abbrev pub cost_of : Held → ℕ
cost_of (held.Values n) = n
cost_of (held.Pairs n) = 2 * n

unfoldable pub operands_of : ConditionHead → Operands
operands_of (condition-head.Literal truth) = record { values = 0; conditions = 0 }
operands_of (condition-head.Many op n) = record { values = 0; conditions = n }
operands_of condition-head.Negation = record { values = 0; conditions = 1 }
operands_of (condition-head.One op) = record { values = 1; conditions = 0 }
operands_of (condition-head.Two op) = record { values = 2; conditions = 0 }
operands_of (condition-head.Comparison which) = record { values = 2; conditions = 0 }
operands_of (condition-head.Quantifier op bind) = record { values = 1; conditions = 1 }

-- no word has changed but those from `a` up to `b`
pub record Kept (before after : List ℕ) (a b : ℕ) : Type 0 where
  pub len : length after ≡ length before
  pub below : (j : ℕ) → j < a → get_or after j 0 ≡ get_or before j 0
  pub above : (j : ℕ) → b ≤ j → get_or after j 0 ≡ get_or before j 0

-- what a reader of `n` announced subtrees may rely on: the entries read, those announced and those left are within the limit
pub record Ready (s words : List ℕ) (n : ℕ) (c : Cursor) : Type 0 where
  pub small : length s ≤ max_sheet_bytes
  pub room : max_rule_entries ≤ length words
  pub inside : c.at ≤ length s
  pub budget : c.word + n + c.left ≤ max_rule_entries

-- a tree was read from `c` to `next`, and its index is in the words between
pub record Indexed {T : Type 0} (reader : Reader Ahead T) (At : List ℕ → ℕ → T → Type 0) (size_of : T → ℕ)
    (s before after : List ℕ) (n : ℕ) (c next : Cursor)
    : Type 0 where
  pub tree : T
  pub reads : reader (ahead_of s c) ≡ some (tree, ahead_of s next)
  pub indexed : At after c.word tree
  pub size : next.word ≡ c.word + size_of tree
  pub kept : Kept before after c.word next.word
  pub inside : next.at ≤ length s
  pub budget : next.word + next.left ≡ c.word + n + c.left

-- the decoder's answer: a tree with its index, or none, and then no word outside the rule's own has changed
abbrev pub Answers : {T : Type 0} (reader : Reader Ahead T) (At : List ℕ → ℕ → T → Type 0) (size_of : T → ℕ)
    (s before after : List ℕ) (n : ℕ) (c : Cursor) → Option Cursor → Type 0
Answers reader At size_of s before after n c (Some next) = Indexed reader At size_of s before after n c next
Answers reader At size_of s before after n c None = (reader (ahead_of s c) ≡ none) × Kept before after c.word max_rule_entries

abbrev pub ValueAnswer : (s before after : List ℕ) (depth : ℕ) (c : Cursor) → Option Cursor → Type 0
ValueAnswer s before after depth c r = Answers (value_in depth) (ValueAt s) value_entries s before after 1 c r

abbrev pub ValuesAnswer : (s before after : List ℕ) (depth n : ℕ) (c : Cursor) → Option Cursor → Type 0
ValuesAnswer s before after depth n c r = Answers (values_of n (value_in depth)) (ValuesAt s) values_entries s before after n c r

abbrev pub PairAnswer : (s before after : List ℕ) (depth : ℕ) (c : Cursor) → Option (Part × Cursor) → Type 0
PairAnswer s before after depth c (Some (key, next)) =
    (i : Indexed (pair_in (value_in depth)) (PairAt s) size_of_pair s before after 2 c next) × (i.tree.0 ≡ part_of s key)
PairAnswer s before after depth c None = (pair_in (value_in depth) (ahead_of s c) ≡ none) × Kept before after c.word max_rule_entries

abbrev pub PairsAnswer : (s before after : List ℕ) (depth n : ℕ) (c : Cursor) → Option Cursor → Type 0
PairsAnswer s before after depth n c r = Answers (object_of n (value_in depth)) (PairsAt s) pairs_entries s before after (2 * n) c r

abbrev pub HeldAnswer : (s before after : List ℕ) (depth : ℕ) (what : Held) (c : Cursor) → Option Cursor → Type 0
HeldAnswer s before after depth (held.Values n) c r = ValuesAnswer s before after depth n c r
HeldAnswer s before after depth (held.Pairs n) c r = PairsAnswer s before after depth n c r

abbrev pub ConditionAnswer : (s before after : List ℕ) (depth : ℕ) (c : Cursor) → Option Cursor → Type 0
ConditionAnswer s before after depth c r = Answers (condition_in depth) (ConditionAt s) condition_entries s before after 1 c r

abbrev pub ConditionsAnswer : (s before after : List ℕ) (depth n : ℕ) (c : Cursor) → Option Cursor → Type 0
ConditionsAnswer s before after depth n c r =
    Answers (conditions_of n (condition_in depth)) (ConditionsAt s) conditions_entries s before after n c r
