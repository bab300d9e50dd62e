-- The index of a rule sheet in the scratch: a word for each entry, in order. The word of entry i + 1 is at i: where the entry starts, times
-- 4,096, and the word after its subtree, so that a subtree can be skipped.
use Rattle.std.specs.Prelude.{ℕ, ◌+◌, ◌/◌, ◌%◌, List, ◌≡◌, get_or, drop}
use Rattle.std.proofs.Math.Option.{some}
use Rattle.text.specs.Reader.{Reader}
use Rattle.sheet.specs.Entries.{literal_head, many_head, negation_head, one_head, two_head, comparison_head, quantifier_head, condition_head, constant_head, number_head, string_head, array_head, object_head, value_head, key_head, rule_head}
use Rattle.sheet.specs.Entries as Entries
use Rattle.definition.specs.Limits.{word_entries}
use Rattle.definition.specs.Within.{value_entries, values_entries, pairs_entries, condition_entries, conditions_entries}
use Rattle.definition.specs.Write.{count_of_values, count_of_pairs, count_of_conditions}
use Rattle.definition.specs.Tree.{Value, constant, number, string, array, object, Values, no_values, value, Pairs, no_pairs, pair, Condition, literal, many, negation, one, two, comparison, quantifier, Conditions, no_conditions, condition, Rule, rule, template}

abbrev pub start_of : List ℕ → ℕ → ℕ
start_of words i = get_or words i 0 / word_entries

abbrev pub end_of : List ℕ → ℕ → ℕ
end_of words i = get_or words i 0 % word_entries

-- word `i` is that of an entry with that number and that head, with a subtree of `size` entries
pub record EntryAt {H : Type 0} (reader : Reader (List ℕ) H) (sheet words : List ℕ) (i size e : ℕ) (h : H) : Type 0 where
  pub is_entry : e ≡ i + 1
  pub ends : end_of words i ≡ i + size
  pub rest : List ℕ
  pub reads : reader (drop (start_of words i) sheet) ≡ some (h, rest)

abbrev mutual
  pub ValueAt : (sheet words : List ℕ) (i : ℕ) → Value → Type 0
  ValueAt sheet words i (constant e type) = EntryAt value_head sheet words i 1 e (constant_head type)
  ValueAt sheet words i (number e digits) = EntryAt value_head sheet words i 1 e (number_head digits)
  ValueAt sheet words i (string e t) = EntryAt value_head sheet words i 1 e (string_head t)
  ValueAt sheet words i (array e vs) =
      EntryAt value_head sheet words i (1 + values_entries vs) e (array_head (count_of_values vs))
      × ValuesAt sheet words (i + 1) vs
  ValueAt sheet words i (object e pairs) =
      EntryAt value_head sheet words i (1 + pairs_entries pairs) e (object_head (count_of_pairs pairs))
      × PairsAt sheet words (i + 1) pairs

  pub ValuesAt : (sheet words : List ℕ) (i : ℕ) → Values → Type 0
  ValuesAt sheet words i no_values = Unit {0}
  ValuesAt sheet words i (value v others) = ValueAt sheet words i v × ValuesAt sheet words (i + value_entries v) others

  pub PairsAt : (sheet words : List ℕ) (i : ℕ) → Pairs → Type 0
  PairsAt sheet words i no_pairs = Unit {0}
  PairsAt sheet words i (pair key v others) =
      EntryAt key_head sheet words i (1 + value_entries v) (i + 1) key
      × ValueAt sheet words (i + 1) v
      × PairsAt sheet words (i + (1 + value_entries v)) others

abbrev mutual
  pub ConditionAt : (sheet words : List ℕ) (i : ℕ) → Condition → Type 0
  ConditionAt sheet words i (literal e truth) = EntryAt condition_head sheet words i 1 e (literal_head truth)
  ConditionAt sheet words i (many e op children) =
      EntryAt condition_head sheet words i (1 + conditions_entries children) e (many_head op (count_of_conditions children))
      × ConditionsAt sheet words (i + 1) children
  ConditionAt sheet words i (negation e child) =
      EntryAt condition_head sheet words i (1 + condition_entries child) e negation_head × ConditionAt sheet words (i + 1) child
  ConditionAt sheet words i (one e op v) =
      EntryAt condition_head sheet words i (1 + value_entries v) e (one_head op) × ValueAt sheet words (i + 1) v
  ConditionAt sheet words i (two e op left right) =
      EntryAt condition_head sheet words i (1 + (value_entries left + value_entries right)) e (two_head op)
      × ValueAt sheet words (i + 1) left
      × ValueAt sheet words (i + 1 + value_entries left) right
  ConditionAt sheet words i (comparison e which left right) =
      EntryAt condition_head sheet words i (1 + (value_entries left + value_entries right)) e (comparison_head which)
      × ValueAt sheet words (i + 1) left
      × ValueAt sheet words (i + 1 + value_entries left) right
  ConditionAt sheet words i (quantifier e op bind over body) =
      EntryAt condition_head sheet words i (1 + (value_entries over + condition_entries body)) e (quantifier_head op bind)
      × ValueAt sheet words (i + 1) over
      × ConditionAt sheet words (i + 1 + value_entries over) body

  pub ConditionsAt : (sheet words : List ℕ) (i : ℕ) → Conditions → Type 0
  ConditionsAt sheet words i no_conditions = Unit {0}
  ConditionsAt sheet words i (condition c others) =
      ConditionAt sheet words i c × ConditionsAt sheet words (i + condition_entries c) others

-- the whole sheet: word 0 is that of its `R` or `T`
abbrev pub RuleAt : (sheet words : List ℕ) → Rule → Type 0
RuleAt sheet words (rule name message assert) =
    EntryAt rule_head sheet words 0 (1 + condition_entries assert) 1 (Entries.rule name message) × ConditionAt sheet words 1 assert
RuleAt sheet words (template v) =
    EntryAt rule_head sheet words 0 (1 + value_entries v) 1 Entries.template × ValueAt sheet words 1 v
