-- What the code that looks for mentions says of the words of an index.
use Rattle.std.specs.Prelude.{ℕ, ◌≤◌, ◌<◌, Bool, true, false, cond, List, [], ◌∷◌, ◌≡◌, drop}
use Rattle.std.proofs.Math.Option.{none, some}
use Rattle.sheet.specs.Operators.{truthy_operator}
use Rattle.sheet.specs.Entries.{ValueHead, constant_head, number_head, string_head, array_head, object_head, value_head}
use Rattle.definition.specs.Tree.{Text, Conditions, Rule}
use Rattle.definition.specs.Within.{rule_entries}
use Rattle.validation.specs.Check.{reference_text}
use Rattle.rule.specs.Index.{start_of, RuleAt}
use Rattle.rule.specs.Rule.{is_template}
use Rattle.rule.specs.Leaves.{said_in}
use Rattle.rule.specs.Nodes.{EntryIn, EntriesIn, AreConditions}
use Rattle.field_changes.specs.Mention.{is_named, in_reference, in_conditions, mentions}

-- no bytes where it is not a string
unfoldable pub string_in : ValueHead → Text
string_in (constant_head type) = []
string_in (number_head digits) = []
string_in (string_head t) = t
string_in (array_head count) = []
string_in (object_head count) = []

-- the text of the string whose entry is that of word `i`
pub record StringAt (rule words : List ℕ) (i : ℕ) (t : Text) : Type 0 where
  pub value : (h : ValueHead) (rest : List ℕ) → value_head (drop (start_of words i) rule) ≡ some (h, rest) → t ≡ string_in h
  pub key : EntryIn rule words i → value_head (drop (start_of words i) rule) ≡ none → t ≡ []

-- an entry's number, where it is a reference that has the name
unfoldable pub mention_says : (name : Text) → ℕ → ValueHead → List ℕ
mention_says name e h = cond (in_reference name (string_in h) (reference_text (string_in h))) (e ∷ []) []

abbrev pub is_met : List ℕ → Bool
is_met [] = false
is_met (e ∷ others) = true

-- whether one of the `n` words from `i` on, those of values and keys, is such a reference's
pub record NamedIn (name rule words : List ℕ) (i n : ℕ) (r : Bool) : Type 0 where
  pub is : EntriesIn rule words i n → r ≡ is_met (said_in (mention_says name) rule words n i)

-- whether the value of word `i` has the name, if a quantifier goes over it
pub record OverNamed (name rule words : List ℕ) (op i : ℕ) (r : Bool) : Type 0 where
  pub text : Text
  pub at : StringAt rule words i text
  pub others : op ≤ truthy_operator → r ≡ false
  pub over : truthy_operator < op → r ≡ is_named name text

pub record ConditionsNamed (name rule words : List ℕ) (start end : ℕ) (r : Bool) : Type 0 where
  pub is : (cs : Conditions) → AreConditions rule words start end cs → r ≡ in_conditions name cs

pub record RuleNamed (name sheet words : List ℕ) (template : Bool) (entries : ℕ) (r : Bool) : Type 0 where
  pub is : (x : Rule) → RuleAt sheet words x → template ≡ is_template x → entries ≡ rule_entries x → r ≡ mentions name x
