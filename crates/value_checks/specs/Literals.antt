-- What the literal pass asks of the words of an index.
use Rattle.std.specs.Prelude.{ℕ, ◌+◌, ◌-◌, ◌≤◌, cond, List, [], ◌∷◌, map}
use Rattle.definition.specs.Tree.{Schema, Conditions}
use Rattle.sheet.specs.Operators.{is_observed}
use Rattle.sheet.specs.Entries.{ValueHead, constant_head, number_head, string_head, array_head, object_head}
use Rattle.reference.specs.Setting.{Setting}
use Rattle.validation.specs.Check.{Check, literal_check, literals_of_conditions}
use Rattle.validation.specs.Judge.{outcome}
use Rattle.rule.specs.Leaves.{said_in}
use Rattle.rule.specs.Nodes.{EntriesIn, AreConditions}
use Rattle.value_checks.specs.Verdicts.{GoesOn}
use Rattle.value_checks.specs.declared.verdict.Progress.{Progress}

unfoldable pub literal_says : ℕ → ValueHead → List Check
literal_says e (constant_head type) = []
literal_says e (number_head digits) = literal_check (record { entry = e; digits = digits }) ∷ []
literal_says e (string_head t) = []
literal_says e (array_head count) = []
literal_says e (object_head count) = []

-- the `n` words from `i` on, those of values and keys, are judged, whatever the schema: a literal is finite by itself
pub record LiteralsJudged (rule words : List ℕ) (i n : ℕ) (a r : Progress) : Type 0 where
  pub at_most : r.passed ≤ a.passed + n
  pub goes : (setting : Setting) (schema : Schema) → EntriesIn rule words i n → GoesOn (outcome setting schema) a (said_in literal_says rule words n i) r

-- the words of a condition's values, where the pass looks into them
pub record ObservedJudged (rule words : List ℕ) (op start end : ℕ) (a r : Progress) : Type 0 where
  pub at_most : r.passed ≤ a.passed + (end - start)
  pub goes : (setting : Setting) (schema : Schema)
      → EntriesIn rule words start (end - start)
      → GoesOn (outcome setting schema) a (said_in literal_says rule words (cond (is_observed op) (end - start) 0) start) r

-- the literals of the conditions that are there
pub record ConditionLiterals (rule words : List ℕ) (start end : ℕ) (a r : Progress) : Type 0 where
  pub at_most : r.passed ≤ a.passed + (end - start)
  pub goes : (setting : Setting) (schema : Schema) (cs : Conditions)
      → AreConditions rule words start end cs
      → GoesOn (outcome setting schema) a (map literal_check (literals_of_conditions cs)) r
