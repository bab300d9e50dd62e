-- A whole rule or template: the code's answer shows what the check list's verdict shows.
use Rattle.std.specs.Prelude.{ℕ, ◌+◌, ◌-◌, ◌≤◌, Bool, List, [], ◌≡◌, Option}
use Rattle.text.specs.Parts.{optional_of}
use Rattle.definition.specs.Tree.{Schema, Condition, Rule, rule}
use Rattle.reference.specs.Setting.{Setting}
use Rattle.rule.specs.Index.{RuleAt}
use Rattle.validation.specs.Check.{literal_checks, checks}
use Rattle.validation.specs.Judge.{outcome, judge}
use Rattle.scope.specs.Scopes.{ScopeAt}
use Rattle.scope.specs.declared.binder.Scope.{Scope}
use Rattle.rule.specs.Nodes.{IsCondition}
use Rattle.value_checks.specs.Shown.{shown_of}
use Rattle.value_checks.specs.Verdicts.{shown_by, GoesOn}
use Rattle.value_checks.specs.declared.verdict.Progress.{Progress}
use Rattle.text.specs.declared.part.Part.{Part}

-- the literal pass, which belongs to service
pub record PassJudged (rule words : List ℕ) (is_service : Bool) (end : ℕ) (a r : Progress) : Type 0 where
  pub at_most : r.passed ≤ a.passed + (end - 1)
  pub goes : (setting : Setting) (tree : Schema) (c : Condition)
      → is_service ≡ setting.is_service
      → IsCondition rule words 1 end c
      → GoesOn (outcome setting tree) a (literal_checks setting c) r

-- a rule with that name and that message, whose condition is from word 1 on
pub record DefinitionJudged (schema sheet words : List ℕ) (scope : Scope) (name message : Option Part) (end : ℕ) (r : Progress) : Type 0 where
  pub shows : (setting : Setting) (tree : Schema) (assert : Condition)
      → ScopeAt schema sheet words scope setting tree []
      → IsCondition sheet words 1 end assert
      → shown_by r
      ≡ shown_of
      (judge setting tree
      (checks setting (rule (optional_of sheet name) (optional_of sheet message) assert)))

-- what the sheet holds, whatever it is
pub record RuleJudged (schema sheet words : List ℕ) (scope : Scope) (r : Progress) : Type 0 where
  pub shows : (setting : Setting) (tree : Schema) (x : Rule)
      → ScopeAt schema sheet words scope setting tree []
      → RuleAt sheet words x
      → shown_by r ≡ shown_of (judge setting tree (checks setting x))
