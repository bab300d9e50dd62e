-- The scope of an entry, found from its place.
use Rattle.std.specs.Prelude.{ℕ, ◌+◌, ◌≤◌, ◌<◌, List, ◌≡◌}
use Rattle.std.proofs.Math.Option.{some}
use Rattle.definition.specs.Tree.{Schema, Condition, Conditions}
use Rattle.reference.specs.Setting.{Setting}
use Rattle.reference.specs.Reference.{Environment}
use Rattle.validation.specs.Check.{Binder, depth, depth_of_conditions}
use Rattle.validation.specs.Judge.{environment}
use Rattle.rule.specs.Nodes.{IsCondition, AreConditions}
use Rattle.scope.specs.Scopes.{ScopeAt}
use Rattle.scope.specs.declared.binder.Scope.{Scope}
use Rattle.message.specs.Standing.{standing, standing_in}
use Rattle.defect_walk.specs.declared.standing.Child.{Child}

-- of these conditions, the one in which word `target` is
pub record ChildOf (rule words : List ℕ) (start end target : ℕ) (r : Child) (cs : Conditions) : Type 0 where
  pub c : Condition
  pub stands : IsCondition rule words r.word r.end c
  pub same : (bs : List Binder) → standing_in (target + 1) (start + 1) bs cs ≡ standing (target + 1) (r.word + 1) bs c
  pub deep : depth c ≤ depth_of_conditions cs

pub record ChildIs (words : List ℕ) (start end target : ℕ) (r : Child) : Type 0 where
  pub least : start ≤ r.word
  pub inside : r.word < r.end
  pub most : r.end ≤ end
  pub holds : target < r.end
  pub is : (rule : List ℕ) (cs : Conditions) → AreConditions rule words start end cs → ChildOf rule words start end target r cs

-- for every condition that the words stand for, under every scope
pub record ScopeFound (schema rule words : List ℕ) (scope : Scope) (i end target : ℕ) (r : Scope) : Type 0 where
  pub is : (setting : Setting) (tree : Schema) (bs : List Binder) (env env' : Environment) (c : Condition)
      → ScopeAt schema rule words scope setting tree env
      → environment tree bs ≡ some env
      → IsCondition rule words i end c
      → scope.count + depth c ≤ 32
      → environment tree (standing (target + 1) (i + 1) bs c) ≡ some env'
      → ScopeAt schema rule words r setting tree env'
