-- A defect's message in the lent buffer, by the indexes of both sheets.
use Rattle.std.specs.Prelude.{ℕ, ◌≤◌, ◌<◌, List, [], ◌≡◌, length}
use Rattle.definition.specs.Tree as Tree
use Rattle.definition.specs.Tree.{Rule}
use Rattle.definition.specs.Within.{RuleFrom}
use Rattle.reference.specs.Setting.{Setting, kernel}
use Rattle.rule.specs.Index.{RuleAt}
use Rattle.scope.specs.Scopes.{ScopeAt}
use Rattle.scope.specs.declared.binder.Scope.{Scope}
use Rattle.validation.specs.Check.{Check, checks}
use Rattle.validation.specs.Judge.{Failure, fails_at, judge}
use Rattle.message.specs.Message.{depth_in, message_of}
use Rattle.single_check.specs.declared.outcome.Outcome.{Outcome}
use Rattle.message.specs.Explaining.{MessageIs}
use Rattle.explained_check.specs.declared.Said.{Said}

-- for every schema and rule that the indexes stand for, of which the defect is the first
pub record SaidOf (schema sheet words : List ℕ) (scope : Scope) (kind : ℕ) (o : Outcome) (before after : List ℕ) (r : Said) : Type 0 where
  pub says : (setting : Setting) (t : Tree.Schema) (x : Rule) (passed : ℕ) (c : Check) (why : Failure)
      → ScopeAt schema sheet words scope setting t []
      → scope.count ≡ 0
      → setting.reader ≡ kernel
      → RuleAt sheet words x
      → RuleFrom 1 x
      → depth_in x ≤ 256
      → judge setting t (checks setting x) ≡ fails_at passed c why
      → o.number ≡ c.number
      → o.detail ≡ why.detail
      → o.place ≡ c.place
      → length (message_of kind setting t x (fails_at passed c why)) < 4294967296
      → MessageIs (message_of kind setting t x (fails_at passed c why)) before after r.refusal r.size
