-- What the checks of a condition ask, by what the code is given.
use Rattle.std.specs.Prelude.{ℕ, suc, ◌+◌, ◌*◌, ◌-◌, ◌≤◌, ◌<◌, Bool, true, false, ◌||◌, List, [], ◌∷◌, ◌++◌, ◌⊎◌, ◌≡◌, eqb, drop, Option as Optional, Some, None, Result}
use Rattle.std.proofs.Math.Option.{Option, none, some}
use Rattle.sheet.specs.Operators as Operators
use Rattle.sheet.specs.Operators.{literal_operator, not_operator, truthy_operator, InShape}
use Rattle.text.specs.Blank.{is_blank}
use Rattle.text.specs.Parts.{part_of}
use Rattle.sheet.specs.Entries.{quantifier_head, condition_head}
use Rattle.definition.specs.Tree.{Text, Schema, Value, Condition, Conditions}
use Rattle.reference.specs.Setting.{Setting}
use Rattle.reference.specs.Reference.{Environment, collection}
use Rattle.definition.specs.Within.{condition_entries, value_entries}
use Rattle.rule.specs.Index.{start_of, ValueAt, ConditionAt}
use Rattle.walk.specs.Answers.{CollectedIs}
use Rattle.validation.specs.Check.{Binder, check, fails_if, walkable, references, has_dot, operator_check, body, bodies, depth, depth_of_conditions}
use Rattle.validation.specs.Judge.{outcome}
use Rattle.rule.specs.Nodes.{IsCondition, AreConditions}
use Rattle.value_checks.specs.Verdicts.{GoesOn, Required}
use Rattle.scope.specs.Scopes.{ScopeAt}
use Rattle.value_checks.specs.Frames.{Frame, frame, Stands, OperandsJudged}
use Rattle.scope.specs.declared.binder.Scope.{Scope}
use Rattle.value_checks.specs.declared.verdict.Fault.TheVariants.{Empty}
use Rattle.value_checks.specs.declared.verdict.Progress.{Progress}
use Rattle.walk.specs.declared.answer.CollectionFault.{CollectionFault}
use Rattle.text.specs.declared.part.Part.{Part}

pub record OperatorJudged (scope : Scope) (over : Optional ℕ) (op i : ℕ) (a r : Progress) : Type 0 where
  pub at_most : r.passed ≤ a.passed + 1
  pub goes : (schema rule words : List ℕ) (setting : Setting) (tree : Schema) (binders : List Binder) (env : Environment)
      → Stands (frame schema rule words scope over) setting tree binders env
      → GoesOn (outcome setting tree) a (operator_check setting binders (i + 1) op ∷ []) r

-- `all` and `any` are asked whether they end right after their own word
pub record NonemptyJudged (over : Optional ℕ) (op i end : ℕ) (a r : Progress) : Type 0 where
  pub at_most : r.passed ≤ a.passed + 1
  pub many : InShape op Operators.many → Required a (eqb (i + 1) end) Empty (i + 1) over r
  pub other : (op ≤ literal_operator) ⊎ (not_operator ≤ op) → r ≡ a

-- the checks of a condition's own entry, one after the other
pub record EntryJudged (scope : Scope) (over : Optional ℕ) (op i end : ℕ) (a r : Progress) : Type 0 where
  pub between : Progress
  pub operator : OperatorJudged scope over op i a between
  pub nonempty : NonemptyJudged over op i end between r

-- whether conditions with operator `op` hold no condition
abbrev pub Leaf : ℕ → Bool → Type 0
Leaf op true = ((op ≤ literal_operator) ⊎ (not_operator < op)) × (op ≤ truthy_operator)
Leaf op false = (literal_operator < op) × ((op ≤ not_operator) ⊎ (truthy_operator < op))

-- the checks of a condition that holds none: those of its own entry, then those of its operands
pub record LeafJudged (f : Frame) (op i end : ℕ) (a r : Progress) : Type 0 where
  pub at_most : r.passed ≤ a.passed + 8 * (end - i)
  pub between : Progress
  pub entry : EntryJudged f.scope f.over op i end a between
  pub operands : OperandsJudged f op (i + 1) end between r

unfoldable pub bind_by : List ℕ → Optional Part → Option Text
bind_by rule (Some p) = some (part_of rule p)
bind_by rule None = none

-- the bind of a quantifier whose entry is that of word `i`
pub record BindAt (rule words : List ℕ) (i : ℕ) (r : Optional Part) : Type 0 where
  pub is : (op : ℕ) (bind : Text) (rest : List ℕ)
      → condition_head (drop (start_of words i) rule) ≡ some (quantifier_head op bind, rest)
      → bind_by rule r ≡ some bind

-- what the value of word `i` leads to as the value of `in`
pub record CollectionOf (schema rule words : List ℕ) (scope : Scope) (i : ℕ) (r : Result (Optional ℕ) (CollectionFault × ℕ)) : Type 0 where
  pub leads : (setting : Setting) (tree : Schema) (env : Environment) (v : Value)
      → ScopeAt schema rule words scope setting tree env
      → ValueAt rule words i v
      → CollectedIs schema words r (collection tree env v)

-- a condition that is at most `left` deep, with room for as many binders
pub record BodyJudged (f : Frame) (i end left : ℕ) (a r : Progress) : Type 0 where
  pub at_most : r.passed ≤ a.passed + 8 * (end - i)
  pub goes : (setting : Setting) (tree : Schema) (binders : List Binder) (env : Environment) (c : Condition)
      → Stands f setting tree binders env
      → IsCondition f.rule f.words i end c
      → depth c ≤ left
      → f.scope.count + left ≤ 32
      → GoesOn (outcome setting tree) a (body setting binders c) r

pub record BodiesJudged (f : Frame) (start end left : ℕ) (a r : Progress) : Type 0 where
  pub at_most : r.passed ≤ a.passed + 8 * (end - start)
  pub goes : (setting : Setting) (tree : Schema) (binders : List Binder) (env : Environment) (cs : Conditions)
      → Stands f setting tree binders env
      → AreConditions f.rule f.words start end cs
      → depth_of_conditions cs ≤ left
      → f.scope.count + left ≤ 32
      → GoesOn (outcome setting tree) a (bodies setting binders cs) r

-- what a quantifier at word `i` is asked after its operator
pub record QuantifierJudged (f : Frame) (bind : Text) (i end left : ℕ) (a r : Progress) : Type 0 where
  pub at_most : r.passed ≤ a.passed + 2 + 8 * (end - (i + 1))
  pub goes : (setting : Setting) (tree : Schema) (binders : List Binder) (env : Environment) (over : Value) (that : Condition)
      → Stands f setting tree binders env
      → ValueAt f.rule f.words (i + 1) over
      → ConditionAt f.rule f.words (i + 1 + value_entries over) that
      → end ≡ i + 1 + value_entries over + condition_entries that
      → depth that ≤ left
      → f.scope.count + suc left ≤ 32
      → GoesOn (outcome setting tree) a
      (check 21 (i + 1) binders (fails_if (is_blank bind || has_dot bind) 0)
      ∷ (references binders over
      ++ (check 22 (i + 1) binders (walkable over)
      ∷ body setting (record { name = bind; over = over } ∷ binders) that)))
      r
