-- What a judging function is given, and the trees that this stands for.
use Rattle.std.specs.Prelude.{ℕ, ◌+◌, ◌*◌, ◌-◌, ◌≤◌, Bool, true, false, not, cond, List, [], ◌∷◌, ◌++◌, ◌≡◌, drop, eqb, Option as Optional, Some, None, Result, Ok, Err}
use Rattle.std.proofs.Math.Option.{Option, none, some}
use Rattle.text.specs.Parts.{part_of}
use Rattle.timestamp.specs.declared.Fields.{Fields}
use Rattle.sheet.specs.Operators.{compare_operator, is_instant_test, is_affix}
use Rattle.sheet.specs.Entries.{ValueHead, constant_head, number_head, string_head, array_head, object_head}
use Rattle.definition.specs.Tree.{Text, Schema, Value, string, Values, no_values, value}
use Rattle.reference.specs.Setting.{Setting}
use Rattle.reference.specs.Reference.{Environment}
use Rattle.validation.specs.Check.{Binder, Question, settled, Check, check, fails_if, entry_of, is_string, is_holder, reference_text, reference_check, references, instant_form}
use Rattle.validation.specs.Judge.{outcome, environment}
use Rattle.validation.specs.Result.{over_of}
use Rattle.rule.specs.Leaves.{said_in}
use Rattle.rule.specs.Index.{ValueAt}
use Rattle.rule.specs.Nodes.{IsValue, AreValues, EntriesIn}
use Rattle.value_checks.specs.Verdicts.{GoesOn, over_by, side_detail, instant_detail}
use Rattle.scope.specs.Scopes.{ScopeAt}
use Rattle.scope.specs.declared.binder.Scope.{Scope}
use Rattle.value_checks.specs.declared.verdict.Side.{Side}
use Rattle.value_checks.specs.declared.verdict.Side.TheVariants.{Left, Right}
use Rattle.value_checks.specs.declared.verdict.Progress.{Progress}
use Rattle.value_checks.specs.declared.operand.Form.{Form}
use Rattle.value_checks.specs.declared.operand.Form.TheVariants as Form
use Rattle.value_checks.specs.declared.verdict.InstantFault.{InstantFault}

pub record Frame : Type 0 where
  pub schema : List ℕ
  pub rule : List ℕ
  pub words : List ℕ
  pub scope : Scope
  pub over : Optional ℕ

abbrev pub frame : (schema rule words : List ℕ) → Scope → Optional ℕ → Frame
frame schema rule words scope over = record { schema = schema; rule = rule; words = words; scope = scope; over = over }

-- the setting, the schema, and the quantifiers whose bodies hold what is judged, with what their binders stand for
pub record Stands (f : Frame) (setting : Setting) (tree : Schema) (binders : List Binder) (env : Environment) : Type 0 where
  pub scoped : ScopeAt f.schema f.rule f.words f.scope setting tree env
  pub bound : environment tree binders ≡ some env
  pub held : over_of binders ≡ over_by f.over

abbrev pub IsReference : Text → Bool → Type 0
IsReference t true = reference_text t ≡ some (drop 1 t)
IsReference t false = reference_text t ≡ none

unfoldable pub reference_says : List Binder → ℕ → ValueHead → List Check
reference_says binders e (constant_head type) = []
reference_says binders e (number_head digits) = []
reference_says binders e (string_head t) = reference_check binders e (reference_text t)
reference_says binders e (array_head count) = []
reference_says binders e (object_head count) = []

-- the references of `n` words, which are those of values and keys
pub record ReferencesIn (f : Frame) (i n : ℕ) (a r : Progress) : Type 0 where
  pub at_most : r.passed ≤ a.passed + n
  pub goes : (setting : Setting) (tree : Schema) (binders : List Binder) (env : Environment)
      → Stands f setting tree binders env
      → EntriesIn f.rule f.words i n
      → GoesOn (outcome setting tree) a (said_in (reference_says binders) f.rule f.words n i) r

-- Operands.

-- what `before` and `after` ask
unfoldable pub instant_check : List Binder → Value → List Check
instant_check binders v = check 20 (entry_of v) binders (instant_form v) ∷ []

-- what `starts_with` and `ends_with` ask
unfoldable pub affix_check : List Binder → Value → List Check
affix_check binders v = check 19 (entry_of v) binders (fails_if (not (is_string v)) 0) ∷ []

-- what an operand is asked before its references: a side of a comparison holds nothing
unfoldable pub asked_before : (op : ℕ) → Side → List Binder → Value → List Check
asked_before op which binders v = cond (eqb op compare_operator) (check 17 (entry_of v) binders (fails_if (is_holder v) (side_detail which)) ∷ []) []

-- and after them
unfoldable pub asked_after : (op : ℕ) → List Binder → Value → List Check
asked_after op binders v =
    cond (is_instant_test op) (instant_check binders v) (cond (is_affix op) (affix_check binders v) [])

unfoldable pub asked : (op : ℕ) → Side → List Binder → Value → List Check
asked op which binders v = asked_before op which binders v ++ (references binders v ++ asked_after op binders v)

-- one operand after the other: those after the first are on the right
unfoldable pub asked_of : (op : ℕ) → Side → List Binder → Values → List Check
asked_of op which binders no_values = []
asked_of op which binders (value v others) = asked op which binders v ++ asked_of op Right binders others

-- what the value of word `i` is asked besides its references
pub record ValueJudged (rule words : List ℕ) (over : Optional ℕ) (questions : List Binder → Value → List Check) (i : ℕ) (a r : Progress) : Type 0 where
  pub at_most : r.passed ≤ a.passed + 1
  pub goes : (schema : List ℕ) (scope : Scope) (setting : Setting) (tree : Schema) (binders : List Binder) (env : Environment) (v : Value)
      → Stands (frame schema rule words scope over) setting tree binders env
      → ValueAt rule words i v
      → GoesOn (outcome setting tree) a (questions binders v) r

-- the operand from word `start` up to word `end` of a condition with operator `op`
pub record OperandJudged (f : Frame) (op : ℕ) (which : Side) (start end : ℕ) (a r : Progress) : Type 0 where
  pub at_most : r.passed ≤ a.passed + 3 * (end - start)
  pub goes : (setting : Setting) (tree : Schema) (binders : List Binder) (env : Environment) (v : Value)
      → Stands f setting tree binders env
      → IsValue f.rule f.words start end v
      → GoesOn (outcome setting tree) a (asked op which binders v) r

-- all its operands
pub record OperandsJudged (f : Frame) (op start end : ℕ) (a r : Progress) : Type 0 where
  pub at_most : r.passed ≤ a.passed + 3 * (end - start)
  pub goes : (setting : Setting) (tree : Schema) (binders : List Binder) (env : Environment) (vs : Values)
      → Stands f setting tree binders env
      → AreValues f.rule f.words start end vs
      → GoesOn (outcome setting tree) a (asked_of op Left binders vs) r

-- a value by what operands are asked
abbrev pub FormIs : List ℕ → Form → Value → Type 0
FormIs rule (Form.Text p) v = v ≡ string (entry_of v) (part_of rule p)
FormIs rule Form.Holder v = (is_holder v ≡ true) × (is_string v ≡ false)
FormIs rule Form.Other v = (is_holder v ≡ false) × (is_string v ≡ false)

unfoldable pub form_of : Result (Optional Fields) InstantFault → Question
form_of (Ok fields) = settled none
form_of (Err fault) = settled (some (instant_detail fault))

unfoldable pub literal_by : Result (Optional Fields) InstantFault → Option Fields
literal_by (Ok None) = none
literal_by (Ok (Some fields)) = some fields
literal_by (Err fault) = none

-- what `before` and `after` ask of an operand, and the instant that it is by itself
pub record ReadAs (asked : Question) (literal : Option Fields) (r : Result (Optional Fields) InstantFault) : Type 0 where
  pub form : asked ≡ form_of r
  pub fields : literal ≡ literal_by r
