-- What the theorem on marks (specs/ConstantLaws.antt) speaks of: the conditions that a rule holds, and those that are constant.
use Rattle.std.specs.Prelude.{ℕ, ◌+◌, ◌≤◌, Bool, List, [], ◌∷◌, ◌⊎◌, ◌≡◌}
use Rattle.std.proofs.Math.Option.{some}
use Rattle.sheet.specs.Operators.{before_operator, after_operator}
use Rattle.timestamp.specs.Order.{is_earlier}
use Rattle.timestamp.specs.declared.Fields.{Fields}
use Rattle.definition.specs.Tree.{Value, Condition, literal, many, negation, one, two, comparison, quantifier, Conditions, no_conditions, condition, Rule, rule, template}
use Rattle.validation.specs.Constant.{literal_instant}

-- the first is in the second: it is the second itself, or one of those that the second holds
abbrev mutual
  pub StandsIn : Condition → Condition → Type 0
  StandsIn c (literal e truth) = c ≡ literal e truth
  StandsIn c (many e op children) = (c ≡ many e op children) ⊎ StandsAmong c children
  StandsIn c (negation e child) = (c ≡ negation e child) ⊎ StandsIn c child
  StandsIn c (one e op v) = c ≡ one e op v
  StandsIn c (two e op left right) = c ≡ two e op left right
  StandsIn c (comparison e which left right) = c ≡ comparison e which left right
  StandsIn c (quantifier e op bind over body) = (c ≡ quantifier e op bind over body) ⊎ StandsIn c body

  pub StandsAmong : Condition → Conditions → Type 0
  StandsAmong c no_conditions = ⊥
  StandsAmong c (condition d others) = StandsIn c d ⊎ StandsAmong c others

abbrev pub StandsInRule : Rule → Condition → Type 0
StandsInRule (rule name message assert) c = StandsIn c assert
StandsInRule (template v) c = ⊥

-- entry `e` is that of a `before` or an `after` with two literal instants, and that is its truth
pub record IsConstant (Stands : Condition → Type 0) (e : ℕ) (truth : Bool) : Type 0 where
  pub op : ℕ
  pub left : Value
  pub right : Value
  pub stands : Stands (two e op left right)
  pub first : Fields
  pub second : Fields
  pub is_first : literal_instant left ≡ some first
  pub is_second : literal_instant right ≡ some second
  pub holds : ((op ≡ before_operator) × (truth ≡ is_earlier first second)) ⊎ ((op ≡ after_operator) × (truth ≡ is_earlier second first))

-- each number is above the one before it, the first not below `low`
abbrev pub Rises : (low : ℕ) → List ℕ → Type 0
Rises low [] = Unit {0}
Rises low (m ∷ ms) = (low ≤ m) × Rises (m + 1) ms
