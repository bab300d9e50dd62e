-- The check list of a rule or template (docs/FORMAT.md, "The check list"). It comes from the sheet and the setting, never from a schema.
use Rattle.std.specs.Prelude.{ℕ, ◌+◌, ◌≤◌, max, Bool, true, false, not, cond, ◌&&◌, ◌||◌, List, [], ◌∷◌, ◌++◌, map, leb, eqb}
use Prim.Native.Char.{code}
use Rattle.std.proofs.Math.Option.{Option, none, some}
use Rattle.text.specs.Blank.{is_blank}
use Rattle.number.specs.Finite.{is_finite}
use Rattle.timestamp.specs.Instant.{instant}
use Rattle.sheet.specs.Operators.{literal_operator, not_operator, compare_operator, is_service_operator, is_instant_test, is_affix, is_observed}
use Rattle.definition.specs.Tree.{Text, Value, constant, number, string, array, object, Values, no_values, value, Pairs, no_pairs, pair, Condition, literal, many, negation, one, two, comparison, quantifier, Conditions, no_conditions, condition, Rule, rule, template}
use Rattle.reference.specs.Setting.{Setting}
use Rattle.reference.specs.Reference.{begins_with_dollar}

-- an enclosing quantifier: its bind and its `in` value
pub record Binder : Type 0 where
  pub name : Text
  pub over : Value

pub data Question : Type 0 where
  -- answered by the sheet and the setting alone: none passes, a detail fails
  settled : Option ℕ → Question
  -- whether the reference of that text after its `$` can be read
  readable : Text → Question
  -- whether that `in` value names a collection
  walkable : Value → Question

pub record Check : Type 0 where
  pub number : ℕ
  pub place : ℕ
  -- the quantifiers whose bodies hold it, innermost first
  pub binders : List Binder
  pub question : Question

-- the numbers that checks have, and so defects
pub record IsDefect (n : ℕ) : Type 0 where
  pub low : 11 ≤ n
  pub high : n ≤ 22

unfoldable pub fails_if : Bool → ℕ → Question
fails_if true detail = settled (some detail)
fails_if false detail = settled none

unfoldable pub is_none : {A : Type 0} → Option A → Bool
is_none none = true
is_none (some a) = false

unfoldable pub check : (number place : ℕ) → List Binder → Question → Check
check n p bs q = record { number = n; place = p; binders = bs; question = q }

-- References: the strings that begin with `$`, but not with `$$`

unfoldable pub reference_text : Text → Option Text
reference_text [] = none
reference_text (a ∷ t) = cond (begins_with_dollar (a ∷ t) && not (begins_with_dollar t)) (some t) none

unfoldable pub reference_check : List Binder → ℕ → Option Text → List Check
reference_check binders e none = []
reference_check binders e (some t) = check 18 e binders (readable t) ∷ []

unfoldable mutual
  pub references : List Binder → Value → List Check
  references binders (constant e type) = []
  references binders (number e digits) = []
  references binders (string e t) = reference_check binders e (reference_text t)
  references binders (array e vs) = references_of_values binders vs
  references binders (object e pairs) = references_of_pairs binders pairs

  pub references_of_values : List Binder → Values → List Check
  references_of_values binders no_values = []
  references_of_values binders (value v others) = references binders v ++ references_of_values binders others

  pub references_of_pairs : List Binder → Pairs → List Check
  references_of_pairs binders no_pairs = []
  references_of_pairs binders (pair key v others) = references binders v ++ references_of_pairs binders others

-- Literals: the numbers that the literal pass meets, with their entries

pub record Literal : Type 0 where
  pub entry : ℕ
  pub digits : Text

unfoldable mutual
  pub numbers : Value → List Literal
  numbers (constant e type) = []
  numbers (number e digits) = record { entry = e; digits = digits } ∷ []
  numbers (string e t) = []
  numbers (array e vs) = numbers_of_values vs
  numbers (object e pairs) = numbers_of_pairs pairs

  pub numbers_of_values : Values → List Literal
  numbers_of_values no_values = []
  numbers_of_values (value v others) = numbers v ++ numbers_of_values others

  pub numbers_of_pairs : Pairs → List Literal
  numbers_of_pairs no_pairs = []
  numbers_of_pairs (pair key v others) = numbers v ++ numbers_of_pairs others

unfoldable mutual
  pub literals : Condition → List Literal
  literals (literal e truth) = []
  literals (many e op children) = literals_of_conditions children
  literals (negation e child) = literals child
  literals (one e op v) = cond (is_observed op) (numbers v) []
  literals (two e op left right) = cond (is_observed op) (numbers left ++ numbers right) []
  literals (comparison e which left right) = numbers left ++ numbers right
  literals (quantifier e op bind over body) = literals body

  pub literals_of_conditions : Conditions → List Literal
  literals_of_conditions no_conditions = []
  literals_of_conditions (condition c others) = literals c ++ literals_of_conditions others

unfoldable pub literal_check : Literal → Check
literal_check l = check 14 l.entry [] (fails_if (not (is_finite l.digits)) 0)

-- Operands

unfoldable pub entry_of : Value → ℕ
entry_of (constant e type) = e
entry_of (number e digits) = e
entry_of (string e t) = e
entry_of (array e vs) = e
entry_of (object e pairs) = e

unfoldable pub is_string : Value → Bool
is_string (constant e type) = false
is_string (number e digits) = false
is_string (string e t) = true
is_string (array e vs) = false
is_string (object e pairs) = false

unfoldable pub is_holder : Value → Bool
is_holder (constant e type) = false
is_holder (number e digits) = false
is_holder (string e t) = false
is_holder (array e vs) = true
is_holder (object e pairs) = true

-- `$$` text is not an instant, any other `$` text a reference
unfoldable pub instant_text : Text → Question
instant_text t = cond (begins_with_dollar t) (fails_if (is_none (reference_text t)) 1) (fails_if (is_none (instant t)) 2)

unfoldable pub instant_form : Value → Question
instant_form (constant e type) = settled (some 2)
instant_form (number e digits) = settled (some 2)
instant_form (string e t) = instant_text t
instant_form (array e vs) = settled (some 2)
instant_form (object e pairs) = settled (some 2)

unfoldable pub instant_operand : List Binder → Value → List Check
instant_operand binders v = references binders v ++ (check 20 (entry_of v) binders (instant_form v) ∷ [])

unfoldable pub affix_operand : List Binder → Value → List Check
affix_operand binders v = references binders v ++ (check 19 (entry_of v) binders (fails_if (not (is_string v)) 0) ∷ [])

unfoldable pub compare_side : List Binder → (detail : ℕ) → Value → List Check
compare_side binders detail v = check 17 (entry_of v) binders (fails_if (is_holder v) detail) ∷ references binders v

unfoldable pub operand : ℕ → List Binder → Value → List Check
operand op binders v =
    cond (is_instant_test op) (instant_operand binders v) (cond (is_affix op) (affix_operand binders v) (references binders v))

-- Conditions

unfoldable pub has_dot : Text → Bool
has_dot [] = false
has_dot (b ∷ t) = eqb b (code ".") || has_dot t

-- service operators exist only under service
unfoldable pub operator_check : Setting → List Binder → (entry op : ℕ) → Check
operator_check setting binders e op = check 15 e binders (fails_if (is_service_operator op && not setting.is_service) 0)

unfoldable pub is_empty : Conditions → Bool
is_empty no_conditions = true
is_empty (condition c others) = false

unfoldable mutual
  pub body : Setting → List Binder → Condition → List Check
  body setting binders (literal e truth) = operator_check setting binders e literal_operator ∷ []
  body setting binders (many e op children) =
      operator_check setting binders e op
      ∷ check 16 e binders (fails_if (is_empty children) 0)
      ∷ bodies setting binders children
  body setting binders (negation e child) = operator_check setting binders e not_operator ∷ body setting binders child
  body setting binders (one e op v) = operator_check setting binders e op ∷ references binders v
  body setting binders (two e op left right) =
      operator_check setting binders e op ∷ (operand op binders left ++ operand op binders right)
  body setting binders (comparison e which left right) =
      operator_check setting binders e compare_operator ∷ (compare_side binders 1 left ++ compare_side binders 2 right)
  body setting binders (quantifier e op bind over that) =
      operator_check setting binders e op
      ∷ check 21 e binders (fails_if (is_blank bind || has_dot bind) 0)
      ∷ (references binders over
      ++ (check 22 e binders (walkable over)
      ∷ body setting (record { name = bind; over = over } ∷ binders) that))

  pub bodies : Setting → List Binder → Conditions → List Check
  bodies setting binders no_conditions = []
  bodies setting binders (condition c others) = body setting binders c ++ bodies setting binders others

unfoldable mutual
  pub depth : Condition → ℕ
  depth (literal e truth) = 1
  depth (many e op children) = 1 + depth_of_conditions children
  depth (negation e child) = 1 + depth child
  depth (one e op v) = 1
  depth (two e op left right) = 1
  depth (comparison e which left right) = 1
  depth (quantifier e op bind over that) = 1 + depth that

  pub depth_of_conditions : Conditions → ℕ
  depth_of_conditions no_conditions = 0
  depth_of_conditions (condition c others) = max (depth c) (depth_of_conditions others)

abbrev pub max_condition_depth : ℕ
max_condition_depth = 32

-- present but blank
unfoldable pub is_blank_text : Option Text → Bool
is_blank_text none = false
is_blank_text (some t) = is_blank t

-- the literal pass belongs to service
unfoldable pub literal_checks : Setting → Condition → List Check
literal_checks setting c = cond setting.is_service (map literal_check (literals c)) []

unfoldable pub checks : Setting → Rule → List Check
checks setting (rule name message assert) =
    check 11 1 [] (fails_if (is_blank_text name) 0)
    ∷ check 12 1 [] (fails_if (is_blank_text message) 0)
    ∷ check 13 2 [] (fails_if (not (leb (depth assert) max_condition_depth)) 0)
    ∷ (literal_checks setting assert ++ body setting [] assert)
checks setting (template v) = references [] v
