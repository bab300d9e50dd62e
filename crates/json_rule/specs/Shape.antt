-- What JSON stands for (definition.rs). The numbers of entries, which a sheet does not have, are 0.
use Rattle.std.specs.Prelude.{ℕ, ◌+◌, Bool, true, false, cond, List, [], ◌∷◌, length, eqb}
use Rattle.std.proofs.Math.Option.{Option, none, some, bind, map}
use Rattle.text.specs.Ascii.{ascii}
use Rattle.sheet.specs.Operators.{Shape, shape_of, Operator, operators}
use Rattle.sheet.specs.Operators as Operators
use Rattle.text.specs.Order.{same_bytes, none_twice}
use Rattle.text.specs.Reader.{or_else}
use Rattle.json_text.specs.Distinct.{keys_of}
use Rattle.json_text.specs.Json.{Text, Json, null, truth, number, string, array, object, Elements, no_elements, element, Members, no_members, member}
use Rattle.definition.specs.Tree.{Value, constant, Values, no_values, value, Pairs, no_pairs, pair, Condition, literal, many, negation, one, two, comparison, quantifier, Conditions, no_conditions, condition, Rule, rule}
use Rattle.definition.specs.Tree as Tree

-- Values: every JSON value is one, members in the order given

unfoldable mutual
  pub value_of : Json → Value
  value_of null = constant 0 1
  value_of (truth false) = constant 0 2
  value_of (truth true) = constant 0 3
  value_of (number digits) = Tree.number 0 digits
  value_of (string t) = Tree.string 0 t
  value_of (array vs) = Tree.array 0 (values_of vs)
  value_of (object ms) = Tree.object 0 (pairs_of ms)

  pub values_of : Elements → Values
  values_of no_elements = no_values
  values_of (element v others) = value (value_of v) (values_of others)

  pub pairs_of : Members → Pairs
  pairs_of no_members = no_pairs
  pairs_of (member key v others) = pair key (value_of v) (pairs_of others)

-- Names

-- the number of the operator that has the name, or 0 where none has it
unfoldable pub number_of : Text → List Operator → ℕ
number_of t [] = 0
number_of t (r ∷ rows) = let later = number_of t rows in cond (same_bytes t r.name) r.number later

unfoldable pub operator_of : Text → ℕ
operator_of t = number_of t operators

-- the place of a text in a list, counted from n, or 0 where it is none of them
unfoldable pub place_in : ℕ → Text → List Text → ℕ
place_in n t [] = 0
place_in n t (first ∷ others) = let later = place_in (n + 1) t others in cond (same_bytes t first) n later

-- what `compare` compares by, from 1
unfoldable pub comparison_names : List Text
comparison_names = ascii "eq" ∷ ascii "ne" ∷ ascii "lt" ∷ ascii "lte" ∷ ascii "gt" ∷ ascii "gte" ∷ []

unfoldable pub comparison_of : Text → ℕ
comparison_of t = place_in 1 t comparison_names

-- Parts: what the members of an object stand for, in any order

pub data Part : Type 0 where
  left : (v : Value) → Part
  which : (n : ℕ) → Part
  right : (v : Value) → Part
  over : (v : Value) → Part
  bound : (name : Text) → Part
  body : (c : Condition) → Part

unfoldable pub as_left : Part → Option Value
as_left (left v) = some v
as_left (which n) = none
as_left (right v) = none
as_left (over v) = none
as_left (bound name) = none
as_left (body c) = none

unfoldable pub as_which : Part → Option ℕ
as_which (left v) = none
as_which (which n) = some n
as_which (right v) = none
as_which (over v) = none
as_which (bound name) = none
as_which (body c) = none

unfoldable pub as_right : Part → Option Value
as_right (left v) = none
as_right (which n) = none
as_right (right v) = some v
as_right (over v) = none
as_right (bound name) = none
as_right (body c) = none

unfoldable pub as_over : Part → Option Value
as_over (left v) = none
as_over (which n) = none
as_over (right v) = none
as_over (over v) = some v
as_over (bound name) = none
as_over (body c) = none

unfoldable pub as_bound : Part → Option Text
as_bound (left v) = none
as_bound (which n) = none
as_bound (right v) = none
as_bound (over v) = none
as_bound (bound name) = some name
as_bound (body c) = none

unfoldable pub as_body : Part → Option Condition
as_body (left v) = none
as_body (which n) = none
as_body (right v) = none
as_body (over v) = none
as_body (bound name) = none
as_body (body c) = some c

-- the first that is such a part
unfoldable pub first_of : {A B : Type 0} → (A → Option B) → List A → Option B
first_of f [] = none
first_of f (p ∷ others) = let later = first_of f others in or_else (f p) later

-- exactly three parts, and each of the three
unfoldable pub comparison_from : List Part → Option Condition
comparison_from parts =
    cond (eqb (length parts) 3)
    (bind (first_of as_left parts) (λ l. bind (first_of as_which parts) (λ n. bind (first_of as_right parts) (λ r. some (comparison 0 n l r)))))
    none

unfoldable pub quantifier_from : ℕ → List Part → Option Condition
quantifier_from op parts =
    cond (eqb (length parts) 3)
    (bind (first_of as_over parts) (λ v. bind (first_of as_bound parts) (λ name. bind (first_of as_body parts) (λ c. some (quantifier 0 op name v c)))))
    none

-- a string that names a comparison
unfoldable pub which_of : Json → Option Part
which_of null = none
which_of (truth b) = none
which_of (number digits) = none
which_of (string t) = cond (eqb (comparison_of t) 0) none (some (which (comparison_of t)))
which_of (array vs) = none
which_of (object ms) = none

unfoldable pub bound_of : Json → Option Part
bound_of null = none
bound_of (truth b) = none
bound_of (number digits) = none
bound_of (string t) = some (bound t)
bound_of (array vs) = none
bound_of (object ms) = none

unfoldable pub comparison_part : Text → Json → Option Part
comparison_part key v =
    cond (same_bytes key (ascii "left")) (some (left (value_of v)))
    (cond (same_bytes key (ascii "op")) (which_of v)
    (cond (same_bytes key (ascii "right")) (some (right (value_of v))) none))

-- of `that` a condition is asked
unfoldable pub quantifier_part : Option Condition → Text → Json → Option Part
quantifier_part c key v =
    cond (same_bytes key (ascii "in")) (some (over (value_of v)))
    (cond (same_bytes key (ascii "as")) (bound_of v)
    (cond (same_bytes key (ascii "that")) (map body c) none))

unfoldable pub comparison_parts : Members → Option (List Part)
comparison_parts no_members = some []
comparison_parts (member key v others) = bind (comparison_part key v) (λ p. map (λ (ps : List Part). p ∷ ps) (comparison_parts others))

unfoldable pub comparison_in : Json → Option Condition
comparison_in null = none
comparison_in (truth b) = none
comparison_in (number digits) = none
comparison_in (string t) = none
comparison_in (array vs) = none
comparison_in (object ms) = bind (comparison_parts ms) comparison_from

-- exactly two values
unfoldable pub two_from : ℕ → List Value → Option Condition
two_from op [] = none
two_from op (l ∷ []) = none
two_from op (l ∷ r ∷ []) = some (two 0 op l r)
two_from op (l ∷ r ∷ v ∷ vs) = none

unfoldable pub listed : Elements → List Value
listed no_elements = []
listed (element v others) = value_of v ∷ listed others

unfoldable pub two_in : ℕ → Json → Option Condition
two_in op null = none
two_in op (truth b) = none
two_in op (number digits) = none
two_in op (string t) = none
two_in op (array vs) = two_from op (listed vs)
two_in op (object ms) = none

unfoldable pub conditions_from : List Condition → Conditions
conditions_from [] = no_conditions
conditions_from (c ∷ cs) = condition c (conditions_from cs)

-- exactly one
unfoldable pub the_only : {A : Type 0} → List A → Option A
the_only [] = none
the_only (a ∷ []) = some a
the_only (a ∷ b ∷ others) = none

-- Conditions: what an operator makes of its operand, given what that is as a condition, as conditions, and as the parts of a quantifier

unfoldable pub operation : Shape → ℕ → Json → Option Condition → Option (List Condition) → Option (List Part) → Option Condition
operation Operators.literal op v c cs ps = none
operation Operators.many op v c cs ps = map (λ (xs : List Condition). many 0 op (conditions_from xs)) cs
operation Operators.negation op v c cs ps = map (negation 0) c
operation Operators.one op v c cs ps = some (one 0 op (value_of v))
operation Operators.two op v c cs ps = two_in op v
operation Operators.comparison op v c cs ps = comparison_in v
operation Operators.quantifier op v c cs ps = bind ps (quantifier_from op)

-- `true`, `false`, or an object of which every member is an operator, and that has exactly one
unfoldable mutual
  pub condition_of : Json → Option Condition
  condition_of null = none
  condition_of (truth b) = some (literal 0 b)
  condition_of (number digits) = none
  condition_of (string t) = none
  condition_of (array vs) = none
  condition_of (object ms) = bind (operations ms) the_only

  pub operations : Members → Option (List Condition)
  operations no_members = some []
  operations (member key v others) =
      bind (operation (shape_of (operator_of key)) (operator_of key) v (condition_of v) (children_of v) (parts_of v))
      (λ c. map (λ (cs : List Condition). c ∷ cs) (operations others))

  pub children_of : Json → Option (List Condition)
  children_of null = none
  children_of (truth b) = none
  children_of (number digits) = none
  children_of (string t) = none
  children_of (array vs) = conditions_of vs
  children_of (object ms) = none

  pub conditions_of : Elements → Option (List Condition)
  conditions_of no_elements = some []
  conditions_of (element v others) = bind (condition_of v) (λ c. map (λ (cs : List Condition). c ∷ cs) (conditions_of others))

  pub parts_of : Json → Option (List Part)
  parts_of null = none
  parts_of (truth b) = none
  parts_of (number digits) = none
  parts_of (string t) = none
  parts_of (array vs) = none
  parts_of (object ms) = quantifier_parts ms

  pub quantifier_parts : Members → Option (List Part)
  quantifier_parts no_members = some []
  quantifier_parts (member key v others) =
      bind (quantifier_part (condition_of v) key v) (λ p. map (λ (ps : List Part). p ∷ ps) (quantifier_parts others))

-- what an operator makes of its operand
unfoldable pub operation_of : ℕ → Json → Option Condition
operation_of op v = operation (shape_of op) op v (condition_of v) (children_of v) (parts_of v)

-- Rules: `assert`, and perhaps `name` and `message`, where null is as good as nothing

pub data RulePart : Type 0 where
  asserts : (c : Condition) → RulePart
  names : (t : Option Text) → RulePart
  says : (t : Option Text) → RulePart

unfoldable pub as_assert : RulePart → Option Condition
as_assert (asserts c) = some c
as_assert (names t) = none
as_assert (says t) = none

unfoldable pub as_name : RulePart → Option Text
as_name (asserts c) = none
as_name (names t) = t
as_name (says t) = none

unfoldable pub as_message : RulePart → Option Text
as_message (asserts c) = none
as_message (names t) = none
as_message (says t) = t

unfoldable pub optional_of : Json → Option (Option Text)
optional_of null = some none
optional_of (truth b) = none
optional_of (number digits) = none
optional_of (string t) = some (some t)
optional_of (array vs) = none
optional_of (object ms) = none

unfoldable pub rule_part : Text → Json → Option RulePart
rule_part key v =
    cond (same_bytes key (ascii "name")) (map names (optional_of v))
    (cond (same_bytes key (ascii "assert")) (map asserts (condition_of v))
    (cond (same_bytes key (ascii "message")) (map says (optional_of v)) none))

unfoldable pub rule_parts : Members → Option (List RulePart)
rule_parts no_members = some []
rule_parts (member key v others) = bind (rule_part key v) (λ p. map (λ (ps : List RulePart). p ∷ ps) (rule_parts others))

unfoldable pub rule_from : List RulePart → Option Rule
rule_from parts = map (rule (first_of as_name parts) (first_of as_message parts)) (first_of as_assert parts)

unfoldable pub rule_of : Json → Option Rule
rule_of null = none
rule_of (truth b) = none
rule_of (number digits) = none
rule_of (string t) = none
rule_of (array vs) = none
rule_of (object ms) = cond (none_twice (keys_of ms)) (bind (rule_parts ms) rule_from) none
