-- The whole message of a defect (docs/FORMAT.md, "Messages"): what validation.rs puts into the error's `message`, `key`, `depth`, `side`, `bind`
-- or `detail`.
use Rattle.std.specs.Prelude.{ℕ, Bool, cond, ◌||◌, List, [], ◌∷◌, ◌++◌, eqb, drop}
use Rattle.std.proofs.Math.Option.{Option, none, some, get_or}
use Rattle.text.specs.Ascii.{ascii}
use Rattle.text.specs.Reader.{or_else}
use Rattle.text.specs.Numeral.{decimal_of}
use Rattle.definition.specs.Tree.{Text, Schema, Value, constant, number, string, array, object, Values, no_values, value, Pairs, no_pairs, pair, Condition, literal, many, negation, one, two, comparison, quantifier, Conditions, no_conditions, condition, Rule, rule, template}
use Rattle.reference.specs.Setting.{Setting}
use Rattle.reference.specs.Reference.{Environment}
use Rattle.validation.specs.Check.{Question, settled, readable, walkable, Check, entry_of, depth}
use Rattle.validation.specs.Judge.{Failure, environment, Verdict, all_pass, fails_at}
use Rattle.sheet.specs.Operators.{literal_operator, not_operator, compare_operator, operator_name}
use Rattle.json_rule.specs.AsJson.{json_of}
use Rattle.message.specs.Words.{in_quotes}
use Rattle.message.specs.Tell.{tell_reference, tell_collection}

-- The value and the condition of an entry.

unfoldable pub here_else : {A : Type 0} → (is_here : Bool) → A → Option A → Option A
here_else is_here a others = cond is_here (some a) others

unfoldable mutual
  pub value_in : (place : ℕ) → Value → Option Value
  value_in place (constant e type) = here_else (eqb e place) (constant e type) none
  value_in place (number e digits) = here_else (eqb e place) (number e digits) none
  value_in place (string e t) = here_else (eqb e place) (string e t) none
  value_in place (array e vs) = here_else (eqb e place) (array e vs) (value_in_values place vs)
  value_in place (object e pairs) = here_else (eqb e place) (object e pairs) (value_in_pairs place pairs)

  pub value_in_values : (place : ℕ) → Values → Option Value
  value_in_values place no_values = none
  value_in_values place (value v others) = or_else (value_in place v) (value_in_values place others)

  pub value_in_pairs : (place : ℕ) → Pairs → Option Value
  value_in_pairs place no_pairs = none
  value_in_pairs place (pair key v others) = or_else (value_in place v) (value_in_pairs place others)

unfoldable mutual
  pub value_in_condition : (place : ℕ) → Condition → Option Value
  value_in_condition place (literal e truth) = none
  value_in_condition place (many e op children) = value_in_conditions place children
  value_in_condition place (negation e child) = value_in_condition place child
  value_in_condition place (one e op v) = value_in place v
  value_in_condition place (two e op left right) = or_else (value_in place left) (value_in place right)
  value_in_condition place (comparison e which left right) = or_else (value_in place left) (value_in place right)
  value_in_condition place (quantifier e op bind over body) = or_else (value_in place over) (value_in_condition place body)

  pub value_in_conditions : (place : ℕ) → Conditions → Option Value
  value_in_conditions place no_conditions = none
  value_in_conditions place (condition c others) = or_else (value_in_condition place c) (value_in_conditions place others)

unfoldable pub value_at : (place : ℕ) → Rule → Option Value
value_at place (rule name message assert) = value_in_condition place assert
value_at place (template v) = value_in place v

-- operator and bind of a condition
pub record Head : Type 0 where
  pub op : ℕ
  pub bind : Text

abbrev pub head : ℕ → Text → Head
head op bind = record { op = op; bind = bind }

unfoldable mutual
  pub head_in : (place : ℕ) → Condition → Option Head
  head_in place (literal e truth) = here_else (eqb e place) (head literal_operator []) none
  head_in place (many e op children) = here_else (eqb e place) (head op []) (head_in_conditions place children)
  head_in place (negation e child) = here_else (eqb e place) (head not_operator []) (head_in place child)
  head_in place (one e op v) = here_else (eqb e place) (head op []) none
  head_in place (two e op left right) = here_else (eqb e place) (head op []) none
  head_in place (comparison e which left right) = here_else (eqb e place) (head compare_operator []) none
  head_in place (quantifier e op bind over body) = here_else (eqb e place) (head op bind) (head_in place body)

  pub head_in_conditions : (place : ℕ) → Conditions → Option Head
  head_in_conditions place no_conditions = none
  head_in_conditions place (condition c others) = or_else (head_in place c) (head_in_conditions place others)

-- a template has no condition
unfoldable pub head_of : Rule → (place : ℕ) → Option Head
head_of (rule name message assert) place = head_in place assert
head_of (template v) place = none

unfoldable pub head_at : (place : ℕ) → Rule → Head
head_at place r = get_or (head_of r place) (head 0 [])

unfoldable pub depth_in : Rule → ℕ
depth_in (rule name message assert) = depth assert
depth_in (template v) = 0

unfoldable pub json_at : Option Value → Text
json_at none = []
json_at (some v) = json_of v

-- a string without its first byte
unfoldable pub unescaped_at : Option Value → Text
unescaped_at none = []
unescaped_at (some (constant e type)) = []
unescaped_at (some (number e digits)) = []
unescaped_at (some (string e t)) = drop 1 t
unescaped_at (some (array e vs)) = []
unescaped_at (some (object e pairs)) = []

-- `unreadable_instant`
unfoldable pub instant_forms : Text
instant_forms =
    ascii ", so the comparison would be unobservable at every evaluation; an operand of 'before'/'after' is either a '$' reference or a literal instant written "
    ++ ascii "`YYYY-MM-DD` or `YYYY-MM-DDTHH:MM:SS[.fff][Z]`, where a space may stand in for the `T` and an explicit offset is not read"

unfoldable pub instant_sentence : (detail : ℕ) → Option Value → Text
instant_sentence d v =
    cond (eqb d 1)
    (json_at v ++ (ascii " escapes to the literal " ++ (in_quotes (unescaped_at v) ++ (ascii ", which is not an instant this kernel reads" ++ instant_forms))))
    (json_at v ++ (ascii " is not an instant this kernel reads" ++ instant_forms))

unfoldable pub literal_sentence : Option Value → Text
literal_sentence v = json_at v ++ ascii " is outside the source observation domain, so the comparison would be unevaluable at every evaluation"

unfoldable pub affix_sentence : Option Value → Text
affix_sentence v = json_at v ++ ascii " is not a string, so the rule would be false at every evaluation; quote it if it is meant as text"

unfoldable pub empty_sentence : (op : ℕ) → Text
empty_sentence op = in_quotes (operator_name op) ++ ascii " must contain at least one condition"

-- 14, 19 and 20 have a value in their message
unfoldable pub names_value : (defect : ℕ) → Bool
names_value n = eqb n 14 || (eqb n 19 || eqb n 20)

unfoldable pub value_sentence : (defect detail : ℕ) → Option Value → Text
value_sentence defect detail v = cond (eqb defect 14) (literal_sentence v) (cond (eqb defect 19) (affix_sentence v) (instant_sentence detail v))

-- 15, 16 and 21 an operator or a bind
unfoldable pub names_head : (defect : ℕ) → Bool
names_head n = eqb n 15 || (eqb n 16 || eqb n 21)

unfoldable pub head_sentence : (defect : ℕ) → Head → Text
head_sentence defect h = cond (eqb defect 15) (operator_name h.op) (cond (eqb defect 16) (empty_sentence h.op) h.bind)

-- a check that no schema answers, by its number, detail and place
unfoldable pub settled_sentence : Rule → (defect detail place : ℕ) → Text
settled_sentence r defect detail place =
    cond (eqb defect 11) (ascii "rule name cannot be empty")
    (cond (eqb defect 12) (ascii "rule message cannot be empty")
    (cond (eqb defect 13) (decimal_of (depth_in r))
    (cond (eqb defect 17) (cond (eqb detail 1) (ascii "left") (ascii "right"))
    (cond (names_value defect) (value_sentence defect detail (value_at place r)) (head_sentence defect (head_at place r))))))

-- one that a schema answers says what the walk says, under the binders around it
unfoldable pub asked_sentence : (kind : ℕ) → Setting → Schema → Rule → Check → (detail : ℕ) → Question → Environment → Text
asked_sentence kind setting t r c detail (settled o) env = settled_sentence r c.number detail c.place
asked_sentence kind setting t r c detail (readable x) env = get_or (tell_reference kind setting t env x) []
asked_sentence kind setting t r c detail (walkable v) env = get_or (tell_collection t env v) []

unfoldable pub sentence_under : (kind : ℕ) → Setting → Schema → Rule → Check → (detail : ℕ) → Option Environment → Text
sentence_under kind setting t r c detail none = []
sentence_under kind setting t r c detail (some env) = asked_sentence kind setting t r c detail c.question env

-- of a verdict: nothing where all checks pass
unfoldable pub message_of : (kind : ℕ) → Setting → Schema → Rule → Verdict → Text
message_of kind setting t r (all_pass passed) = []
message_of kind setting t r (fails_at passed c why) = sentence_under kind setting t r c why.detail (environment t c.binders)
