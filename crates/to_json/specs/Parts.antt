-- A condition's JSON in three parts: what is in front of the conditions that it holds, these with commas between, and what is behind them.
use Rattle.std.specs.Prelude.{ℕ, cond, List, [], ◌∷◌, ◌++◌, leb, ltb}
use Rattle.std.proofs.Math.Option.{Option, none, some}
use Rattle.text.specs.Ascii.{ascii}
use Rattle.sheet.specs.Operators.{operator_name, literal_operator, not_operator, compare_operator, truthy_operator}
use Rattle.json_text.specs.Json.{truth}
use Rattle.json_text.specs.Escaped.{plain, quoted, written}
use Rattle.definition.specs.Tree.{Text, Value, Condition, literal, many, negation, one, two, comparison, quantifier, Conditions, no_conditions, condition}
use Rattle.json_rule.specs.AsJson.{comparison_name, as_json, condition_as_json}

unfoldable pub value_text : Value → List ℕ
value_text v = written plain (as_json v)

-- an object with that operator, up to its operand
unfoldable pub opened : (op : ℕ) → List ℕ
opened op = ascii "{\"" ++ (operator_name op ++ ascii "\":")

unfoldable pub front_of : Condition → List ℕ
front_of (literal e t) = written plain (truth t)
front_of (many e op children) = opened op ++ ascii "["
front_of (negation e child) = opened not_operator
front_of (one e op v) = opened op ++ (value_text v ++ ascii "}")
front_of (two e op left right) = (opened op ++ ascii "[") ++ (value_text left ++ (ascii "," ++ (value_text right ++ ascii "]}")))
front_of (comparison e which left right) =
    opened compare_operator
    ++ (ascii "{\"left\":" ++ (value_text left ++ (ascii ",\"op\":\"" ++ (comparison_name which ++ (ascii "\",\"right\":" ++ (value_text right ++ ascii "}}"))))))
front_of (quantifier e op name over body) =
    opened op ++ (ascii "{\"in\":" ++ (value_text over ++ (ascii ",\"as\":" ++ (quoted plain name ++ ascii ",\"that\":"))))

-- by the operator: `all` and `any`, `not`, and the quantifiers hold conditions
unfoldable pub closing : (op : ℕ) → List ℕ
closing op =
    cond (leb op literal_operator) []
    (cond (ltb op not_operator) (ascii "]}") (cond (leb op not_operator) (ascii "}") (cond (leb op truthy_operator) [] (ascii "}}"))))

-- each after a comma, if one is before it
unfoldable pub joined : (before : List ℕ) → Conditions → List ℕ
joined before no_conditions = []
joined before (condition c others) = before ++ (written plain (condition_as_json c) ++ joined (0x2C ∷ []) others)

-- of the rule: in front of `assert`'s condition, and behind it

unfoldable pub name_text : Option Text → List ℕ
name_text none = ascii "{\"assert\":"
name_text (some t) = ascii "{\"name\":" ++ (quoted plain t ++ ascii ",\"assert\":")

unfoldable pub message_text : Option Text → List ℕ
message_text none = ascii "}"
message_text (some t) = ascii ",\"message\":" ++ (quoted plain t ++ ascii "}")
