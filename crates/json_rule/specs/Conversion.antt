-- Rules from JSON and back (document 02, T-01): which rule a text is, and the two calls with their refusals.
use Rattle.std.specs.Prelude.{ℕ, Bool, true, false, cond, not, List, [], ◌∷◌, leb, length}
use Rattle.std.proofs.Math.Option.{Option, none, some, bind}
use Rattle.json_text.specs.Json.{Json}
use Rattle.json_text.specs.Grammar.{document}
use Rattle.json_text.specs.Distinct.{distinct}
use Rattle.json_text.specs.Escaped.{plain, written}
use Rattle.definition.specs.Tree.{Rule}
use Rattle.definition.specs.Decode.{decode_rule}
use Rattle.definition.specs.Write.{write_rule}
use Rattle.call.specs.Call.{Refusal, Reply, holding, if_told, Shape, Run}
use Rattle.json_rule.specs.Shape.{rule_of}
use Rattle.json_rule.specs.AsJson.{rule_as_json}

-- what is lent: the bytes to convert, and how many there is room for
pub record Conversion : Type 0 where
  pub bytes : List ℕ
  pub room : ℕ

unfoldable pub is_missing : {A : Type 0} → Option A → Bool
is_missing none = true
is_missing (some a) = false

-- of a buffer that the result does not fit
unfoldable pub of_room : Conversion → (result : List ℕ) → Refusal
of_room c result = record { number = 33; is_due = not (leb (length result) c.room) }

-- the result lies at the start of its buffer, and its length is told
abbrev pub converting : (Conversion → List Refusal) → (Conversion → List ℕ) → Shape Conversion (List ℕ)
converting refusals makes =
    record { refusals = refusals; tells = makes; size = 1; figures = λ (result : List ℕ). length result ∷ []; leaves = λ (r : Reply (List ℕ)). if_told holding r ∷ [] }

-- what a caller has before and after: the buffer lent, and the two numbers
abbrev pub run_of : (bytes before after numbers : List ℕ) → Run Conversion
run_of bytes before after numbers =
    record { call = record { bytes = bytes; room = length before }; result = numbers; buffers = record { before = before; after = after } ∷ [] }

-- From JSON

-- the rule that a text is: JSON in the shape of a rule, no key twice
unfoldable pub rule_in : (text : List ℕ) → Option Rule
rule_in text = bind (document text) (λ (j : Json). cond (distinct j) (rule_of j) none)

unfoldable pub sheet_of : Option Rule → List ℕ
sheet_of none = []
sheet_of (some r) = write_rule r

unfoldable pub sheet_from : Conversion → List ℕ
sheet_from c = sheet_of (rule_in c.bytes)

-- no such text, then a sheet over a limit, then no room
unfoldable pub from_json_refusals : Conversion → List Refusal
from_json_refusals c =
    record { number = 31; is_due = is_missing (rule_in c.bytes) }
    ∷ record { number = 32; is_due = is_missing (decode_rule (sheet_from c)) }
    ∷ of_room c (sheet_from c)
    ∷ []

abbrev pub from_json : Shape Conversion (List ℕ)
from_json = converting from_json_refusals sheet_from

-- To JSON

unfoldable pub json_in : (sheet : List ℕ) → Option Json
json_in sheet = bind (decode_rule sheet) rule_as_json

unfoldable pub text_of : Option Json → List ℕ
text_of none = []
text_of (some j) = written plain j

unfoldable pub text_from : Conversion → List ℕ
text_from c = text_of (json_in c.bytes)

-- no well-formed sheet of a rule, then no room
unfoldable pub to_json_refusals : Conversion → List Refusal
to_json_refusals c = record { number = 5; is_due = is_missing (json_in c.bytes) } ∷ of_room c (text_from c) ∷ []

abbrev pub to_json : Shape Conversion (List ℕ)
to_json = converting to_json_refusals text_from
