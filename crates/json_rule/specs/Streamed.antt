-- Conditions that are read in their shape: no tree of JSON is made on the way.
use Rattle.std.specs.Prelude.{ℕ, zero, suc, cond, List}
use Rattle.std.proofs.Math.Option.{Option, none, map}
use Rattle.text.specs.Ascii.{ascii}
use Rattle.sheet.specs.Operators.{Shape, shape_of}
use Rattle.text.specs.ByteReaders.{byte}
use Rattle.sheet.specs.Operators as Operators
use Rattle.text.specs.Order.{same_bytes}
use Rattle.text.specs.Reader.{Reader, ◌>>=◌, ◌>>◌, pure, refuse, either}
use Rattle.json_text.specs.Json.{Text, Json}
use Rattle.json_text.specs.Grammar.{scalar, value}
use Rattle.json_text.proofs.ShapedMembers.{elements_as, members_as}
use Rattle.definition.specs.Tree.{Value, Condition, many, negation, one}
use Rattle.json_rule.specs.Shape.{value_of, operator_of, Part, over, body, bound_of, comparison_part, comparison_from, quantifier_from, two_from, conditions_from, the_only, condition_of}

-- nothing is read; what was read is taken in a shape
unfoldable pub asked : {A B : Type 0} → (A → Option B) → A → Reader (List ℕ) B
asked f a s = map (λ b. (b, s)) (f a)

-- `true` or `false`
unfoldable pub literals : Reader (List ℕ) Condition
literals = scalar >>= asked condition_of

unfoldable pub quantifier_member : Reader (List ℕ) Json → Reader (List ℕ) Condition → Text → Reader (List ℕ) Part
quantifier_member p c key =
    cond (same_bytes key (ascii "in")) (p >>= λ v. pure (over (value_of v)))
    (cond (same_bytes key (ascii "as")) (p >>= asked bound_of)
    (cond (same_bytes key (ascii "that")) (c >>= λ x. pure (body x)) refuse))

-- an operand where nothing may nest
unfoldable pub flat : Shape → ℕ → Reader (List ℕ) Condition → Reader (List ℕ) Condition
flat Operators.literal op c = refuse
flat Operators.many op c = refuse
flat Operators.negation op c = c >>= λ x. pure (negation 0 x)
flat Operators.one op c = value zero >>= λ v. pure (one 0 op (value_of v))
flat Operators.two op c = refuse
flat Operators.comparison op c = refuse
flat Operators.quantifier op c = refuse

-- and where arrays and objects may hold what nests less by one
unfoldable pub deep : Shape → ℕ → Reader (List ℕ) Condition → ℕ → Reader (List ℕ) Condition → Reader (List ℕ) Condition
deep Operators.literal op c d inner = refuse
deep Operators.many op c d inner = byte 0x5B >> (elements_as inner >>= λ cs. pure (many 0 op (conditions_from cs)))
deep Operators.negation op c d inner = c >>= λ x. pure (negation 0 x)
deep Operators.one op c d inner = value (suc d) >>= λ v. pure (one 0 op (value_of v))
deep Operators.two op c d inner = byte 0x5B >> (elements_as (value d >>= λ v. pure (value_of v)) >>= asked (two_from op))
deep Operators.comparison op c d inner = byte 0x7B >> (members_as (λ key. value d >>= asked (comparison_part key)) >>= asked comparison_from)
deep Operators.quantifier op c d inner = byte 0x7B >> (members_as (quantifier_member (value d) inner) >>= asked (quantifier_from op))

unfoldable mutual
  pub streamed : ℕ → Reader (List ℕ) Condition
  streamed zero = literals
  streamed (suc d) = either literals (byte 0x7B >> (members_as (λ key s. operand d (λ t. streamed d t) (operator_of key) s) >>= asked the_only))

  -- what follows an operator's name, given the reader of conditions that nest as deep
  pub operand : ℕ → Reader (List ℕ) Condition → ℕ → Reader (List ℕ) Condition
  operand zero c op = flat (shape_of op) op c
  operand (suc d) c op = deep (shape_of op) op c d (λ s. streamed d s)
