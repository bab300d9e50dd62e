-- A rule that is read in its shape: no tree of JSON is made on the way.
use Rattle.std.specs.Prelude.{ℕ, cond, List, map}
use Rattle.std.proofs.Math.Option.{Option, none}
use Rattle.text.specs.Ascii.{ascii}
use Rattle.text.specs.ByteReaders.{byte}
use Rattle.text.specs.Order.{same_bytes, none_twice}
use Rattle.text.specs.Reader.{Reader, ◌>>=◌, ◌>>◌, pure, refuse}
use Rattle.json_text.specs.Json.{Text}
use Rattle.json_text.specs.Grammar.{spaces, value, at_end}
use Rattle.json_text.proofs.ShapedMembers.{members_as}
use Rattle.definition.specs.Tree.{Rule}
use Rattle.json_rule.specs.Shape.{RulePart, asserts, names, says, optional_of, rule_from}
use Rattle.json_rule.specs.Streamed.{asked, streamed}

-- a member of the rule's own object, with its name
abbrev pub NamedPart : Type 0
NamedPart = Text × RulePart

unfoldable pub rule_member : ℕ → Text → Reader (List ℕ) NamedPart
rule_member d key =
    cond (same_bytes key (ascii "name")) (value d >>= asked optional_of >>= λ t. pure (key, names t))
    (cond (same_bytes key (ascii "assert")) (streamed d >>= λ c. pure (key, asserts c))
    (cond (same_bytes key (ascii "message")) (value d >>= asked optional_of >>= λ t. pure (key, says t)) refuse))

unfoldable pub names_of : List NamedPart → List Text
names_of ps = map (λ (p : NamedPart). p.0) ps

unfoldable pub parts_named : List NamedPart → List RulePart
parts_named ps = map (λ (p : NamedPart). p.1) ps

-- no member twice
unfoldable pub rule_made : List NamedPart → Option Rule
rule_made ps = cond (none_twice (names_of ps)) (rule_from (parts_named ps)) none

-- how deep what the rule's own object holds may nest
abbrev pub held_depth : ℕ
held_depth = 1023

-- behind the opening bracket
unfoldable pub rule_rest : Reader (List ℕ) Rule
rule_rest = members_as (rule_member held_depth) >>= asked rule_made

unfoldable pub rule_text : Reader (List ℕ) Rule
rule_text = do
  spaces
  byte 0x7B
  r ← rule_rest
  spaces
  at_end
  pure r
