-- What is found in two schemas.
use Rattle.std.specs.Prelude.{ℕ, List, [], ◌∷◌, ◌≡◌, Option as Optional, Some, None}
use Rattle.std.proofs.Math.Option.{Option, some}
use Rattle.sheet.specs.Places as heads
use Rattle.definition.specs.Tree.{Holder, Schema}
use Rattle.definition.specs.Decode.{Ahead, arguments_of, decode_schema}
use Rattle.widening.specs.Decision.{mark_closes, arguments_go, Difference, growth, breach, breach_if, closes, arguments_differences, widens}
use Rattle.schema_change.specs.declared.answer.Change.{Change}
use Rattle.schema_change.specs.declared.field.Going.{Going}
use Rattle.schema_change.specs.Answers.{decision_of, Goes}
use Rattle.schema_change.specs.Fields.{At}
use Rattle.sheet.specs.declared.schema_heads.HolderHead.{HolderHead}

-- what two heads say of the arguments
unfoldable pub arguments_head_marks : Optional HolderHead → Optional HolderHead → List Difference
arguments_head_marks None None = []
arguments_head_marks None (Some h) = growth ∷ []
arguments_head_marks (Some g) None = breach arguments_go 1 0 ∷ []
arguments_head_marks (Some g) (Some h) = breach_if (closes g.opened h.opened) mark_closes 1 1

pub record ArgumentsGo (first : List ℕ) (x : Optional HolderHead) (second : List ℕ) (y : Optional HolderHead) (from : Going) (r : Change) : Type 0 where
  pub go : (a a' : Ahead) (t t' : Option Holder) (b b' : Ahead) → At first a second a' from
      → arguments_of (heads.arguments_of x) a ≡ some (t, b)
      → arguments_of (heads.arguments_of y) a' ≡ some (t', b')
      → Goes from.found (arguments_differences t t') r

pub record SchemasGo (first second : List ℕ) (r : Change) : Type 0 where
  pub is : (t t' : Schema) → decode_schema first ≡ some t → decode_schema second ≡ some t' → decision_of r ≡ widens t t'
