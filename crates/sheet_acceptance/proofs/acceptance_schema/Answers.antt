use Rattle.std.specs.Prelude.{ℕ, List, Bool, true, false, Option, Some, None, ◌≡◌, is_some}
use mathlib.Core.Path.{sym, ◌∙◌}
use Rattle.std.proofs.lemmas.Bool.{false≢true}
use Rattle.definition.specs.Decode.{decode_schema}
use Rattle.schema.specs.declared.read.Schema.{Schema}
use Rattle.schema.specs.Read.{SchemaAnswer}
use Rattle.sheet_acceptance.specs.Accepted.{accepted}
use Rattle.sheet_acceptance.proofs.acceptance_schema.Goals as goal

module _ {sheet before after : List ℕ} {b : Bool} where
  found : (r : Option Schema) → SchemaAnswer sheet before after r → b ≡ is_some r → b ≡ true → 1 ≡ accepted (decode_schema sheet)
  found (Some x) a e t = rw a.answer.reads
  found None a e t = absurd (false≢true (sym e ∙ t))

  refused : (r : Option Schema) → SchemaAnswer sheet before after r → b ≡ is_some r → b ≡ false → 0 ≡ accepted (decode_schema sheet)
  refused (Some x) a e t = absurd (false≢true (sym t ∙ e))
  refused None a e t = rw a.answer

pub returns-then-is_some : goal.returns-then-is_some
returns-then-is_some c = found c.read_schema-schema.result c.read_schema-schema.ensures c.is_some.ensures c.if-is_some.true

pub returns-else-is_some : goal.returns-else-is_some
returns-else-is_some c = refused c.read_schema-schema.result c.read_schema-schema.ensures c.is_some.ensures c.if-is_some.false
