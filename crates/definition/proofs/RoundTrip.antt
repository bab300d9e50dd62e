-- A sheet decodes to a tree exactly if the sheet is the tree's writing and the tree is within the limits.
use Rattle.std.specs.Prelude.{ℕ, ◌≤◌, List, ◌↔◌, ◌≡◌}
use Rattle.std.proofs.Math.Option.{some}
use Rattle.std.proofs.Common.{arith}
use Rattle.definition.specs.Tree.{Schema, Rule}
use Rattle.definition.specs.Limits.{max_schema_entries, max_rule_entries}
use Rattle.definition.specs.Decode.{decode_schema, decode_rule}
use Rattle.definition.specs.Write.{write_schema, write_rule}
use Rattle.definition.specs.Within.{schema_entries, SchemaRises, SchemaWithin, RuleWithin}
use Rattle.definition.proofs.SheetLaws.{schema-law, rule-law, whole-sound, whole-complete}

pub schema-round-trip : (s : List ℕ) (t : Schema) → (decode_schema s ≡ some t) ↔ ((s ≡ write_schema t) × SchemaWithin t)
unfolding decode_schema
schema-round-trip s t = (
  λ e.
      let r = whole-sound max_schema_entries schema-law s t e in
      let g = r.3 in
      (r.0, record { entries = r.1; bytes = rw r.0 at r.2; nesting = g.nesting; rises = g.rises; fits = g.fits; numbers = g.numbers }),
  λ h.
      let g = h.1 in
      whole-complete max_schema_entries schema-law (omega arith) s t
      (h.0, g.entries, rw h.0 g.bytes, record { nesting = g.nesting; rises = g.rises; fits = g.fits; numbers = g.numbers }),
)

pub rule-round-trip : (s : List ℕ) (t : Rule) → (decode_rule s ≡ some t) ↔ ((s ≡ write_rule t) × RuleWithin t)
unfolding decode_rule
rule-round-trip s t = (
  λ e.
      let r = whole-sound max_rule_entries rule-law s t e in
      (r.0, record { entries = r.1; bytes = rw r.0 at r.2; fits = r.3.0; numbers = r.3.1 }),
  λ h.
      let g = h.1 in
      whole-complete max_rule_entries rule-law (omega arith) s t (h.0, g.entries, rw h.0 g.bytes, (g.fits, g.numbers)),
)

-- sibling names in the tree of a well formed sheet rise
pub schema-rises : (s : List ℕ) (t : Schema) → decode_schema s ≡ some t → SchemaRises t
schema-rises s t e = ((schema-round-trip s t).0 e).1.rises

-- and it has at most as many entries as a schema sheet may have
pub schema-entries : (s : List ℕ) (t : Schema) → decode_schema s ≡ some t → schema_entries t ≤ max_schema_entries
schema-entries s t e = ((schema-round-trip s t).0 e).1.entries
