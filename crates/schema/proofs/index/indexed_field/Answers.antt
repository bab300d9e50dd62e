-- `schema::index::indexed_field` meets its contract: the head that is read is that of the field in the slot.
use Prim.Native.Nat.{◌%◌}
use native.Mathlib.Omega.{arith}
use Rattle.schema.proofs.FieldSteps.{to_count-small}
use Rattle.schema.proofs.Parts.{headless-parts, indexed-parts}
use Rattle.schema.proofs.index.indexed_field.Goals as goal

pub returns-in_default : goal.returns-in_default
returns-in_default c =
    headless-parts c.args.sheet.now c.args.words.now c.args.k _ (rw c.in_default.is at c.head_of.ensures)

pub overflow_add-members : goal.overflow_add-members
overflow_add-members c = omega (arith, to_count-small c.in-Some.head.items)

pub returns : goal.returns
returns c =
    let e = rw c.in-Some.is at c.head_of.ensures in
    indexed-parts c.args.sheet.now c.args.words.now c.args.k c.in-Some.head c.in-Some.field-0-1 c.place_word.result (c.name_word.result % 4096) c.to_count.result c.element_at-element.result e c.place_word.ensures (rw c.name_word.ensures) c.to_count.ensures c.element_at-element.ensures
