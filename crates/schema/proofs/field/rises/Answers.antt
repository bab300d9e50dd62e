-- `schema::field::rises` meets its contract, by how the two names compare.
use mathlib.Core.Bool.{true, false}
use Rattle.text.specs.Parts.{part_of}
use Rattle.schema.proofs.Names.{rises-first, rises-behind}
use Rattle.schema.proofs.field.rises.Goals as goal

pub returns-then-i-eq0 : goal.returns-then-i-eq0
returns-then-i-eq0 c = rises-first c.args.sheet.now c.args.i c.args.before (part_of c.args.sheet.now c.args.name) c.if-i-eq0.true

pub returns-in-Less : goal.returns-in-Less
returns-in-Less c =
    rises-behind c.args.sheet.now c.args.i c.args.before (part_of c.args.sheet.now c.args.name) true c.if-i-eq0.false (rw (← c.bytes_of.ensures, ← c.bytes_of-2.ensures) (rw c.in-Less.is at c.compare.ensures).before-is)

pub returns-in-Equal : goal.returns-in-Equal
returns-in-Equal c =
    rises-behind c.args.sheet.now c.args.i c.args.before (part_of c.args.sheet.now c.args.name) false c.if-i-eq0.false (rw (← c.bytes_of.ensures, ← c.bytes_of-2.ensures) (rw c.in-Equal.is at c.compare.ensures).before-is)

pub returns-in-Greater : goal.returns-in-Greater
returns-in-Greater c =
    rises-behind c.args.sheet.now c.args.i c.args.before (part_of c.args.sheet.now c.args.name) false c.if-i-eq0.false (rw (← c.bytes_of.ensures, ← c.bytes_of-2.ensures) (rw c.in-Greater.is at c.compare.ensures).before-is)
