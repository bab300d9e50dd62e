-- `schema::read::read_schema` meets its contract: a law for each way to refuse a sheet, and one for the way to accept it.
use native.Mathlib.Omega.{arith}
use Rattle.sheet.specs.Places.{schema_of}
use Rattle.schema.proofs.Slots.{kept-all, kept_more}
use Rattle.schema.proofs.SchemaSteps.{schema-long, schema-headless, schema-fieldless, schema-argumentless, behind-ready, schema-unended, schema-good}
use Rattle.schema.proofs.read.read_schema.Goals as goal

pub returns-then-sheet-gt-MAX_SHEET_BYTES : goal.returns-then-sheet-gt-MAX_SHEET_BYTES
returns-then-sheet-gt-MAX_SHEET_BYTES c =
    record { kept = kept-all c.args.scratch.now; answer = schema-long c.args.sheet.now c.if-sheet-gt-MAX_SHEET_BYTES.true }

pub returns-in_err-head : goal.returns-in_err-head
returns-in_err-head c = rw c.from_residual.ensures (record { kept = kept-all c.args.scratch.now; answer = schema-headless c.args.sheet.now c.if-sheet-gt-MAX_SHEET_BYTES.false (rw c.in_err-head.was at c.schema_head.ensures) })

pub read_holder-requires : goal.read_holder-requires
read_holder-requires c =
    let e = rw c.in_ok-head.was at c.schema_head.ensures in
    record { sheet = c.if-sheet-gt-MAX_SHEET_BYTES.false; scratch = omega (arith, c.requires); at = e.0.within; used = omega arith; slots = omega arith; entries = omega arith }

pub returns-in_err-fields : goal.returns-in_err-fields
unfolding schema_of
returns-in_err-fields c = rw c.from_residual-in_err-fields.ensures (let e = rw c.in_ok-head.was at c.schema_head.ensures in
    record { kept = c.read_holder.ensures.kept; answer = schema-fieldless c.args.sheet.now c.if-sheet-gt-MAX_SHEET_BYTES.false (schema_of c.in_ok-head.head) c.in_ok-head.end e.0.reads (rw c.in_err-fields.was at c.read_holder.ensures.answer) })

pub read_arguments-requires : goal.read_arguments-requires
unfolding schema_of
read_arguments-requires c =
    let e = rw c.in_ok-head.was at c.schema_head.ensures in
    behind-ready c.args.sheet.now c.if-sheet-gt-MAX_SHEET_BYTES.false (schema_of c.in_ok-head.head) c.in_ok-head.end e.0.reads c.args.scratch.now _ _ _ (rw c.in_ok-fields.was at c.read_holder.ensures.answer) c.requires c.read_holder.ensures.kept

pub returns-in_err-arguments : goal.returns-in_err-arguments
unfolding schema_of
returns-in_err-arguments c = rw c.from_residual-in_err-arguments.ensures (let e = rw c.in_ok-head.was at c.schema_head.ensures in
    record { kept = kept_more c.read_holder.ensures.kept c.read_arguments.ensures.kept; answer = schema-argumentless c.args.sheet.now c.if-sheet-gt-MAX_SHEET_BYTES.false (schema_of c.in_ok-head.head) c.in_ok-head.end e.0.reads c.args.scratch.now _ _ _ (rw c.in_ok-fields.was at c.read_holder.ensures.answer) (rw c.in_err-arguments.was at c.read_arguments.ensures.answer) })

pub returns-then-ends_at : goal.returns-then-ends_at
unfolding schema_of
returns-then-ends_at c =
    let e = rw c.in_ok-head.was at c.schema_head.ensures in
    record { kept = kept_more c.read_holder.ensures.kept c.read_arguments.ensures.kept; answer = schema-good c.args.sheet.now c.if-sheet-gt-MAX_SHEET_BYTES.false (schema_of c.in_ok-head.head) c.in_ok-head.end e.0.reads c.args.scratch.now _ _ _ (rw c.in_ok-fields.was at c.read_holder.ensures.answer) _ _ _ (rw c.in_ok-arguments.was at c.read_arguments.ensures.answer) (omega (arith, rw c.if-ends_at.true at c.ends_at.ensures)) }

pub returns : goal.returns
unfolding schema_of
returns c =
    let e = rw c.in_ok-head.was at c.schema_head.ensures in
    record { kept = kept_more c.read_holder.ensures.kept c.read_arguments.ensures.kept; answer = schema-unended c.args.sheet.now c.if-sheet-gt-MAX_SHEET_BYTES.false (schema_of c.in_ok-head.head) c.in_ok-head.end e.0.reads c.args.scratch.now _ _ _ (rw c.in_ok-fields.was at c.read_holder.ensures.answer) _ _ _ (rw c.in_ok-arguments.was at c.read_arguments.ensures.answer) (omega (arith, rw c.if-ends_at.false at c.ends_at.ensures)) }
