-- `sheet::schema_heads::schema_head` meets its contract: the letter, the record, the arguments and the end of the line.
use Rattle.sheet.specs.Places.{schema_of}
use native.Mathlib.Omega.{arith}
use Rattle.sheet.proofs.Heads.{schema-no-fields, schema-no-arguments, schema-reads, schema-no-end, schema-other}
use Rattle.sheet.proofs.schema_heads.schema_head.Goals as goal

pub overflow_add-at : goal.overflow_add-at
overflow_add-at c =
    let starts_with = rw c.if-starts_with.true at c.starts_with.ensures in
    omega (arith, starts_with.within)

pub returns-in_err-fields : goal.returns-in_err-fields
returns-in_err-fields c = rw c.from_residual.ensures (let starts_with = rw c.if-starts_with.true at c.starts_with.ensures in
    let holder-head = rw c.in_err-fields.was at c.holder_head.ensures in
    schema-no-fields starts_with holder-head)

pub returns-in_err-arguments : goal.returns-in_err-arguments
returns-in_err-arguments c = rw c.from_residual-in_err-arguments.ensures (let starts_with = rw c.if-starts_with.true at c.starts_with.ensures in
    let holder-head = rw c.in_ok-fields.was at c.holder_head.ensures in
    let arguments-head = rw c.in_err-arguments.was at c.arguments_head.ensures in
    schema-no-arguments starts_with holder-head.0 arguments-head)

pub overflow_add-result : goal.overflow_add-result
overflow_add-result c =
    let starts-with2 = rw c.if-starts_with-2.true at c.starts_with-then-starts_with.ensures in
    omega (arith, starts-with2.within)

pub returns-then-starts_with-2 : goal.returns-then-starts_with-2
unfolding schema_of
returns-then-starts_with-2 c =
    let starts_with = rw c.if-starts_with.true at c.starts_with.ensures in
    let holder-head = rw c.in_ok-fields.was at c.holder_head.ensures in
    let arguments-head = rw c.in_ok-arguments.was at c.arguments_head.ensures in
    let starts-with2 = rw c.if-starts_with-2.true at c.starts_with-then-starts_with.ensures in
    (schema-reads starts_with holder-head.0 arguments-head.0 starts-with2, holder-head.1, arguments-head.1)

pub returns-else-starts_with-2 : goal.returns-else-starts_with-2
returns-else-starts_with-2 c =
    let starts_with = rw c.if-starts_with.true at c.starts_with.ensures in
    let holder-head = rw c.in_ok-fields.was at c.holder_head.ensures in
    let arguments-head = rw c.in_ok-arguments.was at c.arguments_head.ensures in
    let starts-with2 = rw c.if-starts_with-2.false at c.starts_with-then-starts_with.ensures in
    schema-no-end starts_with holder-head.0 arguments-head.0 starts-with2

pub returns-else-starts_with : goal.returns-else-starts_with
returns-else-starts_with c =
    let starts_with = rw c.if-starts_with.false at c.starts_with.ensures in
    schema-other c.args.s.now c.args.at starts_with
