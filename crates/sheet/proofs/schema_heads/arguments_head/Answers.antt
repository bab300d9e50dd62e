-- `sheet::schema_heads::arguments_head` meets its contract: a dash with the count 0, or a holder.
use Rattle.sheet.specs.Places.{arguments_of, argument_count}
use native.Mathlib.Omega.{arith}
use Rattle.sheet.proofs.Heads.{arguments-counted, arguments-absent, arguments-refused, arguments-reads}
use Rattle.sheet.proofs.schema_heads.arguments_head.Goals as goal

pub overflow_add-at : goal.overflow_add-at
overflow_add-at c =
    let is-dashed = rw c.if-is_dashed.true at c.is_dashed.ensures in
    omega (arith, is-dashed.within)

pub returns-in_err-next : goal.returns-in_err-next
returns-in_err-next c = rw c.from_residual.ensures (let is-dashed = rw c.if-is_dashed.true at c.is_dashed.ensures in
    let item = rw c.in_err-next.was at c.item.ensures in
    arguments-counted is-dashed item)

pub returns-then-is_dashed : goal.returns-then-is_dashed
unfolding arguments_of argument_count
returns-then-is_dashed c =
    let is-dashed = rw c.if-is_dashed.true at c.is_dashed.ensures in
    let item = rw c.in_ok-next.was at c.item.ensures in
    (arguments-absent is-dashed item.0, omega arith)

pub returns-in_err-head : goal.returns-in_err-head
returns-in_err-head c = rw c.from_residual-in_err-head.ensures (let is-dashed = rw c.if-is_dashed.false at c.is_dashed.ensures in
    let holder-head = rw c.in_err-head.was at c.holder_head.ensures in
    arguments-refused c.args.s.now c.args.at is-dashed holder-head)

pub returns : goal.returns
unfolding arguments_of argument_count
returns c =
    let is-dashed = rw c.if-is_dashed.false at c.is_dashed.ensures in
    let holder-head = rw c.in_ok-head.was at c.holder_head.ensures in
    (arguments-reads c.args.s.now c.args.at is-dashed holder-head.0, holder-head.1)
