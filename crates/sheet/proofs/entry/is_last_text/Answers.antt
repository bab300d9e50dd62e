-- `sheet::entry::is_last_text` meets its contract: a comma, a text, and the end of the line.
use native.Mathlib.Omega.{arith}
use Rattle.sheet.proofs.Chains.{last-text, last-refused, last_none}
use Rattle.sheet.proofs.entry.is_last_text.Goals as goal

pub overflow_add-at : goal.overflow_add-at
overflow_add-at c =
    let starts_with = rw c.if-starts_with.true at c.starts_with.ensures in
    omega (arith, starts_with.within)

pub is_text-requires : goal.is_text-requires
is_text-requires c =
    let starts_with = rw c.if-starts_with.true at c.starts_with.ensures in
    starts_with.within

pub overflow_add-at-then-is_text : goal.overflow_add-at-then-is_text
overflow_add-at-then-is_text c =
    let starts_with = rw c.if-starts_with.true at c.starts_with.ensures in
    omega (arith, starts_with.within)

pub overflow_add-at-then-is_text-2 : goal.overflow_add-at-then-is_text-2
overflow_add-at-then-is_text-2 c =
    let is-text = rw c.if-is_text.true at c.is_text.ensures in
    omega (arith, is-text.1)

pub returns-then-is_text : goal.returns-then-is_text
returns-then-is_text c =
    let starts_with = rw c.if-starts_with.true at c.starts_with.ensures in
    let is-text = rw c.if-is_text.true at c.is_text.ensures in
    last-text c.args.len starts_with is-text c.starts_with-then-is_text.result c.starts_with-then-is_text.ensures

pub returns-else-is_text : goal.returns-else-is_text
returns-else-is_text c =
    let starts_with = rw c.if-starts_with.true at c.starts_with.ensures in
    let is-text = rw c.if-is_text.false at c.is_text.ensures in
    last-refused c.args.len starts_with is-text

pub returns-else-starts_with : goal.returns-else-starts_with
returns-else-starts_with c =
    let starts_with = rw c.if-starts_with.false at c.starts_with.ensures in
    last_none c.args.len c.args.s.now c.args.at starts_with
