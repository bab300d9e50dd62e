-- `sheet::entry::item` meets its contract: a comma, and then what `numeral` reads.
use native.Mathlib.Omega.{arith}
use Rattle.sheet.proofs.Chains.{item-some, item-none}
use Rattle.sheet.proofs.entry.item.Goals as goal

pub overflow_add-at : goal.overflow_add-at
overflow_add-at c =
    let starts_with = rw c.if-starts_with.true at c.starts_with.ensures in
    omega (arith, starts_with.within)

pub returns-then-starts_with : goal.returns-then-starts_with
returns-then-starts_with c =
    let starts_with = rw c.if-starts_with.true at c.starts_with.ensures in
    item-some c.args.low c.args.high starts_with c.numeral.result c.numeral.ensures

pub returns : goal.returns
returns c =
    let starts_with = rw c.if-starts_with.false at c.starts_with.ensures in
    item-none c.args.low c.args.high c.args.s.now c.args.at starts_with
