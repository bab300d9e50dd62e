-- `sheet::entry::first` meets its contract: a letter, and then what `item` reads.
use native.Mathlib.Omega.{arith}
use Rattle.sheet.proofs.Chains.{first_some, first-none}
use Rattle.sheet.proofs.entry.first.Goals as goal

pub overflow_add-at : goal.overflow_add-at
overflow_add-at c =
    let starts_with = rw c.if-starts_with.true at c.starts_with.ensures in
    omega (arith, starts_with.within)

pub returns-then-starts_with : goal.returns-then-starts_with
returns-then-starts_with c =
    let starts_with = rw c.if-starts_with.true at c.starts_with.ensures in
    first_some c.args.letter c.args.low c.args.high starts_with c.item.result c.item.ensures

pub returns : goal.returns
returns c =
    let starts_with = rw c.if-starts_with.false at c.starts_with.ensures in
    first-none c.args.letter c.args.low c.args.high c.args.s.now c.args.at starts_with
