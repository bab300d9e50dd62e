-- `sheet::entry::is_dashed` meets its contract: a comma and a dash.
use native.Mathlib.Omega.{arith}
use Rattle.sheet.proofs.Chains.{dashed-some, dashed-none}
use Rattle.sheet.proofs.entry.is_dashed.Goals as goal

pub overflow_add-at : goal.overflow_add-at
overflow_add-at c =
    let starts_with = rw c.if-starts_with.true at c.starts_with.ensures in
    omega (arith, starts_with.within)

pub returns-then-starts_with : goal.returns-then-starts_with
returns-then-starts_with c =
    let starts_with = rw c.if-starts_with.true at c.starts_with.ensures in
    dashed-some starts_with c.starts_with-then-starts_with.result c.starts_with-then-starts_with.ensures

pub returns : goal.returns
returns c =
    let starts_with = rw c.if-starts_with.false at c.starts_with.ensures in
    dashed-none c.args.s.now c.args.at starts_with
