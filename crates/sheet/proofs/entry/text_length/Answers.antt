-- `sheet::entry::text_length` meets its contract: a dash, or a length.
use Rattle.sheet.specs.Places.{length_of}
use native.Mathlib.Omega.{arith}
use Rattle.sheet.proofs.Chains.{length-dashed, length-refused, length-reads}
use Rattle.sheet.proofs.entry.text_length.Goals as goal

pub overflow_add-result : goal.overflow_add-result
overflow_add-result c =
    let is-dashed = rw c.if-is_dashed.true at c.is_dashed.ensures in
    omega (arith, is-dashed.within)

pub returns-then-is_dashed : goal.returns-then-is_dashed
unfolding length_of
returns-then-is_dashed c =
    let is-dashed = rw c.if-is_dashed.true at c.is_dashed.ensures in
    length-dashed is-dashed

pub returns-in_err-n : goal.returns-in_err-n
returns-in_err-n c = rw c.from_residual.ensures (let is-dashed = rw c.if-is_dashed.false at c.is_dashed.ensures in
    let item = rw c.in_err-n.was at c.item.ensures in
    length-refused c.args.s.now c.args.at is-dashed item)

pub returns : goal.returns
unfolding length_of
returns c =
    let is-dashed = rw c.if-is_dashed.false at c.is_dashed.ensures in
    let item = rw c.in_ok-n.was at c.item.ensures in
    length-reads c.args.s.now c.args.at is-dashed item.0
