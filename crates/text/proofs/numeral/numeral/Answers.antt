-- `text::numeral::numeral` meets its contract: what it reads, compared with the least number and the largest.
use native.Mathlib.Omega.{arith}
use Rattle.text.proofs.Numerals.{numeral-within, numeral-below, numeral-beyond, numeral-none}
use Rattle.text.proofs.numeral.numeral.Goals as goal

pub decimal-requires : goal.decimal-requires
decimal-requires c = omega arith

pub returns-in_err-n : goal.returns-in_err-n
returns-in_err-n c = rw c.from_residual.ensures (let e = rw c.in_err-n.was at c.decimal.ensures in
    let a = c.args in
    numeral-none a.low a.high _ a.s.now a.at c.to_size-most.ensures e)

pub returns-then-n-to_size : goal.returns-then-n-to_size
returns-then-n-to_size c =
    let e = rw c.in_ok-n.was at c.decimal.ensures in
    let a = c.args in
    numeral-below a.low a.high e (omega arith)

pub returns-then-most-n : goal.returns-then-most-n
returns-then-most-n c =
    let e = rw c.in_ok-n.was at c.decimal.ensures in
    let a = c.args in
    numeral-beyond a.low a.high e (omega arith)

pub returns : goal.returns
returns c =
    let e = rw c.in_ok-n.was at c.decimal.ensures in
    let a = c.args in
    (numeral-within a.low a.high e (omega arith) (omega arith), omega arith, omega arith)
