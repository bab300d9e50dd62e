use native.Mathlib.Omega.{arith}
use Prim.Native.Nat.{◌-◌}
use mathlib.Core.Path.{refl}
use Rattle.name_table.proofs.Tables.{reading-start, reading-more, reading-stops, reading-ends, reading-behind}
use Rattle.name_table.proofs.read.read_table.Goals as goal

pub loop-next-init : goal.loop-next-init
loop-next-init c =
    reading-start c.args.s.now c.args.kind c.stock_row-row.result c.stock_row-row.ensures

pub returns-in_err-read : goal.returns-in_err-read
returns-in_err-read c = rw c.from_residual.ensures (let loop = c.loop-next in
    let entry = rw c.in_err-read.was at c.table_entry.ensures in
    reading-stops _ _ loop.next loop.at _ _ loop.invariant (omega arith) entry)

pub loop-next-preserved : goal.loop-next-preserved
loop-next-preserved c =
    let loop = c.loop-next in
    let entry = rw c.in_ok-read.was at c.table_entry.ensures in
    reading-more _ _ loop.next loop.at _ _ _ _ _ _ _ _ loop.invariant (omega arith) entry refl c.pick-row.ensures c.is_sound.ensures c.both-sound.ensures

pub returns-then-at-s : goal.returns-then-at-s
returns-then-at-s c =
    let loop = c.loop-next in
    reading-ends _ _ loop.next loop.at _ _ loop.invariant (omega arith) c.if-at-s.true

pub returns : goal.returns
returns c =
    let loop = c.loop-next in
    reading-behind _ _ loop.next loop.at _ _ loop.invariant (omega arith) c.if-at-s.false
