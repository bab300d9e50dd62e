use native.Mathlib.Omega.{arith}
use Rattle.name_table.proofs.Tables.{load-bad, load-short, load-good, load-unsound}
use Rattle.name_table.proofs.loading.load.Goals as goal

pub returns-in_default : goal.returns-in_default
returns-in_default c =
    load-bad c.args.table.now c.args.buffer.now (rw c.in_default.is at c.read_table.ensures)

pub returns-then-buffer-lt-TABLE_BYTES : goal.returns-then-buffer-lt-TABLE_BYTES
returns-then-buffer-lt-TABLE_BYTES c =
    let has = rw c.in-Some.is at c.read_table.ensures in
    load-short c.args.table.now c.args.buffer.now has c.if-buffer-lt-TABLE_BYTES.true

pub returns-then-sound : goal.returns-then-sound
returns-then-sound c =
    let has = rw c.in-Some.is at c.read_table.ensures in
    load-good c.args.table.now c.args.buffer.now has (omega (arith, c.if-buffer-lt-TABLE_BYTES.false)) c.if-sound.true c.put.ensures

pub returns : goal.returns
returns c =
    let has = rw c.in-Some.is at c.read_table.ensures in
    load-unsound c.args.table.now c.args.buffer.now has (omega (arith, c.if-buffer-lt-TABLE_BYTES.false)) c.if-sound.false
