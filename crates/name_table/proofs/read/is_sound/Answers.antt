use Rattle.reference.specs.Table.{is_sound}
use Rattle.scope.specs.Names.{row_by}
use Rattle.name_table.proofs.read.is_sound.Goals as goal

pub returns-then-row-4 : goal.returns-then-row-4
unfolding is_sound row_by
returns-then-row-4 c =
    rw (c.if-row.true, c.if-row-2.true, c.if-row-3.true, c.if-row-4.true)

pub returns-else-row-4 : goal.returns-else-row-4
unfolding is_sound row_by
returns-else-row-4 c =
    rw (c.if-row.true, c.if-row-2.true, c.if-row-3.true, c.if-row-4.false)

pub returns-else-row-3 : goal.returns-else-row-3
unfolding is_sound row_by
returns-else-row-3 c =
    rw (c.if-row.true, c.if-row-2.true, c.if-row-3.false)

pub returns-else-row-2 : goal.returns-else-row-2
unfolding is_sound row_by
returns-else-row-2 c =
    rw (c.if-row.true, c.if-row-2.false)

pub returns-else-row : goal.returns-else-row
unfolding is_sound row_by
returns-else-row c =
    rw c.if-row.false
