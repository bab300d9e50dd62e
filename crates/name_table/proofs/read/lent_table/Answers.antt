use Rattle.name_table.proofs.Tables.{lent_none, lent-short, lent-long}
use Rattle.name_table.proofs.read.lent_table.Goals as goal

pub returns-then-s-eq0 : goal.returns-then-s-eq0
returns-then-s-eq0 c =
    lent_none c.args.s.now c.args.kind c.stock_row.result c.if-s-eq0.true c.stock_row.ensures

pub returns-then-s-lt-TABLE_BYTES : goal.returns-then-s-lt-TABLE_BYTES
returns-then-s-lt-TABLE_BYTES c =
    lent-short c.args.s.now c.args.kind c.read_table.result c.if-s-eq0.false c.if-s-lt-TABLE_BYTES.true c.read_table.ensures

pub returns : goal.returns
returns c =
    lent-long c.args.s.now c.args.kind c.read_table-2.result c.if-s-eq0.false c.read_table-2.ensures
