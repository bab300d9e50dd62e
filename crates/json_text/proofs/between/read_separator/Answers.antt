-- `json_text::between::read_separator` meets its contract.
use Rattle.json_text.proofs.Separating.{separator-more, separator-end, separator-none}
use Rattle.json_text.proofs.between.read_separator.Goals as goal

pub behind_spaces-requires : goal.behind_spaces-requires
behind_spaces-requires c = let q = rw c.if-starts_with.true at c.starts_with.ensures in q.within

pub returns-then-starts_with : goal.returns-then-starts_with
returns-then-starts_with c = separator-more c.args.close c.behind_spaces-i.ensures (rw c.if-starts_with.true at c.starts_with.ensures) c.behind_spaces.ensures

pub returns-then-starts_with-2 : goal.returns-then-starts_with-2
returns-then-starts_with-2 c = separator-end c.args.close c.behind_spaces-i.ensures (rw c.if-starts_with.false at c.starts_with.ensures) (rw c.if-starts_with-2.true at c.starts_with-2.ensures)

pub returns : goal.returns
returns c = separator-none c.args.close c.behind_spaces-i.ensures (rw c.if-starts_with.false at c.starts_with.ensures) (rw c.if-starts_with-2.false at c.starts_with-2.ensures)
