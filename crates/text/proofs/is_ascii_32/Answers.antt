-- `text::is_ascii_32` meets its contract: four eights, one after the other.
use mathlib.Core.Bool.{false≢true}
use Rattle.text.proofs.Passes.{ascii_more}
use Rattle.text.proofs.is_ascii_32.Goals as goal

pub returns-then-is_ascii_8-3 : goal.returns-then-is_ascii_8-3
returns-then-is_ascii_8-3 c t =
    let s = c.args.s.now in
    let at = c.args.at in
    ascii_more s at 24 8
    (ascii_more s at 16 8
    (ascii_more s at 8 8 (c.is_ascii_8.ensures c.if-is_ascii_8.true) (c.is_ascii_8-then-is_ascii_8.ensures c.if-is_ascii_8-2.true))
    (c.is_ascii_8-then-is_ascii_8-2.ensures c.if-is_ascii_8-3.true))
    (c.is_ascii_8-then-is_ascii_8-3.ensures t)

pub returns-else-is_ascii_8-3 : goal.returns-else-is_ascii_8-3
returns-else-is_ascii_8-3 c t = absurd (false≢true t)

pub returns-else-is_ascii_8-2 : goal.returns-else-is_ascii_8-2
returns-else-is_ascii_8-2 c t = absurd (false≢true t)

pub returns-else-is_ascii_8 : goal.returns-else-is_ascii_8
returns-else-is_ascii_8 c t = absurd (false≢true t)
