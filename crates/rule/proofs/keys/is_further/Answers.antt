-- `rule::keys::is_further` meets its contract, by its two tests.
use mathlib.Core.Bool.{false≢true}
use borrow.Author.Tests.{leb-true}
use Rattle.rule.proofs.keys.is_further.Goals as goal

pub returns-then-next-i : goal.returns-then-next-i
returns-then-next-i c = λ e. absurd (false≢true e)

pub returns : goal.returns
returns c = λ e. (c.if-next-i.false, leb-true c.args.next 2048 e)
