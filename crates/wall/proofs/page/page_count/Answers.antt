-- `wall::page::page_count` meets its contract.
use Rattle.wall.specs.Pages.{page_count}
use native.Mathlib.Omega.{arith}
use Rattle.wall.proofs.page.page_count.Goals as goal

pub returns-then-sheets-eq0 : goal.returns-then-sheets-eq0
unfolding page_count
returns-then-sheets-eq0 c = omega arith

pub returns : goal.returns
unfolding page_count
returns c = omega arith
