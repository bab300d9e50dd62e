use mathlib.Core.Path.{◌∙◌}
use Rattle.wall.proofs.PageSteps.{given-ready, printing-start, printing-step, printing-end}
use native.Mathlib.Omega.{arith}
use Rattle.wall.proofs.page.put_pages.Goals as goal

pub read_schema-read-requires : goal.read_schema-read-requires
read_schema-read-requires c = omega (arith, c.requires.0.enough)

pub loop-page-init : goal.loop-page-init
loop-page-init c = printing-start (given-ready c.requires.0 c.read_schema-read.ensures)

pub put_page-end-requires : goal.put_page-end-requires
put_page-end-requires c = (c.loop-page.invariant.advanced.ready, omega (arith, c.requires.1))

pub loop-page-preserved : goal.loop-page-preserved
loop-page-preserved c = printing-step c.loop-page.invariant (omega arith) c.put_page-end.ensures

pub shape_of-path : goal.shape_of-path
shape_of-path c = c.loop-page.invariant.advanced.kept.size

pub shape_of-scratch : goal.shape_of-scratch
shape_of-scratch c = c.loop-page.invariant.advanced.front.size ∙ c.read_schema-read.ensures.kept.size

pub shape_of-pages : goal.shape_of-pages
shape_of-pages c = c.loop-page.invariant.size

pub returns : goal.returns
returns c = printing-end c.read_schema-read.ensures c.loop-page.invariant (omega arith)
