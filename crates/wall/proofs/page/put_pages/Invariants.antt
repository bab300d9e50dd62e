-- `wall::page::put_pages` meets its contract. What is written and the pages that are left make the whole.
use Rattle.single_check.specs.Settings.{setting_by}
use Rattle.wall.proofs.PageSteps.{Printing}
use Rattle.wall.proofs.page.put_pages.Given as goal

abbrev pub invariant-loop-page : goal.invariant-loop-page
invariant-loop-page l =
    Printing (setting_by l.setting) l.label l.schema l.read l.book l.count l.initial.path l.initial.scratch l.initial.pages l.path l.scratch l.pages l.sheet l.line l.page
