-- `wall::page::put_page` meets its contract. What is written and the rows that are left make the page.
use Rattle.single_check.specs.Settings.{setting_by}
use Rattle.wall.proofs.PageSteps.{Paging}
use Rattle.wall.proofs.page.put_page.Given as goal

abbrev pub invariant-loop-row : goal.invariant-loop-row
invariant-loop-row l =
    Paging (setting_by l.setting) l.label l.schema l.read l.book l.at l.before l.initial.line l.initial.path l.initial.scratch l.initial.pages l.path l.scratch l.pages l.sheet l.line l.accepted l.row
