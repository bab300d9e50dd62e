-- `rule_book::tally::tally_sheets` meets its contract. What is counted and what is left to count make the whole.
-- The measure is what is left of the book.
use Prim.Native.Nat.{◌-◌}
use lib.ListN.{length}
use Rattle.single_check.specs.Settings.{setting_by}
use Rattle.rule_book.proofs.TallySteps.{Tallying}
use Rattle.rule_book.proofs.tally.tally_sheets.Given as goal

abbrev pub invariant-loop-at : goal.invariant-loop-at
invariant-loop-at l =
    Tallying (setting_by l.setting) l.label l.schema l.read l.book l.initial.path l.initial.scratch l.path l.scratch l.counts l.sheets l.passed l.at

abbrev pub decreases-loop-at : goal.decreases-loop-at
decreases-loop-at l =
    length l.book - l.at
