-- `rule_book::sheets::count_sheets` meets its contract. The file has `count` sheets more than there are from `at` on.
-- The measure is what is left of the bytes.
use Prim.Native.Nat.{◌≤◌, ◌-◌}
use mathlib.Core.Path.{◌≡◌}
use lib.ListN.{length, drop}
use Rattle.rule_book.specs.Places.{sheet_count}
use Rattle.rule_book.proofs.SheetSteps.{plus}
use Rattle.rule_book.proofs.sheets.count_sheets.Given as goal

abbrev pub invariant-loop-at : goal.invariant-loop-at
invariant-loop-at l = (sheet_count l.file ≡ plus l.count (sheet_count (drop l.at l.file))) × (l.count ≤ l.at) × (l.at ≤ length l.file)

abbrev pub decreases-loop-at : goal.decreases-loop-at
decreases-loop-at l = length l.file - l.at
