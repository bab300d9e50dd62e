-- `openings::rounds::find_marks` meets its contract: what the rounds that are left find is what all of them find.
use Prim.Native.Nat.{◌+◌, ◌-◌}
use Rattle.validation.specs.Openings.{max_marks}
use Rattle.single_check.specs.Settings.{setting_by}
use Rattle.openings.proofs.RoundSteps.{Searching}
use Rattle.openings.proofs.rounds.find_marks.Given as goal

abbrev pub invariant-loop : goal.invariant-loop
invariant-loop l =
    Searching (setting_by l.setting) l.rule l.initial.s l.initial.sheet l.initial.marks l.initial.words l.s l.sheet l.marks l.words (max_marks + 1 - l.counter)
