-- `drafts::mention::is_condition_named` meets its contract: at each turn the conditions that are left are at the next word.
use Prim.Native.Nat.{◌-◌}
use Rattle.drafts.proofs.MentionSteps.{ConditionsLeft}
use Rattle.drafts.proofs.mention.is_condition_named.Given as goal

abbrev pub invariant-loop-i : goal.invariant-loop-i
invariant-loop-i l = ConditionsLeft l.name l.rule l.words l.start l.i l.end

abbrev pub decreases-loop-i : goal.decreases-loop-i
decreases-loop-i l = l.end - l.i
