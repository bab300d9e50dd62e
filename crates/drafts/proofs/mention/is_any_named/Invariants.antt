use Rattle.drafts.proofs.MentionSteps.{NamedLeft}
use Rattle.drafts.proofs.mention.is_any_named.Given as goal

abbrev pub invariant-loop-i : goal.invariant-loop-i
invariant-loop-i l = NamedLeft l.name l.rule l.words l.start l.end l.i
