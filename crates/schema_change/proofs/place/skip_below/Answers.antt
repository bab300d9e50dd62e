use Prim.Native.Nat.{◌-◌}
use borrow.Author.Rules.{rules}
use Rattle.schema_change.proofs.Skipping.{skipping-start, skipping-done, skipping-bad, skipping-enters, enters-count, skipping-fits, skipping-falls, skipping-more}
use Rattle.schema_change.proofs.place.skip_below.Goals as goal

pub loop-left-init : goal.loop-left-init
loop-left-init c = search (skipping-start, rules)

pub returns-in_default : goal.returns-in_default
returns-in_default c = search (skipping-bad, rules)

pub announced-requires : goal.announced-requires
announced-requires c = search (enters-count, rules)

pub overflow_add-left : goal.overflow_add-left
overflow_add-left c = search (skipping-fits, skipping-enters, rules)

pub loop-left-smaller : goal.loop-left-smaller
loop-left-smaller c = search (skipping-falls, skipping-enters, rules)

pub loop-left-preserved : goal.loop-left-preserved
loop-left-preserved c = search (skipping-more, skipping-enters, rules)

pub returns : goal.returns
returns c = search (skipping-done, rules)
