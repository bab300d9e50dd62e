use Prim.Native.Nat.{◌-◌}
use Rattle.walk.proofs.Digits.{digit-passed, digits-broken, digits-ended}
use borrow.Author.Rules.{rules}
use Rattle.walk.proofs.path.is_digits.Goals as goal

pub loop-b-preserved : goal.loop-b-preserved
loop-b-preserved c = search (digit-passed, rules)

pub returns-then-not-is_digit : goal.returns-then-not-is_digit
returns-then-not-is_digit c = search (digits-broken, rules)

pub returns : goal.returns
returns c = search (digits-ended, rules)
