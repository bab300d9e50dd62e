use native.Mathlib.Omega.{arith}
use borrow.Author.Rules.{rules}
use Prim.Native.Nat.{◌-◌}
use Rattle.json_text.proofs.Tokens.{spelling-start, spelling-more, spelling-other, spelling-end}
use Rattle.json_text.proofs.token.is_spelled.Goals as goal

pub loop-i-init : goal.loop-i-init
loop-i-init c = search (spelling-start, rules)

pub overflow_add-at : goal.overflow_add-at
overflow_add-at c = omega (arith, c.loop-i.invariant.within)

pub loop-i-preserved : goal.loop-i-preserved
loop-i-preserved c = spelling-more c.args.word.now c.args.s.now c.args.at c.loop-i.i c.loop-i.invariant (omega arith) (rw c.if-not-starts_with.false at c.starts_with.ensures)

pub returns-then-not-starts_with : goal.returns-then-not-starts_with
returns-then-not-starts_with c = spelling-other c.args.word.now c.args.s.now c.args.at c.loop-i.i c.loop-i.invariant (omega arith) (rw c.if-not-starts_with.true at c.starts_with.ensures)

pub returns : goal.returns
returns c = spelling-end c.args.word.now c.args.s.now c.args.at c.loop-i.i c.loop-i.invariant c.loop-i-test.false
