use mathlib.Core.Path.{◌≡◌}
use lib.ListN.{length}
use borrow.Author.Rules.{rules}
use native.Mathlib.Omega.{arith}
use Rattle.json_text.proofs.Tokens.{spacing-start, spacing-more, spacing-stop, spacing-out}
use Rattle.json_text.proofs.token.behind_spaces.Goals as goal

pub loop-i-init : goal.loop-i-init
loop-i-init c = search (spacing-start, rules)

pub loop-i-preserved : goal.loop-i-preserved
loop-i-preserved c = spacing-more c.args.s.now c.args.at c.loop-i.i c.loop-i.invariant (omega arith) c.is_space.ensures c.if-not-is_space.false

pub returns-then-not-is_space : goal.returns-then-not-is_space
returns-then-not-is_space c = spacing-stop c.args.s.now c.args.at c.loop-i.i c.loop-i.invariant (omega arith) c.is_space.ensures c.if-not-is_space.true

pub returns : goal.returns
returns c =
    let last : c.loop-i.i ≡ length c.args.s.now = omega arith in
    rw last at (spacing-out c.args.s.now c.args.at c.loop-i.i c.loop-i.invariant (omega arith))
