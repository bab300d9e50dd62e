use mathlib.Core.Path.{◌≡◌}
use lib.ListN.{length}
use borrow.Author.Rules.{rules}
use native.Mathlib.Omega.{arith}
use Rattle.json_text.proofs.Tokens.{running-start, running_more, running-stop, running-out}
use Rattle.json_text.proofs.token.run_end.Goals as goal

pub loop-i-init : goal.loop-i-init
loop-i-init c = search (running-start, rules)

pub loop-i-preserved : goal.loop-i-preserved
loop-i-preserved c = running_more c.args.s.now c.args.at c.loop-i.i c.loop-i.invariant (omega arith) c.is_of_number.ensures c.if-not-is_of_number.false

pub returns-then-not-is_of_number : goal.returns-then-not-is_of_number
returns-then-not-is_of_number c = running-stop c.args.s.now c.args.at c.loop-i.i c.loop-i.invariant (omega arith) c.is_of_number.ensures c.if-not-is_of_number.true

pub returns : goal.returns
returns c =
    let last : c.loop-i.i ≡ length c.args.s.now = omega arith in
    rw last at (running-out c.args.s.now c.args.at c.loop-i.i c.loop-i.invariant (omega arith))
