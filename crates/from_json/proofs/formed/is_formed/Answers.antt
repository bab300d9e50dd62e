-- `from_json::formed::is_formed` meets its contract.
use native.Mathlib.Omega.{arith}
use mathlib.Core.Path.{refl}
use Rattle.from_json.proofs.Refusing.{formed-over, formed-turned, formed-good, formed-bad}
use Rattle.from_json.proofs.formed.is_formed.Goals as goal

pub returns-then-out-end : goal.returns-then-out-end
returns-then-out-end c = formed-over c.args.out.now c.args.start c.args.end (omega (arith, c.if-out-end.true))

pub returns-then-end-start : goal.returns-then-end-start
returns-then-end-start c = formed-turned c.args.out.now c.args.start c.args.end (omega (arith, c.if-end-start.true))

pub returns-in-Some : goal.returns-in-Some
returns-in-Some c =
    let x = rw c.in-Some.is at c.read_rule.ensures in
    formed-good c.args.out.now c.args.start c.args.end (omega (arith, c.if-end-start.false)) (omega (arith, c.if-out-end.false)) refl x.reads

pub returns-in-None : goal.returns-in-None
returns-in-None c =
    let x = rw c.in-None.is at c.read_rule.ensures in
    formed-bad c.args.out.now c.args.start c.args.end (omega (arith, c.if-end-start.false)) (omega (arith, c.if-out-end.false)) refl x.0
