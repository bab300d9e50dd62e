-- `explained_check::say` meets its contract: the message is measured, and written where it fits.
use native.Mathlib.Omega.{arith}
use native.Mathlib.Omega.{arith}
use Rattle.explained_check.proofs.SayingSteps.{say-over, say-whole}
use Rattle.explained_check.proofs.say.Goals as goal

pub returns-then-message-size : goal.returns-then-message-size
returns-then-message-size c =
    say-over c.lay_message-size.new.out c.lay_message-size.ensures (omega (arith, c.if-message-size.true)) c.narrow.ensures

pub returns : goal.returns
returns c =
    say-whole c.lay_message-size.new.out c.lay_message-size.ensures (omega (arith, c.if-message-size.false)) c.lay_message-end.ensures c.narrow-2.ensures
