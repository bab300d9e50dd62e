-- `timestamp::two` meets its contract.
use native.Mathlib.Omega.{arith}
use mathlib.Core.Path.{ap, ◌∙◌}
use Rattle.timestamp.specs.Instant.{digit_value, two}
use Rattle.timestamp.proofs.two.Goals as goal

pub returns : goal.returns
unfolding two
returns c =
    let a = c.digit_value.ensures.0 ∙ ap digit_value c.byte_at.ensures in
    let b = c.digit_value-2.ensures.0 ∙ ap digit_value c.byte_at-2.ensures in
    (rw (← a, ← b), omega arith)
