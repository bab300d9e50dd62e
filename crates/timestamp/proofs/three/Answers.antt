-- `timestamp::three` meets its contract.
use native.Mathlib.Omega.{arith}
use mathlib.Core.Path.{ap, ◌∙◌}
use Rattle.timestamp.specs.Instant.{digit_value, three}
use Rattle.timestamp.proofs.three.Goals as goal

pub returns : goal.returns
unfolding three
returns c =
    let b = c.digit_value.ensures.0 ∙ ap digit_value c.byte_at.ensures in
    (rw (← b, ← c.two.ensures.0), omega arith)
