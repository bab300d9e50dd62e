-- `timestamp::fields_of` meets its contract.
use Rattle.timestamp.specs.Instant.{fields_of}
use Rattle.timestamp.proofs.fields_of.Goals as goal

pub returns : goal.returns
unfolding fields_of
returns c =
    rw (
      c.two.ensures.0,
      c.two-2.ensures.0,
      c.two-3.ensures.0,
      c.two-4.ensures.0,
      c.two-5.ensures.0,
      c.two-6.ensures.0,
      c.two-7.ensures.0,
      c.three.ensures.0,
      c.three-2.ensures.0,
      c.three-3.ensures.0,
    )
