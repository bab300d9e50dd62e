-- `host_numbers::counts::put_u64` meets its contract: two halves, one after the other.
use mathlib.Core.Path.{refl}
use Rattle.host_numbers.proofs.CountSteps.{long-written}
use Rattle.host_numbers.proofs.counts.put_u64.Goals as goal

pub returns : goal.returns
returns c = long-written c.args.n c.requires refl refl c.put_u32.ensures.stands c.put_u32-2.ensures.stands
