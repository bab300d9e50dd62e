-- `rule::keys::slot_of` meets its contract: the bytes left, stirred into the number so far, give what all give.
use Prim.Native.Nat.{◌<◌}
use mathlib.Core.Path.{◌≡◌}
use lib.ListN.{length, drop}
use Rattle.rule.specs.Table.{stirred}
use Rattle.rule.proofs.keys.slot_of.Given as goal

abbrev pub invariant-loop-b : goal.invariant-loop-b
invariant-loop-b l = (stirred 0 l.key ≡ stirred l.mixed (drop l.b-index l.key)) × (l.mixed < 4294967296)
