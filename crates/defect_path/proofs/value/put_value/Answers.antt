use Prim.Native.Nat.{◌-◌}
use mathlib.Core.Path.{refl}
use Rattle.defect_path.proofs.ValueSteps.{value-led, value-led-on, value-led-to}
use borrow.Author.Rules.{rules}
use Rattle.defect_path.proofs.value.put_value.Goals as goal

pub loop-word-init : goal.loop-word-init
loop-word-init c = (value-led, refl)

pub loop-word-preserved : goal.loop-word-preserved
loop-word-preserved c = (search (value-led-on, rules), search rules)

pub returns : goal.returns
returns c = search (value-led-to, rules)
