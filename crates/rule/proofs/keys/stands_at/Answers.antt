-- `rule::keys::stands_at` meets its contract, by the comparison of the two parts.
use mathlib.Core.Path.{ap₂, ◌∙◌}
use Rattle.text.specs.Order.{same_bytes}
use Rattle.rule.proofs.keys.stands_at.Goals as goal

pub returns : goal.returns
returns c = c.same_bytes.ensures ∙ ap₂ same_bytes c.bytes_of.ensures c.bytes_of-2.ensures
