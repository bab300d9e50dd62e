-- `number::magnitude::order` meets its contract: one law for each answer.
use Prim.Native.Nat.{ℕ, ◌<◌}
use mathlib.Core.Path.{◌≡◌, ◌∙◌, sym}
use native.Mathlib.Omega.{arith}
use Rattle.std.specs.Cmp.{ranks}
use Rattle.std.specs.Ordering.{MatchOrdering}
use Rattle.std.specs.declared.cmp.Ordering.{Ordering}
use Rattle.std.specs.declared.cmp.Ordering.TheVariants.{Less, Equal, Greater}
use Rattle.number.specs.FirstDigit.{order}
use Rattle.number.proofs.Levels.{order_below, order-above, order-even}
use Rattle.number.proofs.magnitude.order.Goals as goal

ranked : (a b : ℕ) (r : Ordering) → MatchOrdering r (a < b) (a ≡ b) (b < a) → r ≡ order a b
ranked a b Less h = sym (order_below a b h)
ranked a b Equal h = sym (order-even a b (omega arith) (omega arith))
ranked a b Greater h = sym (order-above a b h)

pub returns : goal.returns
returns c = c.cmp.ensures ∙ ranked c.args.a c.args.b _ (ranks c.args.a c.args.b)
