-- A pass over conditions: what is left are conditions side by side, and each step puts the children of the first in its place.
use Prim.Native.Nat.{ℕ, ◌+◌, ◌<◌}
use native.Mathlib.Omega.{arith}
use mathlib.Core.List.{List}
use mathlib.Core.Path.{◌≡◌, sym}
use Rattle.definition.specs.Tree.{Conditions, no_conditions, condition}
use Rattle.definition.specs.Within.{condition_entries, conditions_entries}
use Rattle.rule.specs.Index.{start_of}
use Rattle.rule.specs.Kinds.{OperatorAt}
use Rattle.rule.specs.Nodes.{AreConditions, Behind, children_of, ChildrenFrom}
use Rattle.rule.proofs.NodeSteps.{children-stand, tail_of, first-stands, tail-stands, none-ends}

unfoldable pub beside : Conditions → Conditions → Conditions
beside no_conditions ds = ds
beside (condition c others) ds = condition c (beside others ds)

unfoldable pub opened : Conditions → Conditions
opened no_conditions = no_conditions
opened (condition c others) = beside (children_of c) others

beside-stand : (rule words : List ℕ) (i mid end : ℕ) (cs ds : Conditions)
    → AreConditions rule words i mid cs
    → AreConditions rule words mid end ds
    → AreConditions rule words i end (beside cs ds)
unfolding beside conditions_entries
beside-stand rule words i mid end no_conditions ds p q =
    let e : mid ≡ i = omega (arith, p.ends) in
    rw (sym e) q
beside-stand rule words i mid end (condition c others) ds p q =
    let e : mid ≡ i + condition_entries c + conditions_entries others = omega (arith, p.ends) in
    let t : AreConditions rule words (i + condition_entries c) end (beside others ds) =
    beside-stand rule words (i + condition_entries c) mid end others ds (record { stand = p.stand.1; ends = e }) q in
    record { stand = (p.stand.0, t.stand); ends = omega (arith, t.ends) }

module _ {rule words : List ℕ} {i end own at op next : ℕ} (inside : i < end) (start : at ≡ start_of words i) (kind : OperatorAt rule at op) (ends : Behind words i end own) (first : ChildrenFrom words op i own next) where
  pub opened-stand : (cs : Conditions) → AreConditions rule words i end cs → AreConditions rule words next end (opened cs)
  unfolding opened tail_of
  opened-stand no_conditions w = absurd (omega (arith, none-ends w, inside))
  opened-stand (condition c others) w =
      beside-stand rule words next own end (children_of c) others
      (children-stand start kind first c (first-stands inside ends w))
      (tail-stands inside ends (condition c others) w)
