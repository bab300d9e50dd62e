-- How deep conditions nest, up to the depth that is looked at.
use Rattle.std.specs.Prelude.{ℕ, ◌≤◌, min, List, ◌≡◌}
use Rattle.definition.specs.Tree.{Condition, Conditions}
use Rattle.validation.specs.Check.{depth, depth_of_conditions}
use Rattle.rule.specs.Nodes.{IsCondition, AreConditions}

-- the depth of the condition, or `left` where it is deeper
pub record DepthIs (rule words : List ℕ) (i end left r : ℕ) : Type 0 where
  pub most : r ≤ left
  pub exact : (c : Condition) → IsCondition rule words i end c → r ≡ min left (depth c)

pub record DepthsAre (rule words : List ℕ) (i end left r : ℕ) : Type 0 where
  pub most : r ≤ left
  pub exact : (cs : Conditions) → AreConditions rule words i end cs → r ≡ min left (depth_of_conditions cs)
