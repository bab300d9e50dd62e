-- `rule::node::children_from` meets its contract: the operator says where the children begin.
use native.Mathlib.Omega.{arith}
use Rattle.rule.proofs.node.children_from.Goals as goal

pub returns : goal.returns
returns c =
    record {
      past = omega (arith, c.behind.ensures.least (omega arith));
      most = c.behind.ensures.most;
      literal = λ h. absurd (omega arith);
      inner = λ h k. absurd (omega arith);
      values = λ h k. absurd (omega arith);
      body = λ h. c.behind.ensures;
    }
