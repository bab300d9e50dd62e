-- `drafts::lent::lent_at` meets its contract.
use native.Mathlib.Omega.{arith}
use Rattle.drafts.proofs.LentSteps.{lent_is}
use Rattle.drafts.proofs.lent.lent_at.Goals as goal

pub overflow_mul-from : goal.overflow_mul-from
overflow_mul-from c = omega (arith, c.requires.0)

pub read_u32-kind-requires : goal.read_u32-kind-requires
read_u32-kind-requires c = omega (arith, c.requires.0)

pub overflow_add-from : goal.overflow_add-from
overflow_add-from c = omega (arith, c.requires.0)

pub read_u32-semantics-requires : goal.read_u32-semantics-requires
read_u32-semantics-requires c = omega (arith, c.requires.0)

pub overflow_add-from-2 : goal.overflow_add-from-2
overflow_add-from-2 c = omega (arith, c.requires.0)

pub read_u32-requires : goal.read_u32-requires
read_u32-requires c = omega (arith, c.requires.0)

pub overflow_sub-texts : goal.overflow_sub-texts
overflow_sub-texts c = omega (arith, c.requires.1)

pub overflow_add-middle : goal.overflow_add-middle
overflow_add-middle c = omega (arith, c.at_most.ensures, c.requires.1)

pub overflow_add-from-3 : goal.overflow_add-from-3
overflow_add-from-3 c = omega (arith, c.requires.0)

pub read_u32-requires-2 : goal.read_u32-requires-2
read_u32-requires-2 c = omega (arith, c.requires.0)

pub overflow_sub-texts-2 : goal.overflow_sub-texts-2
overflow_sub-texts-2 c = omega (arith, c.at_most.ensures, c.requires.1)

pub overflow_add-end : goal.overflow_add-end
overflow_add-end c = omega (arith, c.at_most-2.ensures, c.at_most.ensures, c.requires.1)

pub returns : goal.returns
returns c = lent_is _ _ _ _ _ _ _ _ _ _ c.read_u32-kind.ensures c.read_u32-semantics.ensures c.read_u32.ensures c.at_most.ensures c.read_u32-2.ensures c.at_most-2.ensures c.requires.1
