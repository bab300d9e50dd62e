-- `text::is_second_of_3` meets its contract.
use native.Mathlib.Omega.{arith}
use Rattle.text.proofs.Bytes.{second3-e0, second3-ed, second3-others, second3-below, second3-above}
use Rattle.text.proofs.is_second_of_3.Goals as goal

pub is_between-requires : goal.is_between-requires
is_between-requires c = tt

pub is_between-requires-in-237 : goal.is_between-requires-in-237
is_between-requires-in-237 c = tt

pub is_tail-requires : goal.is_tail-requires
is_tail-requires c = tt

pub returns-in-224 : goal.returns-in-224
returns-in-224 c = rw (second3-e0 _ _ c.in-224.is) c.is_between.ensures

pub returns-in-237 : goal.returns-in-237
returns-in-237 c = rw (second3-ed _ _ c.in-237.is) c.is_between-in-237.ensures

pub returns-in-225-to-236 : goal.returns-in-225-to-236
returns-in-225-to-236 c =
    rw (second3-others c.args.a c.args.b (omega arith)
    (omega arith) c.in-225-to-236.in_default-own.rest.1) c.is_tail.ensures

pub returns-in_default : goal.returns-in_default
returns-in_default c = rw (second3-below c.args.a c.args.b (omega arith))

pub returns-in_default-2 : goal.returns-in_default-2
returns-in_default-2 c = rw (second3-above c.args.a c.args.b (omega arith))
