-- `text::is_second_of_4` meets its contract.
use native.Mathlib.Omega.{arith}
use Rattle.text.proofs.Bytes.{second4-f0, second4-f4, second4-others, second4-below, second4-above}
use Rattle.text.proofs.is_second_of_4.Goals as goal

pub is_between-requires : goal.is_between-requires
is_between-requires c = tt

pub is_between-requires-in-244 : goal.is_between-requires-in-244
is_between-requires-in-244 c = tt

pub is_tail-requires : goal.is_tail-requires
is_tail-requires c = tt

pub returns-in-240 : goal.returns-in-240
returns-in-240 c = rw (second4-f0 _ _ c.in-240.is) c.is_between.ensures

pub returns-in-244 : goal.returns-in-244
returns-in-244 c = rw (second4-f4 _ _ c.in-244.is) c.is_between-in-244.ensures

pub returns-in-241-to-243 : goal.returns-in-241-to-243
returns-in-241-to-243 c =
    rw (second4-others c.args.a c.args.b (omega arith)
    (omega arith)) c.is_tail.ensures

pub returns-in_default : goal.returns-in_default
returns-in_default c = rw (second4-below c.args.a c.args.b (omega arith))

pub returns-in_default-2 : goal.returns-in_default-2
returns-in_default-2 c = rw (second4-above c.args.a c.args.b (omega arith))
