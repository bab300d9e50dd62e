-- `text::is_white_space` meets its contract.
use native.Mathlib.Omega.{arith}
use Rattle.text.proofs.Bytes.{between-below, between-above}
use Rattle.text.proofs.White.{single-white, controls-white, spaces-white, separators-white, others-not-white}
use Rattle.text.proofs.is_white_space.Goals as goal

pub returns-in_default : goal.returns-in_default
returns-in_default c =
    rw (others-not-white _ c.in_default.in_default-own.rest.1 (between-below 0x9 0xD _ (omega arith))
    (between-below 0x2000 0x200A _ (omega arith)) (between-below 0x2028 0x2029 _ (omega arith)))

pub returns-in_default-2 : goal.returns-in_default-2
returns-in_default-2 c =
    rw (others-not-white _ c.in_default.in_default-own.rest.1 (between-above 0x9 0xD _ (omega arith))
    (between-below 0x2000 0x200A _ (omega arith)) (between-below 0x2028 0x2029 _ (omega arith)))

pub returns-in_default-3 : goal.returns-in_default-3
returns-in_default-3 c =
    rw (others-not-white _ c.in_default.in_default-own.rest.1 (between-above 0x9 0xD _ (omega arith))
    (between-above 0x2000 0x200A _ (omega arith)) (between-below 0x2028 0x2029 _ (omega arith)))

pub returns-in_default-4 : goal.returns-in_default-4
returns-in_default-4 c =
    rw (others-not-white _ c.in_default.in_default-own.rest.1
    (between-above 0x9 0xD _ (omega arith)) (between-above 0x2000 0x200A _ (omega arith))
    (between-above 0x2028 0x2029 _ (omega arith)))

pub returns-in-9-to-13 : goal.returns-in-9-to-13
returns-in-9-to-13 c = rw (single-white _ c.in-9-to-13.in-9-to-13-own.keys1)

pub returns-in-9-to-13-2 : goal.returns-in-9-to-13-2
returns-in-9-to-13-2 c = rw (controls-white c.args.c (omega arith) (omega arith))

pub returns-in-9-to-13-3 : goal.returns-in-9-to-13-3
returns-in-9-to-13-3 c = rw (spaces-white c.args.c (omega arith) (omega arith))

pub returns-in-9-to-13-4 : goal.returns-in-9-to-13-4
returns-in-9-to-13-4 c =
    rw (separators-white c.args.c (omega arith) (omega arith))
