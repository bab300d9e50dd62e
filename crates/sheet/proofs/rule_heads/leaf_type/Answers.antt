-- `sheet::rule_heads::leaf_type` meets its contract: byte by byte.
use native.Mathlib.Omega.{arith}
use Rattle.sheet.proofs.Leaves.{leaf_type, no-type}
use Rattle.sheet.proofs.rule_heads.leaf_type.Goals as goal

pub returns-then-s-at : goal.returns-then-s-at
returns-then-s-at c = no-type _ _

pub returns-then-s-at-lt4 : goal.returns-then-s-at-lt4
returns-then-s-at-lt4 c = no-type _ _

pub returns-then-s-at-ne86 : goal.returns-then-s-at-ne86
returns-then-s-at-ne86 c = no-type _ _

pub returns-then-s-at-ne44 : goal.returns-then-s-at-ne44
returns-then-s-at-ne44 c = no-type _ _

pub returns-then-s-at-ne44-2 : goal.returns-then-s-at-ne44-2
returns-then-s-at-ne44-2 c = no-type _ _

pub returns-then-digit-lt49 : goal.returns-then-digit-lt49
returns-then-digit-lt49 c = no-type _ _

pub returns-then-digit-gt53 : goal.returns-then-digit-gt53
returns-then-digit-gt53 c = no-type _ _

pub returns : goal.returns
returns c =
    let a = c.args in
    λ h. leaf_type a.s.now a.at (omega (arith, c.if-s-at-lt4.false, c.if-s-at.false)) c.if-s-at-ne86.false c.if-s-at-ne44.false c.if-s-at-ne44-2.false (omega (arith, c.if-digit-lt49.false)) (omega (arith, c.if-digit-gt53.false))
