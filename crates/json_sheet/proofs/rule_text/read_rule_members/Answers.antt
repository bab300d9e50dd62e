use native.Mathlib.Omega.{arith}
use Prim.Native.Nat.{◌-◌}
use mathlib.Core.Path.{refl, ◌∙◌}
use Rattle.json_sheet.proofs.RuleMembers.{gathering-start, gathering-unread, gathering-twice, gathering-alone, gathering-more, gathering-none, gathering-given, kind-below}
use Rattle.json_sheet.proofs.rule_text.read_rule_members.Goals as goal

pub loop-member-init : goal.loop-member-init
loop-member-init c = (gathering-start c.args.s.now c.args.at c.behind_spaces-i.result c.args.out.now c.behind_spaces-i.ensures, refl)

pub shape_of-out-in_err-member : goal.shape_of-out-in_err-member
shape_of-out-in_err-member c = c.read_rule_member.auto.out ∙ c.loop-member.invariant.1

pub returns-in_err-member : goal.returns-in_err-member
returns-in_err-member c = rw c.from_residual.ensures (gathering-unread c.behind_spaces-i.ensures c.loop-member.invariant.0 (rw c.in_err-member.was at c.read_rule_member.ensures))

pub offset_bounds-seen-kind : goal.offset_bounds-seen-kind
offset_bounds-seen-kind c = omega (arith, kind-below (rw c.in_ok-member.was at c.read_rule_member.ensures).seen)

pub bounds-seen-kind : goal.bounds-seen-kind
bounds-seen-kind c = omega (arith, kind-below (rw c.in_ok-member.was at c.read_rule_member.ensures).seen)

pub shape_of-out-then-seen-kind-ne0 : goal.shape_of-out-then-seen-kind-ne0
shape_of-out-then-seen-kind-ne0 c = c.read_rule_member.auto.out ∙ c.loop-member.invariant.1

pub returns-then-seen-kind-ne0 : goal.returns-then-seen-kind-ne0
returns-then-seen-kind-ne0 c = gathering-twice c.behind_spaces-i.ensures c.loop-member.invariant.0 (rw c.in_ok-member.was at c.read_rule_member.ensures) c.if-seen-kind-ne0.true

pub offset_bounds-seen-kind-in-loop-member : goal.offset_bounds-seen-kind-in-loop-member
offset_bounds-seen-kind-in-loop-member c = omega (arith, kind-below (rw c.in_ok-member.was at c.read_rule_member.ensures).seen)

pub bounds-seen-kind-in-loop-member : goal.bounds-seen-kind-in-loop-member
bounds-seen-kind-in-loop-member c = omega (arith, kind-below (rw c.in_ok-member.was at c.read_rule_member.ensures).seen)

pub offset_bounds-first-kind : goal.offset_bounds-first-kind
offset_bounds-first-kind c = omega (arith, kind-below (rw c.in_ok-member.was at c.read_rule_member.ensures).seen)

pub bounds-first-kind : goal.bounds-first-kind
bounds-first-kind c = omega (arith, kind-below (rw c.in_ok-member.was at c.read_rule_member.ensures).seen)

pub offset_bounds-second-kind : goal.offset_bounds-second-kind
offset_bounds-second-kind c = omega (arith, kind-below (rw c.in_ok-member.was at c.read_rule_member.ensures).seen)

pub bounds-second-kind : goal.bounds-second-kind
bounds-second-kind c = omega (arith, kind-below (rw c.in_ok-member.was at c.read_rule_member.ensures).seen)

pub read_separator-requires : goal.read_separator-requires
read_separator-requires c = (rw c.in_ok-member.was at c.read_rule_member.ensures).read.within

pub loop-member-smaller : goal.loop-member-smaller
loop-member-smaller c = omega (arith, (rw c.in_ok-member.was at c.read_rule_member.ensures).read.past, (rw c.in-More.is at (rw c.in_ok-place.was at c.read_separator.ensures)).past, (rw c.in-More.is at (rw c.in_ok-place.was at c.read_separator.ensures)).within)

pub loop-member-preserved : goal.loop-member-preserved
loop-member-preserved c = (gathering-more c.behind_spaces-i.ensures c.loop-member.invariant.0 (rw c.in_ok-member.was at c.read_rule_member.ensures) c.if-seen-kind-ne0.false (rw c.in-More.is at (rw c.in_ok-place.was at c.read_separator.ensures)), c.read_rule_member.auto.out ∙ c.loop-member.invariant.1)

pub shape_of-out-then-seen-eq0 : goal.shape_of-out-then-seen-eq0
shape_of-out-then-seen-eq0 c = c.read_rule_member.auto.out ∙ c.loop-member.invariant.1

pub returns-then-seen-eq0 : goal.returns-then-seen-eq0
returns-then-seen-eq0 c = gathering-none c.behind_spaces-i.ensures c.loop-member.invariant.0 (rw c.in_ok-member.was at c.read_rule_member.ensures) c.if-seen-kind-ne0.false (rw c.in-End.is at (rw c.in_ok-place.was at c.read_separator.ensures)) c.if-seen-eq0.true

pub shape_of-out-in-End : goal.shape_of-out-in-End
shape_of-out-in-End c = c.read_rule_member.auto.out ∙ c.loop-member.invariant.1

pub returns-in-End : goal.returns-in-End
returns-in-End c = gathering-given c.behind_spaces-i.ensures c.loop-member.invariant.0 (rw c.in_ok-member.was at c.read_rule_member.ensures) c.if-seen-kind-ne0.false (rw c.in-End.is at (rw c.in_ok-place.was at c.read_separator.ensures)) c.if-seen-eq0.false

pub shape_of-out-in_err-place : goal.shape_of-out-in_err-place
shape_of-out-in_err-place c = c.read_rule_member.auto.out ∙ c.loop-member.invariant.1

pub returns-in_err-place : goal.returns-in_err-place
returns-in_err-place c = rw c.from_residual-in_err-place.ensures (gathering-alone c.behind_spaces-i.ensures c.loop-member.invariant.0 (rw c.in_ok-member.was at c.read_rule_member.ensures) (rw c.in_err-place.was at c.read_separator.ensures))
