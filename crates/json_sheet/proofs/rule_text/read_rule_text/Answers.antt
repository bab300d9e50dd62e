-- `json_sheet::rule_text::read_rule_text` meets its contract.
use native.Mathlib.Omega.{arith}
use mathlib.Core.Path.{◌∙◌}
use Rattle.json_sheet.proofs.RuleTexts.{text-no-object, text-no-members, text-not-ended, name-long, message-long, rule-given}
use Rattle.json_sheet.proofs.rule_text.read_rule_text.Goals as goal

pub overflow_add-i : goal.overflow_add-i
overflow_add-i c = omega (arith, (rw c.if-starts_with.true at c.starts_with.ensures).within)

pub read_rule_members-requires : goal.read_rule_members-requires
read_rule_members-requires c = (rw c.if-starts_with.true at c.starts_with.ensures).within

pub shape_of-out-in_default : goal.shape_of-out-in_default
shape_of-out-in_default c = c.read_rule_members.auto.out

pub returns-in_default : goal.returns-in_default
returns-in_default c = text-no-members c.behind_spaces-i.ensures (rw c.if-starts_with.true at c.starts_with.ensures) (rw c.in_default.is at c.read_rule_members.ensures)

pub behind_spaces-requires : goal.behind_spaces-requires
behind_spaces-requires c = (rw c.in-Some.is at c.read_rule_members.ensures).read.within

pub shape_of-out-then-behind_spaces-s : goal.shape_of-out-then-behind_spaces-s
shape_of-out-then-behind_spaces-s c = c.read_rule_members.auto.out

pub returns-then-behind_spaces-s : goal.returns-then-behind_spaces-s
returns-then-behind_spaces-s c = text-not-ended c.behind_spaces-i.ensures (rw c.if-starts_with.true at c.starts_with.ensures) (rw c.in-Some.is at c.read_rule_members.ensures) c.behind_spaces.ensures (omega (arith, c.if-behind_spaces-s.true))

pub shape_of-out-then-read-gt-MAX_TEXT : goal.shape_of-out-then-read-gt-MAX_TEXT
shape_of-out-then-read-gt-MAX_TEXT c = c.read_rule_members.auto.out

pub returns-then-read-gt-MAX_TEXT : goal.returns-then-read-gt-MAX_TEXT
returns-then-read-gt-MAX_TEXT c = name-long c.behind_spaces-i.ensures (rw c.if-starts_with.true at c.starts_with.ensures) (rw c.in-Some.is at c.read_rule_members.ensures) c.behind_spaces.ensures (omega (arith, c.if-behind_spaces-s.false)) (omega (arith, c.if-read-gt-MAX_TEXT.true))

pub shape_of-out-then-read-gt-MAX_TEXT-2 : goal.shape_of-out-then-read-gt-MAX_TEXT-2
shape_of-out-then-read-gt-MAX_TEXT-2 c = c.read_rule_members.auto.out

pub returns-then-read-gt-MAX_TEXT-2 : goal.returns-then-read-gt-MAX_TEXT-2
returns-then-read-gt-MAX_TEXT-2 c = message-long c.behind_spaces-i.ensures (rw c.if-starts_with.true at c.starts_with.ensures) (rw c.in-Some.is at c.read_rule_members.ensures) c.behind_spaces.ensures (omega (arith, c.if-behind_spaces-s.false)) (omega (arith, c.if-read-gt-MAX_TEXT-2.true))

pub shape_of-out-then-starts_with : goal.shape_of-out-then-starts_with
shape_of-out-then-starts_with c = c.lay_front-start.auto.out ∙ c.read_rule_members.auto.out

pub returns-then-starts_with : goal.returns-then-starts_with
returns-then-starts_with c = rule-given c.behind_spaces-i.ensures (rw c.if-starts_with.true at c.starts_with.ensures) (rw c.in-Some.is at c.read_rule_members.ensures) c.behind_spaces.ensures (omega (arith, c.type_inv)) (omega (arith, c.if-behind_spaces-s.false)) (omega (arith, c.if-read-gt-MAX_TEXT.false)) (omega (arith, c.if-read-gt-MAX_TEXT-2.false)) c.lay_front-start.ensures

pub returns : goal.returns
returns c = text-no-object c.behind_spaces-i.ensures (rw c.if-starts_with.false at c.starts_with.ensures)
