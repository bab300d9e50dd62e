-- `json_sheet::rule_text::read_rule_member` meets its contract.
use Rattle.text.specs.Ascii.{ascii}
use Rattle.json_sheet.proofs.RuleTexts.{member-unread, member-unnamed, condition-bad, condition-given, text-bad, text-member}
use Rattle.json_sheet.proofs.rule_text.read_rule_member.Goals as goal

pub returns-in_err-kind : goal.returns-in_err-kind
returns-in_err-kind c = rw c.from_residual.ensures (member-unread c.args.s.now c.args.at (rw c.in_err-kind.was at c.read_place.ensures))

pub returns-then-kind-eq0 : goal.returns-then-kind-eq0
unfolding ascii
returns-then-kind-eq0 c = member-unnamed (rw c.in_ok-kind.was at c.read_place.ensures) c.if-kind-eq0.true

pub returns-in_err-behind : goal.returns-in_err-behind
unfolding ascii
returns-in_err-behind c = rw c.from_residual-in_err-behind.ensures (condition-bad (rw c.in_ok-kind.was at c.read_place.ensures) c.if-kind-eq2.true (rw c.in_err-behind.was at c.read_condition.ensures))

pub returns-then-kind-eq2 : goal.returns-then-kind-eq2
unfolding ascii
returns-then-kind-eq2 c = condition-given (rw c.in_ok-kind.was at c.read_place.ensures) c.if-kind-eq2.true (rw c.in_ok-behind.was at c.read_condition.ensures)

pub returns-in_err-place : goal.returns-in_err-place
unfolding ascii
returns-in_err-place c = rw c.from_residual-in_err-place.ensures (text-bad (rw c.in_ok-kind.was at c.read_place.ensures) c.if-kind-eq0.false c.if-kind-eq2.false (rw c.in_err-place.was at c.read_optional.ensures))

pub returns : goal.returns
unfolding ascii
returns c = text-member (rw c.in_ok-kind.was at c.read_place.ensures) c.args.out.now c.if-kind-eq0.false c.if-kind-eq2.false (rw c.in_ok-place.was at c.read_optional.ensures)
