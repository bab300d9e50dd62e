use borrow.Author.Rules.{rules}
use Rattle.single_check.proofs.SettingSteps.{and-le, and_lt}
use Rattle.single_check.proofs.settings.is_label.Goals as goal

pub returns-then-label-le-MAX_LABEL_BYTES : goal.returns-then-label-le-MAX_LABEL_BYTES
returns-then-label-le-MAX_LABEL_BYTES c = search (and-le, rules)

pub returns-else-label-le-MAX_LABEL_BYTES : goal.returns-else-label-le-MAX_LABEL_BYTES
returns-else-label-le-MAX_LABEL_BYTES c = and_lt _ c.if-label-le-MAX_LABEL_BYTES.false
