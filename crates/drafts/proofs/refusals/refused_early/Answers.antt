-- `drafts::refusals::refused_early` meets its contract.
use Rattle.drafts.proofs.LentSteps.{rules-first, room-refused, count-refused, then-table}
use Rattle.drafts.proofs.refusals.refused_early.Goals as goal

pub returns-then-number-ne0 : goal.returns-then-number-ne0
returns-then-number-ne0 c = rules-first _ _ _ _ _ _ _ c.refused_rules-number.ensures c.if-number-ne0.true

pub returns-then-not-has_room : goal.returns-then-not-has_room
returns-then-not-has_room c = room-refused _ _ _ _ _ _ _ c.refused_rules-number.ensures c.if-number-ne0.false c.has_room.ensures c.if-not-has_room.true

pub returns-then-count-gt-MAX_RULES : goal.returns-then-count-gt-MAX_RULES
returns-then-count-gt-MAX_RULES c = count-refused _ _ _ _ _ _ _ c.refused_rules-number.ensures c.if-number-ne0.false c.has_room.ensures c.if-not-has_room.false c.if-count-gt-MAX_RULES.true

pub returns : goal.returns
returns c = then-table _ _ _ _ _ _ _ c.refused_rules-number.ensures c.if-number-ne0.false c.has_room.ensures c.if-not-has_room.false c.if-count-gt-MAX_RULES.false c.refused_table.ensures
