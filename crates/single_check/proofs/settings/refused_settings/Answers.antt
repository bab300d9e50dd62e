use Rattle.std.proofs.lemmas.Bool.{not_from_false, not_from_true}
use Rattle.single_check.proofs.SettingSteps.{refusal-1, refusal-2, refusal-3, refusal-none}
use Rattle.single_check.proofs.settings.refused_settings.Goals as goal

pub returns-then-not-are_settings : goal.returns-then-not-are_settings
returns-then-not-are_settings c = refusal-1 _ _ _ _ _ c.are_settings.ensures (not_from_false _ c.if-not-are_settings.true)

pub returns-then-not-is_label : goal.returns-then-not-is_label
returns-then-not-is_label c = refusal-2 _ _ _ _ _ c.are_settings.ensures (not_from_true _ c.if-not-are_settings.false) c.is_label.ensures (not_from_false _ c.if-not-is_label.true)

pub returns-then-is_room : goal.returns-then-is_room
returns-then-is_room c = refusal-none _ _ _ _ _ c.are_settings.ensures (not_from_true _ c.if-not-are_settings.false) c.is_label.ensures (not_from_true _ c.if-not-is_label.false) c.is_room.ensures c.if-is_room.true

pub returns-else-is_room : goal.returns-else-is_room
returns-else-is_room c = refusal-3 _ _ _ _ _ c.are_settings.ensures (not_from_true _ c.if-not-are_settings.false) c.is_label.ensures (not_from_true _ c.if-not-is_label.false) c.is_room.ensures c.if-is_room.false
