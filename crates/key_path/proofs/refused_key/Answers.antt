-- `key_path::refused_key` meets its contract.
use Rattle.std.proofs.lemmas.Bool.{not_from_false, not_from_true}
use Rattle.key_path.proofs.KeySteps.{refusal-1, refusal-2, refusal-3, refusal-none}
use Rattle.key_path.proofs.refused_key.Goals as goal

pub returns-then-not-are_settings : goal.returns-then-not-are_settings
returns-then-not-are_settings c = refusal-1 _ _ _ _ c.are_settings.ensures (not_from_false _ c.if-not-are_settings.true)

pub returns-then-not-is_key : goal.returns-then-not-is_key
returns-then-not-is_key c = refusal-2 _ _ _ _ c.are_settings.ensures (not_from_true _ c.if-not-are_settings.false) c.is_key.ensures (not_from_false _ c.if-not-is_key.true)

pub returns-then-scratch-ge-SCRATCH_WORDS : goal.returns-then-scratch-ge-SCRATCH_WORDS
returns-then-scratch-ge-SCRATCH_WORDS c = refusal-none _ _ _ _ c.are_settings.ensures (not_from_true _ c.if-not-are_settings.false) c.is_key.ensures (not_from_true _ c.if-not-is_key.false) c.if-scratch-ge-SCRATCH_WORDS.true

pub returns-else-scratch-ge-SCRATCH_WORDS : goal.returns-else-scratch-ge-SCRATCH_WORDS
returns-else-scratch-ge-SCRATCH_WORDS c = refusal-3 _ _ _ _ c.are_settings.ensures (not_from_true _ c.if-not-are_settings.false) c.is_key.ensures (not_from_true _ c.if-not-is_key.false) c.if-scratch-ge-SCRATCH_WORDS.false
