-- Where a line reader is: after the head that it read, or where it was if it read none; and whether a sheet ends there.
use Rattle.std.specs.Prelude.{ℕ, ◌/◌, ◌<◌, ◌≤◌, Bool, true, false, cond, List, eqb, length, Option, Some, None}
use Rattle.sheet.specs.declared.rule_heads.ConditionHead.{ConditionHead}
use Rattle.sheet.specs.declared.schema_heads.FieldHead.{FieldHead}
use Rattle.text.specs.declared.part.Part.{Part}
use Rattle.sheet.specs.declared.rule_heads.RuleHead.{RuleHead}
use Rattle.sheet.specs.declared.schema_heads.SchemaHead.{SchemaHead}
use Rattle.sheet.specs.declared.rule_heads.ValueHead.{ValueHead}

-- the place after what was read, or the old one if nothing was
abbrev pub end_after : {H : Type 0} → Option (H × ℕ) → ℕ → ℕ
end_after (Some (h, next)) at = next
end_after None at = at

abbrev pub schema_end : Option (SchemaHead × ℕ) → ℕ → ℕ
schema_end = end_after

abbrev pub field_end : Option (FieldHead × ℕ) → ℕ → ℕ
field_end = end_after

abbrev pub rule_end : Option (RuleHead × ℕ) → ℕ → ℕ
rule_end = end_after

abbrev pub condition_end : Option (ConditionHead × ℕ) → ℕ → ℕ
condition_end = end_after

-- 0 where no condition that only values follow was read, else four times the place and a little more
abbrev pub plain_stop : ℕ → ℕ → ℕ
plain_stop read at = cond (eqb read 0) at (read / 4)

abbrev pub value_end : Option (ValueHead × ℕ) → ℕ → ℕ
value_end = end_after

-- 0 where no value that holds no others was read
abbrev pub leaf_stop : ℕ → ℕ → ℕ
leaf_stop read at = cond (eqb read 0) at read

abbrev pub key_end : Option (Part × ℕ) → ℕ → ℕ
key_end = end_after

-- there is no byte at place `at` or after it
abbrev pub EndIs : List ℕ → ℕ → Bool → Type 0
EndIs s at true = length s ≤ at
EndIs s at false = at < length s
