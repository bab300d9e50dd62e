-- A condition that values follow, and no conditions: it is read once its values are.
use Prim.Native.Nat.{ℕ, ◌+◌, ◌*◌, ◌-◌, ◌≤◌, ◌<◌}
use mathlib.Core.List.{List}
use mathlib.Core.Option.{none}
use mathlib.Core.Path.{◌≡◌, refl, sym, ◌∙◌}
use native.Mathlib.Omega.{arith}
use lib.ListN.{set}
use Rattle.sheet.specs.Places.{PlainRead, operand_count, condition_count}
use Rattle.sheet.specs.declared.rule_heads.ConditionHead.{ConditionHead}
use Rattle.sheet.specs.declared.rule_heads.ConditionHead.TheVariants as head
use Rattle.definition.specs.Limits.{max_rule_entries}
use Rattle.definition.specs.Decode.{any_value, condition_in, values_of}
use Rattle.definition.specs.Within.{condition_entries, values_entries}
use Rattle.rule.specs.declared.cursor.Cursor.{Cursor}
use Rattle.rule.specs.Index.{ConditionAt, ValuesAt}
use Rattle.rule.specs.Read.{ahead_of, operands_of, Kept, Ready, Indexed}
use Rattle.rule.proofs.SiblingLaws.{siblings-begin, siblings-end}
use Rattle.rule.proofs.SiblingKinds.{conditions-kind}
use Rattle.rule.proofs.ConditionAnswers.{operands-unpaid-answer, operands-valueless-answer, operands-ready, operands-answer}

plain-operands : (h : ConditionHead) → condition_count h ≡ 0 → (operand_count h ≡ (operands_of h).values) × (0 ≡ (operands_of h).conditions)
unfolding condition_count operand_count operands_of
plain-operands (head.Literal truth) e = (refl, refl)
plain-operands (head.Many op n) e = (refl, sym e)
plain-operands head.Negation e = absurd (omega (arith, e))
plain-operands (head.One op) e = (refl, refl)
plain-operands (head.Two op) e = (refl, refl)
plain-operands (head.Comparison which) e = (refl, refl)
plain-operands (head.Quantifier op bind) e = absurd (omega (arith, e))

module _ (s words : List ℕ) (depth behind values : ℕ) (c : Cursor) (deep : depth ≡ 0 → ⊥) (plain : PlainRead s c.at behind values) where
  abbrev inner : Cursor
  inner = record { at = behind; word = c.word + 1; left = c.left - values }

  announced : values ≡ (operands_of plain.head).values
  announced = sym plain.operands ∙ (plain-operands plain.head plain.alone).0

  alone : 0 ≡ (operands_of plain.head).conditions
  alone = (plain-operands plain.head plain.alone).1

  sum : values + 0 ≡ values
  sum = omega arith

  pub plain-unpaid-answer : c.left < values → (condition_in depth (ahead_of s c) ≡ none) × Kept words words c.word max_rule_entries
  plain-unpaid-answer q = operands-unpaid-answer s words depth behind values 0 c plain.head deep plain.reads announced alone (omega (arith, q))

  module _ (pays : values ≤ c.left) {mid : List ℕ} where
    pub plain-valueless-answer : (values_of values any_value (ahead_of s inner) ≡ none) × Kept words mid (c.word + 1) max_rule_entries
        → (condition_in depth (ahead_of s c) ≡ none) × Kept words mid c.word max_rule_entries
    plain-valueless-answer bad = operands-valueless-answer s words depth behind values 0 c plain.head deep plain.reads announced alone (omega (arith, pays)) (rw sum bad)

    pub plain-answer : {next : Cursor} {x : ℕ} → Ready s words 1 c
        → Indexed (values_of values any_value) (ValuesAt s) values_entries s words mid values inner next
        → x ≡ c.at * 4096 + next.word
        → Indexed (condition_in depth) (ConditionAt s) condition_entries s words (set mid c.word x) 1 c next
    plain-answer {next} ready follow word =
        let whole : Indexed (values_of values any_value) (ValuesAt s) values_entries s words mid values (record { at = behind; word = c.word + 1; left = c.left - (values + 0) }) next = rw sum follow in
        let ends = operands-ready s words depth behind values 0 c plain.head deep plain.reads announced alone (omega (arith, pays)) ready whole in
        operands-answer s words depth behind values 0 c plain.head deep plain.reads announced alone (omega (arith, pays)) ready whole word
        (siblings-end (siblings-begin (conditions-kind s (depth - 1)) tt 0 ends) refl refl)
