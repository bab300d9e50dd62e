-- What the reader of a condition answers, by what its head announces.
use Prim.Native.Nat.{ℕ, suc, ◌+◌, ◌*◌, ◌-◌, ◌≤◌, ◌<◌}
use mathlib.Core.List.{List}
use mathlib.Core.Option.{none}
use mathlib.Core.Path.{◌≡◌, ap, ◌∙◌}
use native.Mathlib.Omega.{arith}
use native.Mathlib.Nat.{zero-add}
use lib.ListN.{length, drop, set}
use Rattle.text.specs.ReadAt.{ReadsTo}
use Rattle.sheet.specs.Entries.{condition_head, max_count}
use Rattle.sheet.specs.Places.{condition_of, condition_count}
use Rattle.sheet.specs.declared.rule_heads.ConditionHead.{ConditionHead}
use Rattle.sheet.specs.declared.rule_heads.ConditionHead.TheVariants as head
use Rattle.definition.specs.Limits.{max_rule_entries}
use Rattle.definition.specs.Decode.{Ahead, any_value, condition_in, values_of, conditions_of}
use Rattle.definition.specs.Decode as decode
use Rattle.definition.specs.Within.{condition_entries, conditions_entries, values_entries}
use Rattle.rule.specs.declared.cursor.Cursor.{Cursor}
use Rattle.rule.specs.Index.{ConditionAt, ValuesAt, ConditionsAt}
use Rattle.rule.specs.IndexLaws.{agree-within, agree_then, values-frame, conditions-frame}
use Rattle.rule.specs.Read.{ahead_of, operands_of, Kept, Ready, Indexed}
use Rattle.rule.proofs.KeptLaws.{kept-all, kept-wider, kept_then, agree-below}
use Rattle.rule.proofs.CloseLaws.{entry_closed, kept-closed, agree-closed}
use Rattle.rule.proofs.ConditionLaws.{condition-too-deep, condition-headless, condition-headed, Announces, literal-announces, many-announces, negation-announces, one-announces, two-announces, comparison-announces, quantifier-announces, operands-unpaid, operands-valueless, operands-conditionless, operands-held}

operands-announced : (s : List ℕ) (h : ConditionHead)
    → Announces (condition_of s h) (operands_of h).values (operands_of h).conditions ((operands_of h).values + (operands_of h).conditions)
unfolding condition_of operands_of
operands-announced s (head.Literal truth) = literal-announces
operands-announced s (head.Many op n) = rw (zero-add n) many-announces
operands-announced s head.Negation = negation-announces
operands-announced s (head.One op) = one-announces
operands-announced s (head.Two op) = two-announces
operands-announced s (head.Comparison which) = comparison-announces
operands-announced s (head.Quantifier op bind) = quantifier-announces

-- so few operands that their number fits
pub operands-few : (h : ConditionHead) → condition_count h ≤ max_count → ((operands_of h).values ≤ 2) × ((operands_of h).conditions ≤ max_count)
unfolding condition_count operands_of
operands-few (head.Literal truth) e = omega arith
operands-few (head.Many op n) e = omega arith
operands-few head.Negation e = omega arith
operands-few (head.One op) e = omega arith
operands-few (head.Two op) e = omega arith
operands-few (head.Comparison which) e = omega arith
operands-few (head.Quantifier op bind) e = omega arith

abbrev Bad : (s before after : List ℕ) (depth : ℕ) (c : Cursor) → Type 0
Bad s before after depth c = (condition_in depth (ahead_of s c) ≡ none) × Kept before after c.word max_rule_entries

module _ (s words : List ℕ) (depth : ℕ) (c : Cursor) where
  pub condition-deep-answer : depth ≡ 0 → Bad s words words depth c
  condition-deep-answer e = (condition-too-deep (ahead_of s c) depth e, kept-all)

  pub condition-headless-answer : (depth ≡ 0 → ⊥) → condition_head (drop c.at s) ≡ none → Bad s words words depth c
  condition-headless-answer deep e =
      let below : depth ≡ suc (depth - 1) = omega arith in
      (ap (λ (d : ℕ). condition_in d (ahead_of s c)) below ∙ condition-headless (depth - 1) (ahead_of s c) e, kept-all)

module _ (s words : List ℕ) (depth behind v k : ℕ) (c : Cursor) (h : ConditionHead) (deep : depth ≡ 0 → ⊥) (reads : ReadsTo condition_head s c.at (condition_of s h) behind)
    (is_values : v ≡ (operands_of h).values) (is_conditions : k ≡ (operands_of h).conditions)
  where
    abbrev inner : Cursor
    inner = record { at = behind; word = c.word + 1; left = c.left - (v + k) }

    abbrev ahead : Ahead
    ahead = record { next = c.word + 1 + 1; left = c.left; rest = drop behind s }

    below-depth : depth ≡ suc (depth - 1)
    below-depth = omega arith

    announces : Announces (condition_of s h) v k (v + k)
    announces = rw (is_values, is_conditions) (operands-announced s h)

    headed : condition_in depth (ahead_of s c) ≡ decode.condition_of (c.word + 1) (condition_of s h) (condition_in (depth - 1)) ahead
    headed = ap (λ (d : ℕ). condition_in d (ahead_of s c)) below-depth ∙ condition-headed (depth - 1) (ahead_of s c) (condition_of s h) (drop behind s) reads.reads

    pub operands-unpaid-answer : c.left < v + k → Bad s words words depth c
    operands-unpaid-answer q = (headed ∙ operands-unpaid (c.word + 1) (condition_in (depth - 1)) ahead announces q, kept-all)

    module _ (pays : v + k ≤ c.left) where
      pub operands-valueless-answer : {mid : List ℕ}
          → (values_of v any_value (ahead_of s inner) ≡ none) × Kept words mid (c.word + 1) max_rule_entries
          → Bad s words mid depth c
      operands-valueless-answer bad =
          (headed ∙ operands-valueless (c.word + 1) (condition_in (depth - 1)) ahead announces pays bad.0, kept-wider bad.1 (omega arith) (omega arith))

      module _ {mid : List ℕ} {middle : Cursor} (ready : Ready s words 1 c) (values : Indexed (values_of v any_value) (ValuesAt s) values_entries s words mid v inner middle) where
        pub operands-ready : Ready s mid k middle
        operands-ready =
            record {
              small = ready.small;
              room = omega (arith, ready.room, values.kept.len);
              inside = values.inside;
              budget = omega (arith, values.budget, ready.budget);
            }

        pub operands-conditionless-answer : {late : List ℕ}
            → (conditions_of k (condition_in (depth - 1)) (ahead_of s middle) ≡ none) × Kept mid late middle.word max_rule_entries
            → Bad s words late depth c
        operands-conditionless-answer bad =
            (headed ∙ operands-conditionless (c.word + 1) (condition_in (depth - 1)) ahead announces pays values.reads bad.0, kept_then values.kept bad.1 (omega arith) (omega (arith, values.size)) (omega (arith, values.budget, ready.budget)) (omega arith))

        pub operands-answer : {late : List ℕ} {next : Cursor} {x : ℕ}
            → x ≡ c.at * 4096 + next.word
            → Indexed (conditions_of k (condition_in (depth - 1))) (ConditionsAt s) conditions_entries s mid late k middle next
            → Indexed (condition_in depth) (ConditionAt s) condition_entries s words (set late c.word x) 1 c next
        operands-answer {late} {next} {x} word conditions =
            let vs = values.tree in
            let cs = conditions.tree in
            let holder = operands-held s (c.word + 1) (condition_in (depth - 1)) ahead (ahead_of s middle) (ahead_of s next) vs cs announces pays values.reads conditions.reads in
            let behind-values : middle.word ≡ c.word + 1 + values_entries vs = values.size in
            let end : next.word ≡ c.word + (1 + (values_entries vs + conditions_entries cs)) = omega (arith, values.size, conditions.size) in
            let limit : next.word ≤ max_rule_entries = omega (arith, values.budget, conditions.budget, ready.budget) in
            let inside : c.word < length late = omega (arith, values.kept.len, conditions.kept.len, ready.room, ready.budget) in
            let kept : Kept words late (c.word + 1) next.word = kept_then values.kept conditions.kept (omega arith) (omega arith) (omega arith) (omega arith) in
            record {
              tree = holder.tree;
              reads = headed ∙ holder.reads;
              indexed =
                  holder.operands.is_at (set late c.word x) c.word
                  (entry_closed late c.at c.word word reads.reads inside end (omega arith))
                  (values-frame s mid (set late c.word x) vs (c.word + 1) values.indexed (agree_then (agree-below conditions.kept (omega arith)) (agree-closed late c.word x)))
                  (rw (← behind-values) (conditions-frame s late (set late c.word x) cs middle.word conditions.indexed (agree-within (agree-closed late c.word x {b = next.word}) (omega arith) (omega (arith, conditions.size)))));
              size = omega (arith, holder.operands.is_size);
              kept = kept-closed x kept (omega arith);
              inside = conditions.inside;
              budget = omega (arith, values.budget, conditions.budget);
            }
