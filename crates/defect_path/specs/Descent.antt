-- What the descent has written: for every tree that the index stands for, the way from one of its entries to the one at word `target`.
use Rattle.std.specs.Prelude.{ℕ, ◌+◌, cond, List, [], ◌≡◌, leb}
use Rattle.std.proofs.Math.Option.{some}
use Rattle.text.specs.Ascii.{ascii}
use Rattle.definition.specs.Tree.{Text, Value, Condition, Rule}
use Rattle.rule.specs.Index.{ValueAt, ConditionAt, RuleAt}
use Rattle.validation.specs.Location.{through, in_value, in_condition, behind_label}
use Rattle.buffer.specs.Wrote.{Wrote}

-- the way from the value at word `i`
pub record ValueWritten (sheet words : List ℕ) (target i : ℕ) (before after : List ℕ) (at next : ℕ) : Type 0 where
  pub written : (v : Value) (p : Text) → ValueAt sheet words i v → in_value (target + 1) v ≡ some p → Wrote before after at p next

-- the way from the condition at word `i`
pub record ConditionWritten (sheet words : List ℕ) (defect target i : ℕ) (before after : List ℕ) (at next : ℕ) : Type 0 where
  pub written : (c : Condition) (p : Text)
      → ConditionAt sheet words i c
      → in_condition defect (target + 1) c ≡ some p
      → Wrote before after at p next

-- the way from a rule's root; the defects up to 12 are the label's own
pub record AssertWritten (sheet words : List ℕ) (defect target : ℕ) (before after : List ℕ) (at next : ℕ) : Type 0 where
  pub written : (c : Condition) (p : Text)
      → ConditionAt sheet words 1 c
      → cond (leb defect 12) (some []) (through (ascii ".assert") (in_condition defect (target + 1) c)) ≡ some p
      → Wrote before after at p next

-- the way from the root of a rule or template
pub record RuleWritten (sheet words : List ℕ) (defect place : ℕ) (before after : List ℕ) (at next : ℕ) : Type 0 where
  pub written : (tree : Rule) (p : Text)
      → RuleAt sheet words tree
      → behind_label defect place tree ≡ some p
      → Wrote before after at p next

-- with the way from word `j` on, written from `here` on, the way from the value at word `i` is written from `at` on
pub record ValueLeads (sheet words : List ℕ) (target i : ℕ) (before : List ℕ) (at j : ℕ) (now : List ℕ) (here : ℕ) : Type 0 where
  pub leads : (after : List ℕ) (next : ℕ)
      → ValueWritten sheet words target j now after here next
      → ValueWritten sheet words target i before after at next

-- the same for conditions
pub record ConditionLeads (sheet words : List ℕ) (defect target i : ℕ) (before : List ℕ) (at j : ℕ) (now : List ℕ) (here : ℕ) : Type 0 where
  pub leads : (after : List ℕ) (next : ℕ)
      → ConditionWritten sheet words defect target j now after here next
      → ConditionWritten sheet words defect target i before after at next

-- from a condition to a value that it holds
pub record OperandLeads (sheet words : List ℕ) (defect target i : ℕ) (before : List ℕ) (at j : ℕ) (now : List ℕ) (here : ℕ) : Type 0 where
  pub leads : (after : List ℕ) (next : ℕ)
      → ValueWritten sheet words target j now after here next
      → ConditionWritten sheet words defect target i before after at next
