-- What is answered about two schema sheets, and the numbers that a caller hears (docs/FORMAT.md, "Is it a widening?").
use Rattle.std.specs.Prelude.{ℕ, List}
use Rattle.std.proofs.Math.Option.{Option, none, some}
use Rattle.definition.specs.Tree.{Schema}
use Rattle.definition.specs.Decode.{decode_schema}
use Rattle.widening.specs.Widening.{only, anything}
use Rattle.widening.specs.Decision.{Reason, field_missing, kind_differs, items_differ, tag_differs, mark_closes, field_added, arguments_go, Decision, widening, refuted, widens}

pub data DecisionAnswer : Type 0 where
  -- which sheet is not well formed: 1 the first, 2 the second
  malformed : (which : ℕ) → DecisionAnswer
  decision : Decision → DecisionAnswer

unfoldable pub answer_for : Option Schema → Option Schema → DecisionAnswer
answer_for none x' = malformed 1
answer_for (some s) none = malformed 2
answer_for (some s) (some s') = decision (widens s s')

unfoldable pub widens_sheets : (first second : List ℕ) → DecisionAnswer
widens_sheets first second = answer_for (decode_schema first) (decode_schema second)

unfoldable pub reason_number : Reason → ℕ
reason_number field_missing = 1
reason_number kind_differs = 2
reason_number items_differ = 3
reason_number tag_differs = 4
reason_number mark_closes = 5
reason_number field_added = 6
reason_number arguments_go = 7

pub record DecisionNumbers : Type 0 where
  -- 0, or refusal 4
  pub number : ℕ
  -- 1 only open marks differ, 2 a widening, 3 none; with refusal 4, which sheet it is
  pub answer : ℕ
  pub reason : ℕ
  pub first : ℕ
  pub second : ℕ

unfoldable pub decision_numbers : DecisionAnswer → DecisionNumbers
decision_numbers (malformed which) = record { number = 4; answer = which; reason = 0; first = 0; second = 0 }
decision_numbers (decision (widening (only may))) = record { number = 0; answer = 1; reason = 0; first = 0; second = 0 }
decision_numbers (decision (widening anything)) = record { number = 0; answer = 2; reason = 0; first = 0; second = 0 }
decision_numbers (decision (refuted why e e')) = record { number = 0; answer = 3; reason = reason_number why; first = e; second = e' }
