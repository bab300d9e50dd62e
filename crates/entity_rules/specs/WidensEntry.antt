-- What `rulecheck_widens` answers (docs/FORMAT.md, "The C interface").
use Rattle.std.specs.Prelude.{ℕ, ◌≤◌, cond, List, ◌≡◌, leb, length}
use Rattle.validation.specs.Result.{Numbers}
use Rattle.widening.specs.SheetDecision.{widens_sheets, DecisionNumbers, decision_numbers}
use Rattle.widening.specs.Widening.{Level, anything, marks}
use Rattle.buffer.specs.Bytes.{InFourBytes}
use Rattle.entity_rules.specs.Entry.{result_bytes, fields_of, result_after}

-- the five numbers are in the places of a result's first five, and the last two are 0
unfoldable pub in_places : DecisionNumbers → Numbers
in_places n =
    record {
      number = n.number;
      family = n.answer;
      detail = n.reason;
      place = n.first;
      over_place = n.second;
      passed = 0;
      path_length = 0;
    }

unfoldable pub widens_numbers : (first second : List ℕ) → Numbers
widens_numbers first second = in_places (decision_numbers (widens_sheets first second))

-- a result buffer under 28 bytes is refusal 3, and keeps its bytes
pub record WidensAnswered (first second result_before result_now : List ℕ) (r : ℕ) : Type 0 where
  pub number : r ≡ cond (leb result_bytes (length result_before)) (widens_numbers first second).number 3
  pub result : result_now ≡ result_after (widens_numbers first second) result_before
  pub small : result_bytes ≤ length result_before → InFourBytes (fields_of (widens_numbers first second))

-- the answer that stands for a widening in which no more than that differs
pub data YesAt : Level → ℕ → Type 0 where
  by_marks : YesAt marks 1
  by_anything : YesAt anything 2
