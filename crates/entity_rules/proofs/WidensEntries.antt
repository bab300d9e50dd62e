-- The call that `rulecheck_widens` makes, and the numbers that it tells.
use Rattle.std.specs.Prelude.{Result, Ok, Err}
use Prim.Native.Nat.{ℕ, ◌≤◌, ◌<◌}
use native.Mathlib.Omega.{arith}
use mathlib.Core.List.{List}
use mathlib.Core.Path.{◌≡◌, refl, ap, ◌∙◌}
use lib.ListN.{length}
use borrow.Author.Tests.{le-leb, lt-leb}
use Rattle.validation.specs.Result.{Numbers}
use Rattle.single_check.specs.Outcomes.{numbers_by}
use Rattle.single_check.specs.declared.outcome.Outcome.{Outcome}
use Rattle.widening.specs.SheetDecision.{DecisionAnswer, decision, widens_sheets, reason_number, decision_numbers}
use Rattle.schema_change.specs.Answers.{reason_of, decision_of, widens_answer_of}
use Rattle.schema_change.specs.declared.answer.Reason.{Reason}
use Rattle.schema_change.specs.declared.answer.Change.{Change}
use Rattle.schema_change.specs.declared.answer.Change.TheVariants.{Marks, Anything, Refuted}
use Rattle.entity_rules.specs.Entry.{result_bytes, result_after, Written}
use Rattle.entity_rules.specs.WidensEntry.{in_places, widens_numbers, WidensAnswered}

module _ {x : Change} {r : Outcome} where
  pub marks-told : x ≡ Marks
      → numbers_by r ≡ in_places (record { number = 0; answer = 1; reason = 0; first = 0; second = 0 })
      → numbers_by r ≡ in_places (decision_numbers (decision (decision_of x)))
  unfolding decision_numbers
  marks-told e h = rw e h

  pub anything-told : x ≡ Anything
      → numbers_by r ≡ in_places (record { number = 0; answer = 2; reason = 0; first = 0; second = 0 })
      → numbers_by r ≡ in_places (decision_numbers (decision (decision_of x)))
  unfolding decision_numbers
  anything-told e h = rw e h

  pub refuted-told : {why : Reason} {e e' n : ℕ} → x ≡ Refuted why e e'
      → n ≡ reason_number (reason_of why)
      → numbers_by r ≡ in_places (record { number = 0; answer = 3; reason = n; first = e; second = e' })
      → numbers_by r ≡ in_places (decision_numbers (decision (decision_of x)))
  unfolding decision_numbers
  refuted-told q n h = rw (q, ← n) h

module _ {x : Result Change ℕ} {r : Outcome} where
  pub malformed-told : {which : ℕ} → x ≡ Err which
      → numbers_by r ≡ in_places (record { number = 4; answer = which; reason = 0; first = 0; second = 0 })
      → numbers_by r ≡ in_places (decision_numbers (widens_answer_of x))
  unfolding decision_numbers
  malformed-told e h = rw e h

  pub change-told : {c : Change} → x ≡ Ok c → numbers_by r ≡ in_places (decision_numbers (decision (decision_of c))) → numbers_by r ≡ in_places (decision_numbers (widens_answer_of x))
  change-told e h = rw e h

pub short-answered : {first second result : List ℕ} → length result < result_bytes → WidensAnswered first second result result 3
unfolding result_after
short-answered {result = result} short =
    let no_room = lt-leb result_bytes (length result) short in
    record { number = rw no_room refl; result = rw no_room refl; small = λ room. absurd (omega arith) }

pub widens-answered : {first second result result_now : List ℕ} (x : Result Change ℕ) (r : Outcome)
    → result_bytes ≤ length result
    → widens_answer_of x ≡ widens_sheets first second
    → numbers_by r ≡ in_places (decision_numbers (widens_answer_of x))
    → Written r result result_now
    → WidensAnswered first second result result_now r.number
unfolding widens_numbers
widens-answered {first} {second} {result} x r room e h w =
    let numbers : numbers_by r ≡ widens_numbers first second = h ∙ ap (λ (a : DecisionAnswer). in_places (decision_numbers a)) e in
    record {
      number = ap (λ (n : Numbers). n.number) numbers ∙ rw (le-leb result_bytes (length result) room) refl;
      result = w.stands ∙ ap (λ (n : Numbers). result_after n result) numbers;
      small = λ _. rw numbers at w.small;
    }
