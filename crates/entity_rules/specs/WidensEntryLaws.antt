-- What a host may rely on where it asks whether a schema is a widening: the numbers are read back as they were written, and where they say yes, an
-- old rule fares under the new schema as demand 3 says.
use Rattle.std.specs.Prelude.{ℕ, ◌≤◌, ◌<◌, Bool, List, ◌⊎◌, ◌≡◌, refl, length, get_or}
use Rattle.std.proofs.Common.{arith, ⊎_elim, sym, ap, ◌∙◌, le-leb}
use Rattle.std.proofs.Math.Option.{Option, none, some}
use Rattle.text.specs.CaseLaws.{zero-not-one}
use Rattle.definition.specs.Tree.{Schema}
use Rattle.definition.specs.Decode.{decode_schema}
use Rattle.widening.specs.Widening.{Level, only, anything, marks}
use Rattle.widening.specs.Decision.{widening, refuted}
use Rattle.widening.proofs.DecisionLaws.{widens-level}
use Rattle.widening.specs.SheetDecision.{DecisionAnswer, malformed, decision, answer_for, widens_sheets, decision_numbers}
use Rattle.validation.specs.Result.{AlsoTakes, early, first_refusal, Unrefused, Run, call_of, Meets}
use Rattle.validation.proofs.Demands.{SameButSchema, Demand3}
use Rattle.validation.proofs.Upgrade.{upgrade}
use Rattle.buffer.specs.Bytes.{field_at}
use Rattle.entity_rules.specs.Entry.{result_bytes, fields_of}
use Rattle.entity_rules.specs.EntryLaws.{field-of-result}
use Rattle.entity_rules.specs.WidensEntry.{in_places, widens_numbers, WidensAnswered, YesAt, by_marks, by_anything}

module _ {first second result_before result_now : List ℕ} {r : ℕ} (a : WidensAnswered first second result_before result_now r) (room : result_bytes ≤ length result_before) where
  -- so `rulecheck_field` gives the numbers of the answer
  pub widens-field : (i : ℕ) → i < 7 → field_at i result_now ≡ get_or (fields_of (widens_numbers first second)) i 0
  widens-field i less =
      rw a.result (field-of-result i (widens_numbers first second) result_before less room (a.small room))

  pub widens-returns : r ≡ (widens_numbers first second).number
  widens-returns = a.number ∙ rw (le-leb result_bytes (length result_before) room) refl

sheets-level : (x x' : Option Schema) (l : Level) → answer_for x x' ≡ decision (widening l) → (l ≡ marks) ⊎ (l ≡ anything)
unfolding answer_for
sheets-level none x' l e = zero-not-one cc
sheets-level (some s) none l e = zero-not-one cc
sheets-level (some s) (some s') l e = widens-level s s' l cc

only-marks : (may : ℕ → Bool) → (only may ≡ marks) ⊎ (only may ≡ anything) → only may ≡ marks
only-marks may h = ⊎_elim (λ e. e) (λ e. zero-not-one cc) h

says-yes : {l : Level} {y : ℕ} (x : DecisionAnswer)
    → ((k : Level) → x ≡ decision (widening k) → (k ≡ marks) ⊎ (k ≡ anything))
    → YesAt l y
    → (decision_numbers x).number ≡ 0
    → (decision_numbers x).answer ≡ y
    → x ≡ decision (widening l)
unfolding decision_numbers
says-yes (malformed which) levels said n a = absurd (omega arith)
says-yes (decision (widening (only may))) levels by_marks n a = ap (λ (k : Level). decision (widening k)) (only-marks may (levels (only may) refl))
says-yes (decision (widening (only may))) levels by_anything n a = absurd (omega arith)
says-yes (decision (widening anything)) levels by_marks n a = absurd (omega arith)
says-yes (decision (widening anything)) levels by_anything n a = refl
says-yes (decision (refuted why e e')) levels by_marks n a = absurd (omega arith)
says-yes (decision (refuted why e e')) levels by_anything n a = absurd (omega arith)

-- from the bytes of an answer to what it means for a rule
pub entry-upgrade : {l : Level} {result_before result_now : List ℕ} {n : ℕ} (r r' : Run)
    → WidensAnswered r.schema r'.schema result_before result_now n
    → result_bytes ≤ length result_before
    → n ≡ 0
    → YesAt l (field_at 1 result_now)
    → Meets r
    → Meets r'
    → SameButSchema r r'
    → AlsoTakes r.asked.takes r'.asked.takes
    → Unrefused (call_of r)
    → first_refusal (early (call_of r')) ≡ none
    → Demand3 l r r'
unfolding widens_numbers in_places fields_of widens_sheets
entry-upgrade {l} r r' a room zero said m m' s also u u' =
    upgrade r r' m m' s also
    (says-yes (widens_sheets r.schema r'.schema) (λ k. sheets-level (decode_schema r.schema) (decode_schema r'.schema) k) said
    (sym (widens-returns a room) ∙ zero) (sym (widens-field a room 1 (omega arith))))
    u u'
