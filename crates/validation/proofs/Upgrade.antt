-- An old rule under a new schema, where the decision (widening's SheetDecision) says that the new one is a widening of the old: demand 3 without a
-- premise that the caller would have to know. The second call may be of the same function, or of one that takes any rule sheet (`AlsoTakes`): so it
-- meets no 5 where the first meets none.
use Rattle.std.specs.Prelude.{false, not, List, ◌≡◌, refl, ℕ}
use Rattle.std.proofs.Math.Option.{Option, none, some}
use Rattle.std.proofs.Common.{ap, ◌∙◌}
use Rattle.text.specs.CaseLaws.{zero-not-one}
use Rattle.definition.specs.Tree.{Schema}
use Rattle.definition.specs.Decode.{decode_schema, decode_rule}
use Rattle.definition.proofs.RoundTrip.{schema-rises}
use Rattle.widening.specs.Widening.{Level, marks, anything}
use Rattle.widening.specs.Decision.{widening}
use Rattle.widening.proofs.DecisionLaws.{widens-sound, widens-marks, widens-anything}
use Rattle.widening.specs.SheetDecision.{decision, answer_for, widens_sheets}
use Rattle.validation.specs.Check.{is_none}
use Rattle.validation.specs.Result.{AlsoTakes, is_taken, early, of_sheets, first_refusal, Unrefused, Run, call_of, Meets}
use Rattle.validation.proofs.RefusalLaws.{none-due, first-none, none-of-either, sheets-first, also-taken}
use Rattle.validation.specs.Growth.{Widens}
use Rattle.validation.proofs.Demands.{SameButSchema, Demand3, demand-3}

-- The decision about two sheets is the relation between them, at each level.

answered-widens : {l : Level} (sheet sheet' : List ℕ) (x x' : Option Schema)
    → decode_schema sheet ≡ x
    → decode_schema sheet' ≡ x'
    → answer_for x x' ≡ decision (widening l)
    → Widens l sheet sheet'
unfolding answer_for
answered-widens sheet sheet' none x' e e' h = zero-not-one cc
answered-widens sheet sheet' (some s) none e e' h = zero-not-one cc
answered-widens {l} sheet sheet' (some s) (some s') e e' h =
    record { first = s; second = s'; decodes_first = e; decodes_second = e'; is_wider = widens-sound s s' l (cc) }

pub decided-widens : {l : Level} (sheet sheet' : List ℕ) → widens_sheets sheet sheet' ≡ decision (widening l) → Widens l sheet sheet'
unfolding widens_sheets
decided-widens sheet sheet' h = answered-widens sheet sheet' (decode_schema sheet) (decode_schema sheet') refl refl h

pub marks-decided : (sheet sheet' : List ℕ) → Widens marks sheet sheet' → widens_sheets sheet sheet' ≡ decision (widening marks)
unfolding widens_sheets answer_for
marks-decided sheet sheet' w =
    rw (w.decodes_first, w.decodes_second)
    (ap decision ((widens-marks w.first w.second (schema-rises sheet' w.second w.decodes_second)).1 w.is_wider))

pub anything-decided : (sheet sheet' : List ℕ) → Widens anything sheet sheet' → (l : Level) × (widens_sheets sheet sheet' ≡ decision (widening l))
unfolding widens_sheets answer_for
anything-decided sheet sheet' w =
    let d = (widens-anything w.first w.second (schema-rises sheet' w.second w.decodes_second)).1 w.is_wider in
    (d.0, rw (w.decodes_first, w.decodes_second) (ap decision d.1))

-- Where the first call meets no refusal and the second none before its sheets, the second meets none: its schema sheet was read for the decision, and
-- its rule sheet is that of the first.

is_some : (s : Schema) (x : Option Schema) → x ≡ some s → is_none x ≡ false
unfolding is_none
is_some s x e = rw e

second-unrefused : {l : Level} (r r' : Run)
    → SameButSchema r r'
    → AlsoTakes r.asked.takes r'.asked.takes
    → Widens l r.schema r'.schema
    → Unrefused (call_of r)
    → first_refusal (early (call_of r')) ≡ none
    → Unrefused (call_of r')
unfolding call_of of_sheets
second-unrefused r r' s also w n n' =
    let sheets = none-due (of_sheets (call_of r)) (none-of-either (call_of r) n).1 in
    let taken : not (is_taken r'.asked.takes (decode_rule r.asked.rule)) ≡ false = also-taken also (decode_rule r.asked.rule) sheets.1.0 in
    sheets-first (call_of r') n'
    ∙ first-none (of_sheets (call_of r')) (is_some w.second (decode_schema r'.schema) w.decodes_second, (rw s.rule at taken, tt))

pub upgrade : {l : Level} (r r' : Run)
    → Meets r
    → Meets r'
    → SameButSchema r r'
    → AlsoTakes r.asked.takes r'.asked.takes
    → widens_sheets r.schema r'.schema ≡ decision (widening l)
    → Unrefused (call_of r)
    → first_refusal (early (call_of r')) ≡ none
    → Demand3 l r r'
upgrade r r' m m' s also d n n' =
    let w = decided-widens r.schema r'.schema d in
    demand-3 r r' m m' s w n (second-unrefused r r' s also w n n')
