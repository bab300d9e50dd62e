-- What the calls by which fields come and go promise: which refusal is heard, that nothing changes under one, and that after any sequence of steps each record is that of a
-- check from the beginning.
use Rattle.std.specs.Prelude.{ℕ, zero, suc, ◌+◌, ◌*◌, ◌-◌, ◌≤◌, ◌<◌, Bool, true, false, not, cond, ◌&&◌, ◌||◌, ◌↔◌, ◌≡◌, leb, length, take, drop, get_or}
use Rattle.std.proofs.Common.{arith, sym, ap, ap₂, ◌∙◌, leb-true, leb-false, le-leb}
use Rattle.std.proofs.lemmas.Bool.{false≢true, lt-leb, not-true}
use mathlib.Core.List.{List, [], ◌∷◌, ◌++◌}
use Rattle.std.proofs.Math.Option.{Option, none, some}
use Rattle.std.proofs.Math.Path.{refl}
use Rattle.text.specs.Utf8.{between, is_utf8}
use Rattle.text.proofs.Bools.{and-true-0, and-true-1}
use Rattle.definition.specs.Tree.{Text, Schema, Rule}
use Rattle.definition.specs.Decode.{decode_schema, decode_rule}
use Rattle.definition.specs.Write.{write_schema}
use Rattle.reference.specs.Setting.{one_of}
use Rattle.validation.specs.Check.{is_none}
use Rattle.validation.specs.Result.{Call, Refusal, Answer, are_wide, of_table, of_settings, early, of_sheets, refusals, first_refusal, is_taken, checked, judged, setting_for, result_of, max_label_bytes}
use Rattle.validation.specs.Result as Result
use Rattle.validation.proofs.RefusalLaws.{present, is_set, none-due, first-none}
use Rattle.call.specs.Call.{Reply, refused_by, told, heard_by, tried, if_told, Run, Leaves}
use Rattle.call.proofs.CallLaws.{heard-told, only-tried, heard-at, numbers-size}
use Rattle.drafts.specs.Lent.{LentRule, is_any, change_of}
use Rattle.drafts.specs.DraftCalls.{DraftCall, StepCall, sheet_in, schema_in, max_rules, is_unset, is_mislabelled, is_malformed, has_room, early_refusals, of_rules, start_refusals, start_refusal_numbers, is_twice, is_missing, outgrows, of_both, change_refusals, step_refusals, step_refusal_numbers, Drafted, start_tells, step_tells, start_shape, step_shape, start_answer, step_answer, MeetsStart, MeetsStep}

-- The lists are exact: the refusals are tried in their order, and no other number is heard.

pub start-tries : (c : DraftCall) → tried (start_refusals c) ≡ start_refusal_numbers
unfolding start_refusals early_refusals start_refusal_numbers tried
start-tries c = refl

pub step-tries : (c : StepCall) → tried (step_refusals c) ≡ step_refusal_numbers
unfolding step_refusals early_refusals change_refusals step_refusal_numbers tried
step-tries c = refl

pub start-refusal-listed : (c : DraftCall) (n : ℕ) → start_answer c ≡ refused_by n → one_of n start_refusal_numbers ≡ true
start-refusal-listed c n e = only-tried (start_refusals c) (start_tells c) n start_refusal_numbers (start-tries c) e

pub step-refusal-listed : (c : StepCall) (n : ℕ) → step_answer c ≡ refused_by n → one_of n step_refusal_numbers ≡ true
step-refusal-listed c n e = only-tried (step_refusals c) (step_tells c) n step_refusal_numbers (step-tries c) e

-- Where 40 to 43 are heard.

-- 1 to 3
abbrev pub up_to_room : DraftCall → List Refusal
up_to_room c =
    record { number = 1; is_due = is_any is_unset c.rules }
    ∷ record { number = 2; is_due = is_any is_mislabelled c.rules }
    ∷ record { number = 3; is_due = not (has_room c) }
    ∷ []

over : (n : ℕ) → (not (leb n max_rules) ≡ true) ↔ (max_rules < n)
over n = (λ d. leb-false n max_rules (not-true _ d), λ h. rw (lt-leb n max_rules h))

pub start-43 : (c : DraftCall) → (start_answer c ≡ refused_by 43) ↔ ((first_refusal (up_to_room c) ≡ none) × (max_rules < length c.rules))
unfolding start_refusals early_refusals tried one_of
start-43 c =
    let at = heard-at (up_to_room c) (record { number = 43; is_due = not (leb (length c.rules) max_rules) }) (of_table c.table ++ (record { number = 4; is_due = is_none (schema_in c) } ∷ of_rules c ∷ [])) (start_tells c) refl refl in
    let is = over (length c.rules) in
    (λ e. let h = at.0 e in (h.0, is.0 h.1), λ h. at.1 (h.0, is.1 h.1))

abbrev up_to_sheets : StepCall → List Refusal
up_to_sheets c = early_refusals c.draft ++ (record { number = 4; is_due = is_none (change_of c.given) || is_none (schema_in c.draft) } ∷ of_rules c.draft ∷ [])

pub step-43 : (c : StepCall) → (step_answer c ≡ refused_by 43) ↔ ((first_refusal (up_to_room c.draft) ≡ none) × (max_rules < length c.draft.rules))
unfolding step_refusals early_refusals change_refusals tried one_of
step-43 c =
    let at = heard-at (up_to_room c.draft) (record { number = 43; is_due = not (leb (length c.draft.rules) max_rules) }) (of_table c.draft.table ++ (record { number = 4; is_due = is_none (change_of c.given) || is_none (schema_in c.draft) } ∷ of_rules c.draft ∷ change_refusals (change_of c.given) (schema_in c.draft))) (step_tells c) refl refl in
    let is = over (length c.draft.rules) in
    (λ e. let h = at.0 e in (h.0, is.0 h.1), λ h. at.1 (h.0, is.1 h.1))

-- 40 to 42, of the change: those before each are not due, and it is
module _ (c : StepCall) where
  abbrev of40 : Refusal
  of40 = record { number = 40; is_due = of_both is_twice (change_of c.given) (schema_in c.draft) }

  abbrev of41 : Refusal
  of41 = record { number = 41; is_due = of_both is_missing (change_of c.given) (schema_in c.draft) }

  abbrev of42 : Refusal
  of42 = record { number = 42; is_due = of_both outgrows (change_of c.given) (schema_in c.draft) }

  pub draft-40 : (step_answer c ≡ refused_by 40) ↔ ((first_refusal (up_to_sheets c) ≡ none) × (of_both is_twice (change_of c.given) (schema_in c.draft) ≡ true))
  unfolding step_refusals early_refusals change_refusals tried one_of
  draft-40 = heard-at (up_to_sheets c) of40 (of41 ∷ of42 ∷ []) (step_tells c) refl refl

  pub draft-41 : (step_answer c ≡ refused_by 41) ↔ ((first_refusal (up_to_sheets c ++ (of40 ∷ [])) ≡ none) × (of_both is_missing (change_of c.given) (schema_in c.draft) ≡ true))
  unfolding step_refusals early_refusals change_refusals tried one_of
  draft-41 = heard-at (up_to_sheets c ++ (of40 ∷ [])) of41 (of42 ∷ []) (step_tells c) refl refl

  pub draft-42 : (step_answer c ≡ refused_by 42) ↔ ((first_refusal (up_to_sheets c ++ (of40 ∷ of41 ∷ [])) ≡ none) × (of_both outgrows (change_of c.given) (schema_in c.draft) ≡ true))
  unfolding step_refusals early_refusals change_refusals tried one_of
  draft-42 = heard-at (up_to_sheets c ++ (of40 ∷ of41 ∷ [])) of42 [] (step_tells c) refl refl
